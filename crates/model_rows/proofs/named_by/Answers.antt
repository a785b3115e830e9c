-- `model_rows::named_by` meets its contract.
use Rattle.std.proofs.Common.{ap, ◌∙◌, ℕ, ◌-◌, get_or}
use Rattle.model_rows.proofs.named_by.Goals as goal

pub qubit_of-requires : goal.qubit_of-requires
qubit_of-requires c =
    let f = (c.from-g.ensures ∙ c.field_at.ensures) in
    (rw f c.requires.inside, rw f c.requires.some)

pub returns : goal.returns
returns c = c.qubit_of.ensures ∙ ap (λ (g : ℕ). get_or c.args.qubits.now g 0 - 1) (c.from-g.ensures ∙ c.field_at.ensures)
