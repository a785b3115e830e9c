-- `parts::fill_model` meets its contract: how the numbering ended decides, then the clash, or the model in the tables (`Parts`).
use Rattle.std.proofs.Common.{sym, ◌∙◌, ap, ℕ, arith, replicate}
use Rattle.laws.specs.Handed.{handed_on}
use Rattle.circuit.specs.Meaning.{circuit_of}
use Rattle.qubot_fill.specs.Parts.{gates-few, list-bits-few, bads-few, counted, good, blank_of, model-filled, model-clashed, whole_of}
use Rattle.qubot_fill.proofs.parts.fill_model.Goals as goal

pub overflow_add-bads : goal.overflow_add-bads
overflow_add-bads c = let p = c.requires.0 in omega (arith, gates-few p, list-bits-few p)

pub overflow_add-numbered : goal.overflow_add-numbered
overflow_add-numbered c = let p = c.requires.0 in omega (arith, gates-few p, list-bits-few p, bads-few p)

pub make_model-requires : goal.make_model-requires
make_model-requires c =
    let z = c.clear_model.ensures in (
      good c.requires.0 _ (sym (rw c.in_ok-next.was at c.requires.3)),
      blank_of (circuit_of c.args.circuit.now) c.requires.2 z.0 z.1 z.2 z.4 z.5,
      z.3 ∙ ap (λ (x : ℕ). replicate x 0) c.requires.2.fixed,
      (counted c.requires.0).bads,
      (counted c.requires.0).constraints,
    )

pub returns-in_err-next : goal.returns-in_err-next
returns-in_err-next c =
    rw (handed_on _ c.from_residual.ensures.1)
    (whole_of c.args.form (circuit_of c.args.circuit.now) (rw c.in_err-next.was at c.requires.3))

pub returns-in_err-counted : goal.returns-in_err-counted
returns-in_err-counted c =
    rw (handed_on _ c.from_residual-in_err-counted.ensures.1)
    (model-clashed c.args.form (circuit_of c.args.circuit.now) _ c.in_err-counted.ensures
    ∙ whole_of c.args.form (circuit_of c.args.circuit.now) (rw c.in_ok-next.was at c.requires.3))

pub returns : goal.returns
returns c =
    model-filled c.args.form (circuit_of c.args.circuit.now) _ c.in_ok-counted.ensures
    ∙ whole_of c.args.form (circuit_of c.args.circuit.now) (rw c.in_ok-next.was at c.requires.3)
