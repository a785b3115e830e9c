-- `run_tables::run_within` meets its contract.
use Rattle.std.proofs.Common.{◌≡◌, ℕ, replicate, sym, ap, ◌∙◌}
use Rattle.run_meaning.specs.Ran.{refusal}
use Rattle.run_tables.proofs.Ending.{other-count, halted, ended}
use Rattle.run_tables.proofs.run_within.Goals as goal
use Rattle.run_tables.proofs.run_within.Goals.{After-fill_u8}

-- all values are unknown
unknown : (c : After-fill_u8) → c.fill_u8.new.t ≡ replicate c.args.on.now.names 2
unknown c = c.fill_u8.ensures ∙ ap (λ (n : ℕ). replicate n 2) (sym c.requires.1)

pub returns-then-inputs-count : goal.returns-then-inputs-count
returns-then-inputs-count c =
    other-count c.args.on.now c.args.model.now c.requires.0.modeled.even c.args.inputs.now c.requires.0.count c.if-inputs-count.true c.refused.ensures
    (unknown (goal.at.returns-then-inputs-count c).After-fill_u8)

pub returns-in-Ok : goal.returns-in-Ok
returns-in-Ok c =
    ended c.args.on.now c.args.model.now c.requires.0.modeled.even c.args.inputs.now c.requires.0.count c.if-inputs-count.false c.args.total c.requires.0.ready.laid.bads c.requires.0.bads
    (unknown (goal.at.returns-in-Ok c).After-fill_u8)
    c.in-Ok.ensures
    (c.answer_at.ensures _ _ _)

pub returns-in-Err : goal.returns-in-Err
returns-in-Err c =
    halted c.args.on.now c.args.model.now c.requires.0.modeled.even c.args.inputs.now c.requires.0.count c.if-inputs-count.false
    (unknown (goal.at.returns-in-Err c).After-fill_u8)
    c.in-Err.ensures
    (c.refused-in-Err.ensures ∙ ap refusal c.from.ensures)
    (c.fill_u8-in-Err.ensures ∙ ap (λ (n : ℕ). replicate n 2) (c.find_values.auto.values ∙ c.fill_u8.auto.t ∙ sym c.requires.1))
