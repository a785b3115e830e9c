-- `run_tables::run_on` meets its contract.
use Rattle.std.proofs.Common.{drop, ap, ◌∙◌, lt-ltb}
use Rattle.run_meaning.specs.Ran.{beside, ran}
use Rattle.run_tables.proofs.Ending.{ran-inside}
use Rattle.run_tables.proofs.run_on.Goals as goal

pub returns-then-values-on : goal.returns-then-values-on
unfolding ran
returns-then-values-on c = rw (lt-ltb _ _ c.if-values-on.true, c.refused.ensures)

pub returns : goal.returns
returns c =
    ap (beside (drop c.args.on.now.names c.args.values.now)) c.run_within.ensures
    ∙ ran-inside _ c.args.inputs.now c.args.values.now c.if-values-on.false
