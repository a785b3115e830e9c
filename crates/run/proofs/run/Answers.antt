-- `run::run` meets its contract: the build, and then the run on what it left.
use Rattle.std.proofs.Common.{◌≡◌}
use Rattle.qubot_left.specs.Built.{Tables}
use Rattle.qubot_left.specs.Lent.{lent_in}
use Rattle.run_meaning.specs.Ran.{Done}
use Rattle.run_left.specs.Evaluated.{ran_by, evaluated, by-build}
use Rattle.run_left.specs.Left.{LeftBy, left_by}
use Rattle.run.proofs.run.Goals as goal
use Rattle.run.proofs.run.Goals.{After-build-built}

-- the tables as the build left them
abbrev left : After-build-built → Tables
left m = lent_in m.build-built.new.tables

-- what follows from the build's answer
fit : (m : After-build-built) → LeftBy m.args.circuit.now (left m) m.build-built.result
fit m = left_by m.args.circuit.now m.args.form (lent_in m.args.tables.now) (left m) m.build-built.result m.build-built.ensures.left

answered : (m : After-build-built) (d : Done) → d ≡ ran_by m.args.circuit.now m.args.inputs.now m.args.values.now (left m) m.build-built.result
    → (left m, d) ≡ evaluated m.args.circuit.now m.args.form (lent_in m.args.tables.now) m.args.inputs.now m.args.values.now
answered m d e =
    by-build m.args.circuit.now m.args.form (lent_in m.args.tables.now) (left m) m.args.inputs.now m.args.values.now m.build-built.result d
    m.build-built.ensures.left
    e

pub run_built-requires : goal.run_built-requires
run_built-requires c = fit (goal.at.run_built-requires c).After-build-built

pub returns-clause-left : goal.returns-clause-left
returns-clause-left c = answered (goal.at.returns-clause-left c).After-build-built _ c.run_built.ensures
