-- `text_dump::dump_model` meets its contract: the build, and then what it left is printed.
use Rattle.std.specs.Prelude.{Result}
use Rattle.std.proofs.Common.{◌≡◌, List, [], ℕ}
use Rattle.circuit.specs.declared.Refusal.{Refusal}
use Rattle.qubot_left.specs.Built.{Tables, lent}
use Rattle.qubot_left.specs.Lent.{lent_in}
use Rattle.text_left.specs.Dumped.{printed_by, dumped, by-build}
use Rattle.text_left.specs.Left.{LeftBy, left_by}
use Rattle.text_dump.proofs.dump_model.Goals as goal
use Rattle.text_dump.proofs.dump_model.Goals.{After-build-built}

-- the tables as the build left them, and those of them that are printed
abbrev left : After-build-built → Tables
left m = lent_in m.build-built.new.tables

abbrev printed : After-build-built → Tables
printed m = lent (left m).qubits [] [] (left m).linear (left m).has_linear [] (left m).fixed (left m).keys (left m).weights

-- what follows from the build's answer
fit : (m : After-build-built) → LeftBy m.args.circuit.now (printed m) m.build-built.result
fit m = left_by m.args.circuit.now m.args.form (lent_in m.args.tables.now) (left m) m.build-built.result m.build-built.ensures.left

answered : (m : After-build-built) (w : List ℕ × Result ℕ Refusal) → w ≡ printed_by m.args.circuit.now m.args.buf.now (printed m) m.build-built.result
    → (left m, w) ≡ dumped m.args.circuit.now m.args.form (lent_in m.args.tables.now) m.args.buf.now
answered m w e =
    by-build m.args.circuit.now m.args.form (lent_in m.args.tables.now) (left m) m.args.buf.now m.build-built.result w m.build-built.ensures.left e

pub print_built-requires : goal.print_built-requires
print_built-requires c = fit (goal.at.print_built-requires c).After-build-built

pub returns-clause-left : goal.returns-clause-left
returns-clause-left c = answered (goal.at.returns-clause-left c).After-build-built _ c.print_built.ensures
