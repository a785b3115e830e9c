-- `run_meaning::needs::need_linear` meets its contract.
use Rattle.std.proofs.Common.{drop}
use Rattle.run_meaning.proofs.Left.{Left}
use Rattle.run_meaning.specs.Ran.{marked}
use Rattle.run_values.specs.Asking.{state_in}
use Rattle.run_meaning.proofs.needs.need_linear.Given as goal

abbrev pub invariant-loop-q : goal.invariant-loop-q
invariant-loop-q l = Left l.on.circuit.now l.on.starts.now l.on.bads (state_in l.on) l.on.fixed.now l.initial.values (marked 0 l.flags) (marked l.q (drop l.q l.flags)) l.values
