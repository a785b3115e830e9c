-- `run_give::give_all` meets its contract.
use Rattle.std.proofs.Common.{length}
use Rattle.run_give.proofs.Given.{GivingAll}
use Rattle.run_give.proofs.give_all.Given as goal

abbrev pub invariant-loop-i : goal.invariant-loop-i
invariant-loop-i l = GivingAll l.on.circuit.now l.input_starts l.on.qubits.now (length l.initial.values) l.inputs l.initial.values l.i l.values
