-- `run_give::give_bits` meets its contract.
use Rattle.run_give.proofs.Given.{Giving}
use Rattle.run_give.proofs.give_bits.Given as goal

abbrev pub invariant-loop-n : goal.invariant-loop-n
invariant-loop-n l = Giving l.on.circuit.now l.on.qubits.now l.k l.fn.part.from l.fn.part.bits l.v l.initial.values l.n l.left l.values
