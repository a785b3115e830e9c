-- `run_meaning::needs::need_bads` meets its contract.
use Rattle.std.proofs.Common.{drop, ◌-◌, ◌≤◌}
use Rattle.circuit.specs.Meaning.{circuit_of}
use Rattle.run_meaning.proofs.Left.{Left}
use Rattle.run_meaning.specs.Ran.{bad_qubits}
use Rattle.run_values.specs.Asking.{state_in}
use Rattle.run_meaning.proofs.needs.need_bads.Given as goal

abbrev pub invariant-loop-n : goal.invariant-loop-n
invariant-loop-n l = (l.on.bads ≤ l.n) × Left l.on.circuit.now l.on.starts.now l.on.bads (state_in l.on) l.on.fixed.now l.initial.values (bad_qubits (circuit_of l.on.circuit.now) (state_in l.on)) (drop (l.n - l.on.bads) (bad_qubits (circuit_of l.on.circuit.now) (state_in l.on))) l.values
