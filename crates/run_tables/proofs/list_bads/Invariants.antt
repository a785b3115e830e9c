-- `run_tables::list_bads` meets its contract.
use Rattle.run_tables.proofs.Trues.{Listed}
use Rattle.run_tables.proofs.list_bads.Given as goal

abbrev pub invariant-loop-n : goal.invariant-loop-n
invariant-loop-n l = Listed l.on.circuit.now l.on.qubits.now l.values l.on.bads l.total l.nids l.count l.n
