-- `enter_all` meets its contract: before each turn the values so far are entered, without a clash (`Fixing`).
use Rattle.model_fixes.specs.Fixing.{fixes_by, Entering}
use Rattle.model_fix_all.proofs.enter_all.Given as goal

abbrev pub invariant-loop-k : goal.invariant-loop-k
invariant-loop-k l =
    Entering (fixes_by l.numbered.circuit.now l.numbered.qubits.now l.numbered.next.0) l.k l.initial.t l.initial.linear l.initial.present l.initial.rows l.initial.fixed l.t l.linear l.present l.rows l.fixed
