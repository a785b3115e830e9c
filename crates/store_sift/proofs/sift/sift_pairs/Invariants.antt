-- `sift::sift_pairs` meets its contract. What holds at the loop's head, and that a turn keeps it, is in `Passing`.
use Rattle.store_pairs.specs.Tables.{SameTables}
use Rattle.store_sift.proofs.Passing.{Passing}
use Rattle.store_sift.proofs.sift.sift_pairs.Given as goal

abbrev pub invariant-loop-i : goal.invariant-loop-i
invariant-loop-i l =
    Passing l.fixed l.initial.linear l.initial.present l.initial.pairs.keys.now l.initial.pairs.weights.now l.fn.from l.linear l.present l.pairs.keys.now l.pairs.weights.now l.t l.i × SameTables l.initial.pairs l.pairs
