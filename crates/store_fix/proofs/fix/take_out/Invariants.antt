-- `fix::take_out` meets its contract. What holds at the loop's head, and that a turn keeps it, is in `Removing`.
use Rattle.store_pairs.specs.Tables.{SameTables}
use Rattle.store_fix.proofs.Removing.{Removing}
use Rattle.store_fix.proofs.fix.take_out.Given as goal

abbrev pub invariant-loop-i : goal.invariant-loop-i
invariant-loop-i l = Removing l.initial.pairs.keys.now l.initial.pairs.weights.now l.n l.q l.on l.initial.linear l.initial.present l.pairs.keys.now l.pairs.weights.now l.linear l.present l.m l.i × SameTables l.initial.pairs l.pairs
