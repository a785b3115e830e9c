-- `store_ising::turn_pairs` meets its contract. The table is the weights that the loop writes, and those not in use. What holds at the loop's head, and that a turn keeps it, is in `Turns`.
use Rattle.std.proofs.Common.{◌++◌, drop}
use Rattle.store_ising.proofs.Turns.{Turns}
use Rattle.store_ising.proofs.turn_pairs.Given as goal

abbrev pub invariant-loop-i : goal.invariant-loop-i
invariant-loop-i l = Turns l.keys l.fn.weights l.n l.initial.linear l.initial.present (l.weight-items ++ drop l.n l.fn.weights) l.linear l.present l.i
