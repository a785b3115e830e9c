-- `count::count_variables` meets its contract: what is counted and what is left is the whole (`Energies`).
use Rattle.std.proofs.Common.{length}
use Rattle.store.proofs.Energies.{Counting}
use Rattle.store.proofs.count.count_variables.Given as goal

abbrev pub invariant-loop-has_linear : goal.invariant-loop-has_linear
invariant-loop-has_linear l = Counting l.present l.rows l.n (length l.yielded)
