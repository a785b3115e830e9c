-- `store_ising::halve_all` meets its contract: what is halved and the halves of what is left are the whole (`Turns`).
use Rattle.store_ising.proofs.Turns.{Halving}
use Rattle.store_ising.proofs.halve_all.Given as goal

abbrev pub invariant-loop-c : goal.invariant-loop-c
invariant-loop-c l = Halving l.initial.cs l.cs l.c-index
