-- `store_ising::sum_of` meets its contract: what is summed and what is left is the whole (`Turns`).
use Rattle.store_ising.proofs.Turns.{Summing}
use Rattle.store_ising.proofs.sum_of.Given as goal

abbrev pub invariant-loop-c : goal.invariant-loop-c
invariant-loop-c l = Summing l.cs l.c-index l.s
