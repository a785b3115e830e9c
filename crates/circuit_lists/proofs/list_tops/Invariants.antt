-- `circuit_lists::list_tops` meets its contract. The loop's invariant: with the bits that are left, the table has the largest gate of each list.
use Rattle.circuit_lists.proofs.Topping.{Topping}
use Rattle.circuit_lists.proofs.list_tops.Given as goal

abbrev pub invariant-loop-n : goal.invariant-loop-n
invariant-loop-n l = Topping l.c l.n l.tops
