-- `circuit_lists::starts_of` meets its contract. The loop's invariant: the numbers that have begun have their entry, and the others have the end.
use Rattle.circuit_lists.proofs.Starting.{Starting}
use Rattle.circuit_lists.proofs.starts_of.Given as goal

abbrev pub invariant-loop-n : goal.invariant-loop-n
invariant-loop-n l = Starting l.c l.kind l.end l.n l.next l.starts
