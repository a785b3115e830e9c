-- `circuit_sizes::how_many` meets its contract. The loop's invariant: the count is that of the records before n.
use Rattle.std.proofs.Common.{◌≡◌}
use Rattle.circuit.specs.Meaning.{numbers_to, how_many}
use Rattle.circuit_sizes.proofs.how_many.Given as goal

abbrev pub invariant-loop-n : goal.invariant-loop-n
invariant-loop-n l = l.count ≡ how_many (numbers_to l.c l.kind l.n)
