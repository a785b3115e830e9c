-- `circuit_sizes::count_kinds` meets its contract. The loop's invariant: the count is that of the records before n.
use Rattle.std.proofs.Common.{◌≡◌}
use Rattle.circuit.specs.File.{is_kind}
use Rattle.circuit.specs.Count.{count_before}
use Rattle.circuit_sizes.proofs.count_kinds.Given as goal

abbrev pub invariant-loop-n : goal.invariant-loop-n
invariant-loop-n l = l.count ≡ count_before (is_kind l.c l.low l.high) l.n
