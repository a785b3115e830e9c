-- `earlier::first_late` meets its contract. The loop's invariant: the first late record of the rest is the first of all.
use Rattle.std.proofs.Common.{◌-◌, ◌≡◌}
use Rattle.circuit.specs.File.{records}
use Rattle.circuit.specs.Search.{first_such}
use Rattle.circuit.specs.Earlier.{late, first_late}
use Rattle.circuit_references.proofs.earlier.first_late.Given as goal

abbrev pub invariant-loop-n : goal.invariant-loop-n
invariant-loop-n l = first_such (late l.c) l.n (records l.c - l.n) ≡ first_late l.c
