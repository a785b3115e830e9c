-- `partner::first_wrong` meets its contract. The loop's invariant: the marks are of the records before n, and the first wrong record of the rest is the first of all.
use Rattle.std.proofs.Common.{◌-◌, ◌≡◌}
use Rattle.circuit.specs.File.{records}
use Rattle.circuit.specs.Search.{first_such}
use Rattle.circuit.specs.Partner.{wrong, first_wrong}
use Rattle.circuit.specs.Marks.{Marks}
use Rattle.circuit_references.proofs.partner.first_wrong.Given as goal

abbrev pub invariant-loop-n : goal.invariant-loop-n
invariant-loop-n l = Marks l.c l.n l.marks × (first_such (wrong l.c) l.n (records l.c - l.n) ≡ first_wrong l.c)
