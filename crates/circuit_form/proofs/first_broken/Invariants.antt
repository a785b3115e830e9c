-- `circuit_form::first_broken` meets its contract. The loop's invariant: what is kept holds of the records before n, and the first broken record of the rest is the first of all.
use Rattle.std.proofs.Common.{◌-◌, ◌≡◌}
use Rattle.circuit.specs.File.{records}
use Rattle.circuit.specs.Search.{first_such}
use Rattle.circuit.specs.Form.{breaks, first_broken}
use Rattle.circuit.specs.Passing.{Holds}
use Rattle.circuit_form.proofs.first_broken.Given as goal

abbrev pub invariant-loop-n : goal.invariant-loop-n
invariant-loop-n l = Holds l.c l.n l.p × (first_such (breaks l.c) l.n (records l.c - l.n) ≡ first_broken l.c)
