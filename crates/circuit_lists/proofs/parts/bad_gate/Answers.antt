-- `parts::bad_gate` meets its contract: it reads the record where the bad state stands.
use Rattle.std.proofs.Common.{ap, ◌∙◌, arith}
use Rattle.energy.specs.Circuit.{Bad}
use Rattle.units.specs.Name.{gate}
use Rattle.circuit_lists.proofs.Reading.{bad-inside, bad-read}
use Rattle.circuit_lists.proofs.parts.bad_gate.Goals as goal

pub overflow_add-first : goal.overflow_add-first
overflow_add-first c = omega (arith, bad-inside c.requires.0 c.requires.1 c.requires.2)

pub overflow_add-first-2 : goal.overflow_add-first-2
overflow_add-first-2 c = omega (arith, bad-inside c.requires.0 c.requires.1 c.requires.2)

pub field_at-requires : goal.field_at-requires
field_at-requires c = omega (arith, bad-inside c.requires.0 c.requires.1 c.requires.2)

pub returns : goal.returns
returns c = ap gate (c.field_at.ensures ∙ ap (λ (x : Bad). x.gate) (bad-read c.requires.0 c.requires.1 c.requires.2))
