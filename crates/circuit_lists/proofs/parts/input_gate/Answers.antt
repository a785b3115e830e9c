-- `parts::input_gate` meets its contract: it reads the record where the bit stands.
use Rattle.std.proofs.Common.{ap, ◌∙◌, arith}
use Rattle.units.specs.Name.{gate}
use Rattle.circuit_lists.proofs.Reading.{input-inside, bit-inside, bit-read}
use Rattle.circuit_lists.proofs.parts.input_gate.Goals as goal

pub offset_bounds-starts-k : goal.offset_bounds-starts-k
offset_bounds-starts-k c = omega (arith, input-inside c.requires.0 c.requires.1 c.requires.2)

pub bounds-starts-k : goal.bounds-starts-k
bounds-starts-k c = omega (arith, input-inside c.requires.0 c.requires.1 c.requires.2)

pub overflow_add-from : goal.overflow_add-from
overflow_add-from c = omega (arith, input-inside c.requires.0 c.requires.1 c.requires.2, bit-inside c.requires.0 c.requires.1 c.requires.2 c.requires.3)

pub field_at-requires : goal.field_at-requires
field_at-requires c = omega (arith, bit-inside c.requires.0 c.requires.1 c.requires.2 c.requires.3)

pub returns : goal.returns
returns c = ap gate (c.field_at.ensures ∙ bit-read c.requires.0 c.requires.1 c.requires.2 c.requires.3)
