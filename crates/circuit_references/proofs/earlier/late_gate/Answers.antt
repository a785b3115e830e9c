-- `earlier::late_gate` meets its contract: a division goes by its lists' largest gates, any other gate by its fields.
use Rattle.circuit_references.proofs.Late.{late-lists, late-fields}
use Rattle.circuit_references.proofs.earlier.late_gate.Goals as goal

pub returns-then-kind-ge12 : goal.returns-then-kind-ge12
returns-then-kind-ge12 c = late-lists _ _ c.kind_byte_at-kind.ensures c.requires.1 c.requires.2 c.field_at-x.ensures c.field_at-y.ensures c.if-kind-ge12.true c.top_of-first.ensures c.top_of-second.ensures

pub returns : goal.returns
returns c = late-fields _ _ c.kind_byte_at-kind.ensures c.field_at-x.ensures c.field_at-y.ensures c.field_at-z.ensures c.if-kind-ge12.false c.used_fields-used.ensures
