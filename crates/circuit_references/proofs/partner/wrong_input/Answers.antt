-- `partner::wrong_input` meets its contract: an input bit's gate is a gate, so its kind and its mark can be read.
use Rattle.std.proofs.Common.{sym, ◌∙◌}
use Rattle.circuit_references.proofs.Wrong.{input-small, input-by}
use Rattle.circuit_references.proofs.partner.wrong_input.Goals as goal

pub kind_byte_at-requires : goal.kind_byte_at-requires
kind_byte_at-requires c = (input-small _ c.requires.0 _ c.requires.1 c.kind_byte_at-kind.ensures c.if-kind-eq23.true c.field_at-g.ensures).0

pub bounds-marks-g : goal.bounds-marks-g
bounds-marks-g c = (input-small _ c.requires.0 _ c.requires.1 c.kind_byte_at-kind.ensures c.if-kind-eq23.true c.field_at-g.ensures).1

pub returns-else-kind_byte_at-ne2 : goal.returns-else-kind_byte_at-ne2
returns-else-kind_byte_at-ne2 c = input-by _ c.requires.0 _ c.requires.1 c.kind_byte_at-kind.ensures c.if-kind-eq23.true c.requires.2 c.field_at-g.ensures (sym c.kind_byte_at.ensures ∙ c.if-kind_byte_at-ne2.false)
