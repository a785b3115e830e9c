-- `partner::wrong_gate` meets its contract: a carry reads its adder's kind, a division the largest gates of its lists.
use Rattle.circuit_references.proofs.Late.{lists-by}
use Rattle.circuit_references.proofs.Wrong.{adder-inside}
use Rattle.circuit_references.proofs.partner.wrong_gate.Goals as goal

pub kind_byte_at-adder-requires : goal.kind_byte_at-adder-requires
kind_byte_at-adder-requires c = adder-inside _ c.requires.0 _ c.requires.1 c.kind_byte_at-kind.ensures c.field_at-x.ensures c.if-kind.true

pub returns : goal.returns
returns c = lists-by _ _ c.kind_byte_at-kind.ensures c.requires.0.regular.form c.requires.2 c.field_at-x.ensures c.field_at-y.ensures c.if-kind.false c.top_of-first.ensures c.top_of-second.ensures
