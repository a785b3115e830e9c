-- `partner::mark` meets its contract: what is marked is what has been listed.
use Rattle.circuit_references.proofs.Wrong.{input-small, marked, unmarked}
use Rattle.circuit_references.proofs.partner.mark.Goals as goal

pub bounds-marks-g : goal.bounds-marks-g
bounds-marks-g c = (input-small _ c.requires.0 _ c.requires.1 c.kind_byte_at-kind.ensures c.if-kind-eq23.true c.field_at-g.ensures).1

pub returns-then-kind-eq23 : goal.returns-then-kind-eq23
returns-then-kind-eq23 c = marked _ c.requires.0 _ c.requires.1 c.kind_byte_at-kind.ensures c.if-kind-eq23.true c.requires.2 c.field_at-g.ensures

pub returns-else-kind-eq23 : goal.returns-else-kind-eq23
returns-else-kind-eq23 c = unmarked _ c.requires.0 _ c.requires.1 c.kind_byte_at-kind.ensures c.if-kind-eq23.false c.requires.2
