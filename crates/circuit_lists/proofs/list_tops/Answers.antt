use Rattle.circuit_lists.proofs.Topping.{topping-start, list-small, turn-bit, turn-other, topping-done}
use Rattle.circuit_lists.proofs.list_tops.Goals as goal
use Rattle.circuit_lists.proofs.list_tops.Goals.{then-kind_byte_at-eq20, else-kind_byte_at-eq20}

pub loop-n-init : goal.loop-n-init
loop-n-init c = topping-start _

pub bounds-tops-k : goal.bounds-tops-k
bounds-tops-k c = list-small _ c.requires c.loop-n-test.true c.kind_byte_at.ensures c.if-kind_byte_at-eq20.true c.field_at-k.ensures

pub bounds-tops-k-then-kind_byte_at-eq20 : goal.bounds-tops-k-then-kind_byte_at-eq20
bounds-tops-k-then-kind_byte_at-eq20 c = list-small _ c.requires c.loop-n-test.true c.kind_byte_at.ensures c.if-kind_byte_at-eq20.true c.field_at-k.ensures

pub loop-n-preserved : goal.loop-n-preserved
loop-n-preserved c =
    elim c.if-kind_byte_at-eq20.branch [
      | then-kind_byte_at-eq20 w ↦
          rw w.tops-is
          (turn-bit _ c.requires c.loop-n.invariant c.loop-n-test.true c.kind_byte_at.ensures w.if-kind_byte_at-eq20.true w.field_at-k.ensures w.field_at-gate.ensures w.max.ensures)
      | else-kind_byte_at-eq20 w ↦ rw w.tops-is (turn-other _ c.requires c.loop-n.invariant c.loop-n-test.true c.kind_byte_at.ensures w.if-kind_byte_at-eq20.false)
    ]

pub returns : goal.returns
returns c = topping-done _ c.loop-n-test.false c.loop-n.invariant
