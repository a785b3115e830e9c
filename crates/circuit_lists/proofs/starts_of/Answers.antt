use Rattle.std.proofs.Common.{arith}
use Rattle.circuit.specs.Starts.{few-records, ends-small}
use Rattle.circuit_lists.proofs.Starting.{starting-start, turn-new, turn-same, starting-done}
use Rattle.circuit_lists.proofs.starts_of.Goals as goal
use Rattle.circuit_lists.proofs.starts_of.Goals.{then-kind_byte_at-kind+then-k-next, else-kind_byte_at-kind, else-kind_byte_at-kind-via-then-kind_byte_at-kind+else-k-next, else-kind_byte_at-kind-via-else-kind_byte_at-kind}

pub overflow_cast-starts : goal.overflow_cast-starts
overflow_cast-starts c = omega (arith, ends-small _ _ _ c.requires)

pub loop-n-init : goal.loop-n-init
loop-n-init c = starting-start _ _ _ c.requires

pub overflow_cast-starts-then-k-next : goal.overflow_cast-starts-then-k-next
overflow_cast-starts-then-k-next c = omega (arith, few-records _ c.requires.regular)

pub loop-n-preserved : goal.loop-n-preserved
loop-n-preserved c =
    let i = c.kind_byte_at.ensures in
    let j = c.field_at-k.ensures in
    elim c.if-kind_byte_at-kind.branch [
      | then-kind_byte_at-kind+then-k-next w ↦
          rw (w.starts-is, w.next-is) (turn-new _ _ _ c.requires c.loop-n.invariant c.loop-n-test.true i j w.if-kind_byte_at-kind.true w.if-k-next.true)
      | else-kind_byte_at-kind w ↦
          rw (w.starts-is, w.next-is)
          (turn-same _ _ _ c.requires c.loop-n.invariant c.loop-n-test.true i j
          (λ e f.
          elim w.else-kind_byte_at-kind.branch [
            | else-kind_byte_at-kind-via-then-kind_byte_at-kind+else-k-next x ↦ x.if-k-next.false f
            | else-kind_byte_at-kind-via-else-kind_byte_at-kind x ↦ x.if-kind_byte_at-kind.false e
          ]))
    ]

pub returns : goal.returns
returns c = starting-done _ _ _ c.requires c.loop-n.auto.n-end c.loop-n-test.false c.loop-n.invariant
