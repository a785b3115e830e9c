use Rattle.std.proofs.Common.{◌+◌, refl, sym, ap, ◌∙◌}
use Rattle.circuit.specs.Meaning.{numbers_to, many-bit, many-other}
use Rattle.circuit_sizes.proofs.how_many.Goals as goal
use Rattle.circuit_sizes.proofs.how_many.Goals.{then-kind_byte_at-kind, else-kind_byte_at-kind}

pub loop-n-init : goal.loop-n-init
unfolding numbers_to
loop-n-init c = refl

pub loop-n-preserved : goal.loop-n-preserved
loop-n-preserved c =
    elim c.if-kind_byte_at-kind.branch [
      | then-kind_byte_at-kind w ↦ rw (w.count-is, many-bit _ _ _ (sym c.kind_byte_at.ensures ∙ w.if-kind_byte_at-kind.true)) (ap (λ x. x + 1) w.field_at.ensures)
      | else-kind_byte_at-kind w ↦ rw (w.count-is, many-other _ _ _ (λ e. w.if-kind_byte_at-kind.false (c.kind_byte_at.ensures ∙ e))) c.loop-n.invariant
    ]
