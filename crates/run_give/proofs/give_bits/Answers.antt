-- `run_give::give_bits` meets its contract.
use Rattle.std.proofs.Common.{to_z-of_z, to_z, SFits, Fits-lit, w64, ap, ◌∙◌}
use Rattle.std.proofs.Math.Facts.{to_z_inj}
use Rattle.run_values.proofs.Exits.{returned}
use Rattle.run_give.proofs.Given.{give-on, gate-asked, give-stop, used-up, not-used-up}
use Rattle.run_give.proofs.give_bits.Goals as goal

pub set_bit-requires : goal.set_bit-requires
set_bit-requires c = gate-asked c.loop-n.invariant c.loop-n-test.true c.requires c.field_at-g.ensures

pub returns-in_err-set_bit : goal.returns-in_err-set_bit
returns-in_err-set_bit c =
    returned c.from_residual.result _ c.from_residual.ensures.1
    (rw (to_z-of_z c.ranges.v) at (give-stop c.loop-n.invariant c.loop-n-test.true c.field_at-g.ensures c.low_bit.ensures c.in_err-set_bit.ensures))

pub loop-n-preserved : goal.loop-n-preserved
loop-n-preserved c =
    let ok : SFits w64 c.half_of-left.result = record { sfits = c.half_of-left.type_inv } in
    give-on c.loop-n.invariant c.loop-n-test.true c.field_at-g.ensures c.low_bit.ensures c.in_ok-set_bit.ensures c.set_bit.auto.values (to_z-of_z ok ∙ c.half_of-left.ensures)

pub returns-then-left-eq0 : goal.returns-then-left-eq0
returns-then-left-eq0 c = rw (to_z-of_z c.ranges.v) at (used-up c.loop-n.invariant c.loop-n-test.false (ap (to_z w64) c.if-left-eq0.true))

pub returns-else-left-eq0 : goal.returns-else-left-eq0
returns-else-left-eq0 c = rw (to_z-of_z c.ranges.v) at (not-used-up c.loop-n.invariant c.loop-n-test.false (λ e. c.if-left-eq0.false (to_z_inj c.loop-n.auto.left-fits (Fits-lit tt) e)))
