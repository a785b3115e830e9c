-- `sift::give_pair` meets its contract: the three ways of a pair with a fixed end (`Gives`). The weights go through locals.
use Rattle.std.proofs.Common.{◌≡◌, ap, ◌∙◌, arith, eqb, nat_abs, get_or, w64, to_z, of_z, to_z-of_z}
use Rattle.energy.specs.Model.{low, high, gated}
use Rattle.store.specs.Tables.{gained, marked}
use Rattle.store_sift.proofs.Gives.{read_back, gift-small, to_low, to_high, to-offset}
use Rattle.store_sift.proofs.sift.give_pair.Goals as goal

pub add_linear-requires : goal.add_linear-requires
add_linear-requires c =
    let a = c.args in
    let x = get_or a.fixed.now (low a.key) 0 in
    let y = get_or a.fixed.now (high a.key) 0 in
    let by_high : to_z w64 (of_z w64 c.gated-v.result) ≡ gated (eqb y 2) a.w = read_back (eqb y 2) c.gated-v.type_inv c.ranges.w (rw c.high_of-high.ensures at c.gated-v.ensures) in
    let p = c.requires in
    rw c.low_of-low.ensures
    (p.low-in, omega (arith, p.low-in, p.present), omega (arith, gift-small p (low a.key) (eqb y 2), ap nat_abs by_high))

pub returns-then-x-eq0 : goal.returns-then-x-eq0
returns-then-x-eq0 c =
    let a = c.args in
    let x = get_or a.fixed.now (low a.key) 0 in
    let y = get_or a.fixed.now (high a.key) 0 in
    let by_high : to_z w64 (of_z w64 c.gated-v.result) ≡ gated (eqb y 2) a.w = read_back (eqb y 2) c.gated-v.type_inv c.ranges.w (rw c.high_of-high.ensures at c.gated-v.ensures) in
    λ o rs s. to_low c.requires o rs s (rw c.low_of-low.ensures at c.if-x-eq0.true) ((rw c.low_of-low.ensures at c.add_linear.ensures.linear_after) ∙ ap (λ z. gained (low a.key) z a.linear.now) by_high) ((rw c.low_of-low.ensures at c.add_linear.ensures.present_after) ∙ ap (λ z. marked (low a.key) z a.present.now) by_high)

pub add_linear-requires-then-y-eq0 : goal.add_linear-requires-then-y-eq0
add_linear-requires-then-y-eq0 c =
    let a = c.args in
    let x = get_or a.fixed.now (low a.key) 0 in
    let y = get_or a.fixed.now (high a.key) 0 in
    let by_low : to_z w64 (of_z w64 c.gated-u.result) ≡ gated (eqb x 2) a.w = read_back (eqb x 2) c.gated-u.type_inv c.ranges.w (rw c.low_of-low.ensures at c.gated-u.ensures) in
    let p = c.requires in
    rw c.high_of-high.ensures
    (p.high-in, omega (arith, p.high-in, p.present), omega (arith, gift-small p (high a.key) (eqb x 2), ap nat_abs by_low))

pub returns-then-y-eq0 : goal.returns-then-y-eq0
returns-then-y-eq0 c =
    let a = c.args in
    let x = get_or a.fixed.now (low a.key) 0 in
    let y = get_or a.fixed.now (high a.key) 0 in
    let by_low : to_z w64 (of_z w64 c.gated-u.result) ≡ gated (eqb x 2) a.w = read_back (eqb x 2) c.gated-u.type_inv c.ranges.w (rw c.low_of-low.ensures at c.gated-u.ensures) in
    λ o rs s. to_high c.requires o rs s (rw c.low_of-low.ensures at c.if-x-eq0.false) (rw c.high_of-high.ensures at c.if-y-eq0.true) ((rw c.high_of-high.ensures at c.add_linear-then-y-eq0.ensures.linear_after) ∙ ap (λ z. gained (high a.key) z a.linear.now) by_low) ((rw c.high_of-high.ensures at c.add_linear-then-y-eq0.ensures.present_after) ∙ ap (λ z. marked (high a.key) z a.present.now) by_low)

pub returns : goal.returns
returns c =
    let a = c.args in
    let x = get_or a.fixed.now (low a.key) 0 in
    let y = get_or a.fixed.now (high a.key) 0 in
    let by_high : to_z w64 (of_z w64 c.gated-v.result) ≡ gated (eqb y 2) a.w = read_back (eqb y 2) c.gated-v.type_inv c.ranges.w (rw c.high_of-high.ensures at c.gated-v.ensures) in
    to-offset c.requires (rw c.low_of-low.ensures at c.if-x-eq0.false) (rw c.high_of-high.ensures at c.if-y-eq0.false) _ (to_z-of_z {w = w64} (record { sfits = c.gated.type_inv }) ∙ (rw c.low_of-low.ensures at c.gated.ensures) ∙ ap (gated (eqb x 2)) by_high)
