-- `enter::enter_value` meets its contract (`Gives`). The two numbers of the sum go through locals.
use Rattle.std.proofs.Common.{refl, ap, arith, ◌≤◌, ◌+ℤ◌, nat_abs, w64, SFits, to_z-of_z}
use Rattle.laws.specs.Abs.{abs-add, fits-abs}
use Rattle.energy.specs.Model.{sizes}
use Rattle.energy.specs.Mass.{abs-gated, sizes-at}
use Rattle.store_sift.proofs.Gives.{offset-fits, enter-fits, entered}
use Rattle.store_sift.proofs.enter.enter_value.Goals as goal

pub overflow_add-result : goal.overflow_add-result
overflow_add-result c =
    let old = c.args.t.offset in
    let clear = c.enter-given in
    let gift-fits : SFits w64 clear.result = record { sfits = clear.type_inv } in
    let gift-small : nat_abs clear.result ≤ sizes c.args.linear.now = omega (arith, ap nat_abs clear.ensures.value, abs-gated, sizes-at c.args.linear.now c.args.q.0) in
    simp (to_z-of_z (offset-fits c.requires c.args.on), to_z-of_z gift-fits) (fits-abs w64 _ (omega (arith, abs-add old clear.result, gift-small, c.requires.small)))

pub returns : goal.returns
returns c =
    let clear = c.enter-given in
    let gift-fits : SFits w64 clear.result = record { sfits = clear.type_inv } in
    let sum-fits : SFits w64 (c.args.t.offset +ℤ clear.result) = enter-fits c.requires c.args.on clear.ensures.value in
    (refl, entered c.requires c.args.on clear.result _ clear.ensures.value (simp (to_z-of_z (offset-fits c.requires c.args.on), to_z-of_z gift-fits, to_z-of_z sum-fits)) clear.ensures.linear_after clear.ensures.present_after clear.ensures.rows_after clear.ensures.fixed_after)
