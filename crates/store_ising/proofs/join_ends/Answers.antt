-- `store_ising::join_ends` meets its contract: two entries in turn (`Turns`).
use Rattle.std.proofs.Common.{◌≡◌, ap, ◌∙◌, arith, pos, ◌+ℤ◌, get_or, set, to_z-of_z}
use Rattle.energy.specs.Model.{low, high, sizes}
use Rattle.energy.specs.Mass.{sizes-at, sizes-gain}
use Rattle.store_ising.proofs.join_ends.Goals as goal

pub join_linear-requires : goal.join_linear-requires
join_linear-requires c =
    let a = c.args in
    rw c.low_of.ensures
    (c.requires.low-in, omega (arith, c.requires.low-in, c.requires.present), simp (to_z-of_z c.ranges.c) (omega (arith, c.requires.small, sizes-at a.linear.now (low a.key))))

pub join_linear-requires-2 : goal.join_linear-requires-2
join_linear-requires-2 c =
    let a = c.args in
    let bigger : c.join_linear.new.linear ≡ set a.linear.now (low a.key) (get_or a.linear.now (low a.key) (pos 0) +ℤ a.c) = (rw c.low_of.ensures at c.join_linear.ensures.linear_after) ∙ ap (λ z. set a.linear.now (low a.key) (get_or a.linear.now (low a.key) (pos 0) +ℤ z)) (to_z-of_z c.ranges.c) in
    rw c.high_of.ensures
    (omega (arith, c.requires.high-in, c.join_linear.auto.linear), omega (arith, c.requires.high-in, c.requires.present, c.join_linear.auto.present), simp (to_z-of_z c.ranges.c) (omega (arith, c.requires.small, sizes-at c.join_linear.new.linear (high a.key), ap sizes bigger, sizes-gain a.linear.now (low a.key) a.c)))
