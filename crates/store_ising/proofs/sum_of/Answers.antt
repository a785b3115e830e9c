use Rattle.std.proofs.Common.{arith, pos, ◌+ℤ◌, get_or, w64, SFits, to_z, to_z-of_z}
use Rattle.laws.specs.Abs.{fits-abs}
use Rattle.store_ising.proofs.Turns.{sum-small, term-small, sum-turn}
use Rattle.store_ising.proofs.sum_of.Goals as goal

pub loop-c-preserved : goal.loop-c-preserved
loop-c-preserved c =
    let inv = c.loop-c.invariant in
    let entry = get_or c.args.cs.now c.loop-c.c-index (pos 0) in
    let entry-fits : SFits w64 entry = fits-abs w64 _ (omega (arith, term-small inv c.loop-c-test.true, c.requires)) in
    let sum-fits : SFits w64 (to_z w64 c.loop-c.s-bits +ℤ entry) = fits-abs w64 _ (omega (arith, sum-small inv c.loop-c-test.true, c.requires)) in
    sum-turn inv c.loop-c-test.true (simp (to_z-of_z entry-fits, to_z-of_z sum-fits))
