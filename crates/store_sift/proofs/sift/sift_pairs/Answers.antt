use Rattle.std.proofs.Common.{refl, arith, w64, SFits, to_z-of_z}
use Rattle.laws.specs.Abs.{fits-abs}
use Rattle.store_pairs.specs.Tables.{same-start, same-then}
use Rattle.store_pairs.proofs.Entries.{weights-long}
use Rattle.store_sift.proofs.Passing.{from-small, starts, turn, turned, passed}
use Rattle.store_sift.proofs.sift.sift_pairs.Goals as goal

pub loop-i-init : goal.loop-i-init
loop-i-init c =
    let from-fits : SFits w64 c.args.from.offset = fits-abs w64 _ (omega (arith, from-small c.requires)) in
    (starts c.requires _ (to_z-of_z from-fits) refl, same-start)

pub sift_one-t-requires : goal.sift_one-t-requires
sift_one-t-requires c = turn c.requires c.loop-i.invariant.0 c.loop-i-test.true

pub loop-i-preserved : goal.loop-i-preserved
loop-i-preserved c =
    let one = c.sift_one-t in
    (turned c.requires c.loop-i.invariant.0 c.loop-i-test.true one.auto.linear one.auto.present one.ensures.same.long (weights-long one.ensures.same) one.ensures.by_index one.ensures.count_bound.0 one.ensures.count_bound.1, same-then c.loop-i.invariant.1 one.ensures.same)

pub returns : goal.returns
returns c =
    record {
      tables = passed c.requires c.loop-i.invariant.0 c.loop-i-test.false c.clear.new.self.keys.now c.clear.new.self.weights.now c.clear.ensures.entries;
      same = same-then c.loop-i.invariant.1 c.clear.ensures.same;
    }
