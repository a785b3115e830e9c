-- `place::place` meets its contract: the offset, the linear coefficients and the pairs in turn (`Placing`).
use Rattle.std.proofs.Common.{sym, ◌∙◌, ◌≤◌, arith, ◌+ℤ◌, length, w64, SFits, to_z-of_z}
use Rattle.laws.specs.Abs.{abs-add, fits-abs}
use Rattle.energy.specs.Model.{halves}
use Rattle.energy.specs.Mass.{abs-halves}
use Rattle.store_pairs.specs.Tables.{entries_of}
use Rattle.store_pairs.proofs.Entries.{length_entries}
use Rattle.store.specs.Tables.{tables, tables_with}
use Rattle.store.proofs.Lent.{back}
use Rattle.store_place.specs.Wiring.{slots_of}
use Rattle.store_place.specs.Room.{filled}
use Rattle.store_place.proofs.Placing.{held, all_placed}
use Rattle.store_place.proofs.place.place.Goals as goal

pub returns : goal.returns
returns c =
    let a = c.args in
    let r = c.requires in
    let off = a.p.offset in
    let old = a.t.offset in
    let off-fits : SFits w64 off = fits-abs w64 _ (omega (arith, r.few.offset)) in
    let old-fits : SFits w64 old = fits-abs w64 _ (omega (arith, r.offset)) in
    let halves-fit : SFits w64 (halves off) = fits-abs w64 _ (omega (arith, r.few.offset, abs-halves off)) in
    let sum-fits : SFits w64 (old +ℤ halves off) = fits-abs w64 _ (omega (arith, r.few.offset, r.offset, abs-halves off, abs-add old (halves off))) in
    let pairs = c.place_pairs-count.new.pairs in
    let same = c.place_pairs-count.ensures.same in
    let long = c.place_pairs-count.ensures.longer in
    let fits : c.place_pairs-count.result ≤ length (entries_of pairs) = omega (arith, length_entries pairs, long.most, r.room, same.long) in
    λ f. back (grind (arith, sym same.keys)) (grind (arith, sym same.weights))
    ∙ held (tables_with _ _ _ _ f pairs c.place_pairs-count.result) (tables old a.linear.now a.present.now a.rows.now f a.keys.now a.weights.now a.t.count) _ (filled a.p.pairs) fits
    (c.place_pairs-count.ensures.result_after _ f
    ∙ all_placed old _ a.linear.now _ a.present.now _ a.rows.now f a.keys.now a.weights.now a.t.count (slots_of a.w) a.p (simp (to_z-of_z off-fits, to_z-of_z old-fits, to_z-of_z halves-fit, to_z-of_z sum-fits)) c.place_linear.ensures.m_after) long
