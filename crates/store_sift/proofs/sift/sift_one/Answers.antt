-- `sift::sift_one` meets its contract: the pair stays, or is given away (`Gives`). Numbers go through locals.
use Rattle.std.proofs.Common.{sym, ◌∙◌, arith, pos, ◌+ℤ◌, get_or, w64, SFits, to_z-of_z}
use Rattle.laws.specs.Abs.{fits-abs}
use Rattle.store_sift.proofs.Gives.{stays, behind-stays, giving, goes, sum-small, offset-small}
use Rattle.store_sift.proofs.sift.sift_one.Goals as goal

pub returns-then-both_free : goal.returns-then-both_free
returns-then-both_free c =
    let copied = c.copy_within in
    let old-fits : SFits w64 c.args.t.offset = fits-abs w64 _ (omega (arith, offset-small c.requires)) in
    record {
      by_index = stays c.requires copied.new.self.keys.now copied.new.self.weights.now copied.ensures.entries (sym c.both_free.ensures ∙ c.if-both_free.true) _ (to_z-of_z old-fits);
      count_bound = (omega arith, behind-stays c.requires copied.new.self.keys.now copied.new.self.weights.now copied.ensures.entries);
      same = copied.ensures.same;
    }

pub give_pair-g-requires : goal.give_pair-g-requires
give_pair-g-requires c =
    let w-fits : SFits w64 (get_or c.args.pairs.now.weights.now c.args.i (pos 0)) = fits-abs w64 _ (omega (arith, c.requires.small)) in
    giving c.requires (sym c.both_free.ensures ∙ c.if-both_free.false) _ (to_z-of_z w-fits)

pub overflow_add-result-2 : goal.overflow_add-result-2
overflow_add-result-2 c =
    let old-fits : SFits w64 c.args.t.offset = fits-abs w64 _ (omega (arith, offset-small c.requires)) in
    let w-fits : SFits w64 (get_or c.args.pairs.now.weights.now c.args.i (pos 0)) = fits-abs w64 _ (omega (arith, c.requires.small)) in
    let gift-fits : SFits w64 c.give_pair-g.result = record { sfits = c.give_pair-g.type_inv } in
    simp (to_z-of_z old-fits, to_z-of_z gift-fits) (fits-abs w64 _ (omega (arith, sum-small c.requires (to_z-of_z w-fits) c.give_pair-g.ensures)))

pub returns-clause-by_index : goal.returns-clause-by_index
returns-clause-by_index c =
    let old-fits : SFits w64 c.args.t.offset = fits-abs w64 _ (omega (arith, offset-small c.requires)) in
    let w-fits : SFits w64 (get_or c.args.pairs.now.weights.now c.args.i (pos 0)) = fits-abs w64 _ (omega (arith, c.requires.small)) in
    let gift-fits : SFits w64 c.give_pair-g.result = record { sfits = c.give_pair-g.type_inv } in
    let sum-fits : SFits w64 (c.args.t.offset +ℤ c.give_pair-g.result) = fits-abs w64 _ (omega (arith, sum-small c.requires (to_z-of_z w-fits) c.give_pair-g.ensures)) in
    goes c.requires (to_z-of_z w-fits) c.give_pair-g.ensures _ (simp (to_z-of_z old-fits, to_z-of_z gift-fits, to_z-of_z sum-fits))
