use Rattle.std.proofs.Common.{rules, refl, sym, ◌≡◌, ◌∙◌, arith, w64, SFits, to_z-of_z}
use Rattle.laws.specs.Abs.{fits-abs}
use Rattle.penalty.specs.Rows.{twos}
use Rattle.energy.specs.Model.{halves}
use Rattle.energy.specs.Mass.{abs-halves}
use Rattle.store_pairs.specs.Tables.{same-then, SameTables}
use Rattle.store_pairs.proofs.Entries.{weights-long}
use Rattle.store_place.specs.Wiring.{slots_of}
use Rattle.store_place.proofs.Placing.{pairs-starts, first-below, second-below, pair-few, pairs-room, pairs-turn, one-ended, pairs-done}
use Rattle.store_place.proofs.place.place_pairs.Goals as goal

pub loop-first-init : goal.loop-first-init
loop-first-init c =
    let a = c.args in
    let firsts : c.into_iter-first-iterator.result.a.a.rest.now ≡ c.firsts_of-firsts.result = search rules in
    let seconds : c.into_iter-first-iterator.result.a.b.rest.now ≡ c.seconds_of-seconds.result = search rules in
    let coefficients : c.into_iter-first-iterator.result.b.rest.now ≡ a.cs = search rules in
    let same : SameTables a.pairs.now a.pairs.now = search rules in
    (rw coefficients (pairs-starts (slots_of a.w) twos a.cs a.linear.now a.present.now a.rows.now a.pairs.now.keys.now a.pairs.now.weights.now a.n (firsts ∙ c.firsts_of-firsts.ensures) (seconds ∙ c.seconds_of-seconds.ensures) c.requires.wired c.requires.few), same)

pub add_pair-end-requires : goal.add_pair-end-requires
add_pair-end-requires c =
    let r = c.requires in
    let inv = c.loop-first.invariant.0 in
    let step = c.in-Some.ensures.steps in
    let coef = c.in-Some.coefficient.now in
    let few = pair-few inv step in
    let coef-fits : SFits w64 coef = fits-abs w64 _ (omega (arith, few)) in
    let halves-fit : SFits w64 (halves coef) = fits-abs w64 _ (omega (arith, few, abs-halves coef)) in
    record {
      present = inv.present ∙ r.present ∙ sym inv.linear;
      rows = inv.rows ∙ r.rows ∙ sym inv.linear;
      even = inv.weights ∙ r.even ∙ sym inv.keys;
      first = omega (arith, first-below inv step, inv.linear);
      second = omega (arith, second-below inv step, inv.linear);
      room = simp (to_z-of_z coef-fits, to_z-of_z halves-fit) (pairs-room inv step _ (omega (arith, r.room, inv.keys)));
      small = simp (to_z-of_z coef-fits, to_z-of_z halves-fit) (omega (arith, inv.size, r.small, few, abs-halves coef));
    }

pub loop-first-preserved : goal.loop-first-preserved
loop-first-preserved c =
    let inv = c.loop-first.invariant.0 in
    let step = c.in-Some.ensures.steps in
    let coef = c.in-Some.coefficient.now in
    let few = pair-few inv step in
    let coef-fits : SFits w64 coef = fits-abs w64 _ (omega (arith, few)) in
    let halves-fit : SFits w64 (halves coef) = fits-abs w64 _ (omega (arith, few, abs-halves coef)) in
    let kept = c.add_pair-end.auto in
    let same = c.add_pair-end.ensures.same in
    (pairs-turn inv step _ (simp (to_z-of_z coef-fits, to_z-of_z halves-fit) refl) kept.linear kept.present kept.rows same.long (weights-long same) c.add_pair-end.ensures.result_after c.add_pair-end.ensures.longer, same-then c.loop-first.invariant.1 same)

pub returns-clause-result_after : goal.returns-clause-result_after
returns-clause-result_after c = pairs-done c.loop-first.invariant.0 (one-ended c.in-None.ensures.steps)
