-- `store_ising::to_ising` meets its contract: two sums, the halves, and the pass over the pairs (`Turns`).
use Rattle.std.proofs.Common.{sym, ap, ◌∙◌, subst, ℕ, ◌≤◌, ◌^◌, arith, ◌+ℤ◌, nat_abs, take, w64, SFits, to_z-of_z}
use Rattle.std.proofs.lemmas.Int.{ints}
use Rattle.laws.specs.Half.{half-fits}
use Rattle.energy.specs.Model.{Inside, half, quarter, sizes}
use Rattle.energy.specs.Mass.{sizes-half, sizes-sum}
use Rattle.store_pairs.specs.Store.{zip}
use Rattle.store_ising.proofs.Turns.{quarter-fits, weights-small, offset-fits, sum-fits, all-fits, offset-is, all-turned}
use Rattle.store_ising.proofs.to_ising.Goals as goal

pub sum_of-b-requires : goal.sum_of-b-requires
sum_of-b-requires c = weights-small c.requires

pub turn_pairs-requires : goal.turn_pairs-requires
turn_pairs-requires c =
    let r = c.requires in
    let same = c.halve_all.auto.cs in
    record {
      even = r.even;
      used = r.used;
      present = r.present ∙ sym same;
      inside = subst (λ (k : ℕ). Inside k (take c.args.t.count (zip c.args.keys.now c.args.weights.now))) (sym same) r.inside;
      small = omega (arith, r.small, sizes-half c.args.linear.now, ap sizes c.halve_all.ensures);
    }

pub overflow_add-result : goal.overflow_add-result
overflow_add-result c =
    let r = c.requires in
    let l = c.args.linear.now in
    let a-small : nat_abs c.sum_of-a.result ≤ 2 ^ 40 = omega (arith, ap nat_abs c.sum_of-a.ensures, sizes-sum l, r.small) in
    let b-small : nat_abs c.sum_of-b.result ≤ 2 ^ 40 = omega (arith, ap nat_abs c.sum_of-b.ensures, sizes-sum (take c.args.t.count c.args.weights.now), weights-small r) in
    omega (arith, ints, r.small)

pub returns : goal.returns
returns c =
    let s = c.args in
    let r = c.requires in
    let a = c.sum_of-a in
    let b = c.sum_of-b in
    let a-fits : SFits w64 a.result = record { sfits = a.type_inv } in
    let b-fits : SFits w64 b.result = record { sfits = b.type_inv } in
    let s-fits : SFits w64 (s.t.offset +ℤ half a.result) = sum-fits r a.ensures b.ensures in
    let o-fits : SFits w64 (s.t.offset +ℤ half a.result +ℤ quarter b.result) = all-fits r a.ensures b.ensures in
    λ rs f. all-turned s.t.offset _ s.linear.now c.halve_all.new.cs _ s.present.now _ rs f s.keys.now s.weights.now c.turn_pairs.new.weights s.t.count r.even r.used (simp (to_z-of_z (offset-fits r), to_z-of_z a-fits, to_z-of_z (half-fits w64 a-fits), to_z-of_z b-fits, to_z-of_z (quarter-fits b-fits), to_z-of_z s-fits, to_z-of_z o-fits) (offset-is r a.ensures b.ensures)) c.halve_all.ensures c.turn_pairs.ensures.weights_after c.turn_pairs.ensures.m_after
