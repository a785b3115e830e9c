use Rattle.std.proofs.Common.{rules, ◌≡◌, ap₂, ◌∙◌, arith, ◌+ℤ◌, take, length, w64, SFits, to_z, to_z-of_z}
use Rattle.std.proofs.lemmas.Slice.Zip.{either_empty_from_Zip}
use Rattle.laws.specs.Abs.{fits-abs}
use Rattle.energy.specs.Model.{low, high}
use Rattle.store_pairs.specs.Store.{zip}
use Rattle.store_pairs.proofs.Tables.{zip-take}
use Rattle.store.specs.Tables.{setting_of}
use Rattle.store.specs.Evaluating.{weight_in, joint_in}
use Rattle.store.proofs.Energies.{join-starts, low_below, high-below, weight-below, join-small, join-turn, join-done}
use Rattle.store.proofs.evaluate.pair_energy.Goals as goal

pub loop-key-init : goal.loop-key-init
loop-key-init c =
    let a = c.args in
    let keys : c.into_iter-key-iterator.result.a.rest.now ≡ take a.n a.keys.now = search rules in
    let weights : c.into_iter-key-iterator.result.b.rest.now ≡ take a.n a.weights.now = search rules in
    join-starts a.form (joint_in a.form) (setting_of a.values.now) (length a.values.now) (take a.n (zip a.keys.now a.weights.now)) (ap₂ zip keys weights ∙ zip-take a.n a.keys.now a.weights.now) c.requires.inside

pub pair_value-on-requires : goal.pair_value-on-requires
pair_value-on-requires c = (low_below c.loop-key.invariant c.in-Some.ensures.steps, high-below c.loop-key.invariant c.in-Some.ensures.steps)

pub times-x-requires : goal.times-x-requires
times-x-requires c =
    let small = weight-below c.loop-key.invariant c.in-Some.ensures.steps in
    let fits : SFits w64 c.in-Some.weight.now = fits-abs w64 _ (omega (arith, small, c.requires.small)) in
    simp (to_z-of_z fits) (omega (arith, small, c.requires.small))

pub overflow_add-e : goal.overflow_add-e
overflow_add-e c =
    let a = c.args in
    let m = c.loop-key.invariant in
    let step = c.in-Some.ensures.steps in
    let x = c.times-x.result in
    let key = c.in-Some.key.now in
    let fits : SFits w64 c.in-Some.weight.now = fits-abs w64 _ (omega (arith, weight-below m step, c.requires.small)) in
    let x-is : x ≡ weight_in a.form (joint_in a.form (setting_of a.values.now (low key)) (setting_of a.values.now (high key))) c.in-Some.weight.now = c.times-x.ensures ∙ ap₂ (weight_in a.form) c.pair_value-on.ensures (to_z-of_z fits) in
    let x-fits : SFits w64 x = record { sfits = c.times-x.type_inv } in
    simp (to_z-of_z x-fits) (fits-abs w64 _ (omega (arith, join-small m step x x-is, c.requires.small)))

pub loop-key-preserved : goal.loop-key-preserved
loop-key-preserved c =
    let a = c.args in
    let m = c.loop-key.invariant in
    let step = c.in-Some.ensures.steps in
    let x = c.times-x.result in
    let e = to_z w64 c.loop-key.e-bits in
    let key = c.in-Some.key.now in
    let fits : SFits w64 c.in-Some.weight.now = fits-abs w64 _ (omega (arith, weight-below m step, c.requires.small)) in
    let x-is : x ≡ weight_in a.form (joint_in a.form (setting_of a.values.now (low key)) (setting_of a.values.now (high key))) c.in-Some.weight.now = c.times-x.ensures ∙ ap₂ (weight_in a.form) c.pair_value-on.ensures (to_z-of_z fits) in
    let x-fits : SFits w64 x = record { sfits = c.times-x.type_inv } in
    let sum-fits : SFits w64 (e +ℤ x) = fits-abs w64 _ (omega (arith, join-small m step x x-is, c.requires.small)) in
    join-turn m step x x-is (simp (to_z-of_z x-fits, to_z-of_z sum-fits))

pub returns : goal.returns
returns c = join-done c.loop-key.invariant (either_empty_from_Zip c.loop-key.key-iterator c.next.new.self c.next.result c.in-None.is c.next.ensures.steps)
