use Rattle.std.proofs.Common.{◌≡◌, ap₂, ◌∙◌, arith, pos, ◌+ℤ◌, get_or, w64, SFits, to_z, to_z-of_z}
use Rattle.laws.specs.Abs.{fits-abs}
use Rattle.store.specs.Tables.{setting_of}
use Rattle.store.specs.Evaluating.{weight_in}
use Rattle.store.proofs.Energies.{coef-small, weigh-small, weigh-turn, weigh-done}
use Rattle.store.proofs.evaluate.linear_energy.Goals as goal

pub loop-i-preserved : goal.loop-i-preserved
loop-i-preserved c =
    let a = c.args in
    let x = c.times-x.result in
    let e = to_z w64 c.loop-i.e-bits in
    let coef = get_or a.linear.now c.loop-i.i (pos 0) in
    let coef-fits : SFits w64 coef = fits-abs w64 _ (omega (arith, coef-small c.loop-i.invariant c.loop-i-test.true, c.requires.1)) in
    let x-is : x ≡ weight_in a.form (setting_of a.values.now c.loop-i.i) coef = c.times-x.ensures ∙ ap₂ (weight_in a.form) c.value_at-on.ensures (to_z-of_z coef-fits) in
    let x-fits : SFits w64 x = record { sfits = c.times-x.type_inv } in
    let sum-fits : SFits w64 (e +ℤ x) = fits-abs w64 _ (omega (arith, weigh-small c.loop-i.invariant c.loop-i-test.true x x-is, c.requires.1)) in
    weigh-turn c.loop-i.invariant c.loop-i-test.true x x-is (simp (to_z-of_z x-fits, to_z-of_z sum-fits))

pub returns : goal.returns
returns c = weigh-done c.loop-i.invariant c.loop-i-test.false
