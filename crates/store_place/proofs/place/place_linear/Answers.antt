use Rattle.std.proofs.Common.{rules, ◌≡◌, refl, ◌∙◌, arith, w64, SFits, to_z-of_z}
use Rattle.std.proofs.lemmas.Slice.Zip.{either_empty_from_Zip}
use Rattle.laws.specs.Abs.{fits-abs}
use Rattle.penalty.specs.Rows.{singles}
use Rattle.energy.specs.Model.{halves}
use Rattle.energy.specs.Mass.{sizes-at, abs-halves}
use Rattle.store_place.specs.Wiring.{slots_of}
use Rattle.store_place.proofs.Placing.{linear-starts, qubit-below, coefficient-few, linear-turn, linear-done}
use Rattle.store_place.proofs.place.place_linear.Goals as goal

pub loop-qubit-init : goal.loop-qubit-init
loop-qubit-init c =
    let a = c.args in
    let qubits : c.into_iter-qubit-iterator.result.a.rest.now ≡ c.ones_of-qubits.result = search rules in
    let coefficients : c.into_iter-qubit-iterator.result.b.rest.now ≡ a.cs = search rules in
    rw coefficients (linear-starts (slots_of a.w) singles a.cs a.linear.now a.present.now (qubits ∙ c.ones_of-qubits.ensures) c.requires.wired c.requires.few)

pub add_linear-requires : goal.add_linear-requires
add_linear-requires c =
    let a = c.args in
    let inv = c.loop-qubit.invariant in
    let step = c.in-Some.ensures.steps in
    let coef = c.in-Some.coefficient.now in
    let q = c.in-Some.qubit.now in
    let few = coefficient-few inv step in
    let coef-fits : SFits w64 coef = fits-abs w64 _ (omega (arith, few)) in
    let halves-fit : SFits w64 (halves coef) = fits-abs w64 _ (omega (arith, few, abs-halves coef)) in
    let below = qubit-below inv step in
    (omega (arith, below, inv.linear), omega (arith, below, inv.present, c.requires.present), simp (to_z-of_z coef-fits, to_z-of_z halves-fit) (omega (arith, sizes-at c.loop-qubit.linear q, inv.size, c.requires.small, few, abs-halves coef)))

pub loop-qubit-preserved : goal.loop-qubit-preserved
loop-qubit-preserved c =
    let inv = c.loop-qubit.invariant in
    let step = c.in-Some.ensures.steps in
    let coef = c.in-Some.coefficient.now in
    let few = coefficient-few inv step in
    let coef-fits : SFits w64 coef = fits-abs w64 _ (omega (arith, few)) in
    let halves-fit : SFits w64 (halves coef) = fits-abs w64 _ (omega (arith, few, abs-halves coef)) in
    linear-turn inv step _ (simp (to_z-of_z coef-fits, to_z-of_z halves-fit) refl) c.add_linear.auto.present c.add_linear.ensures.linear_after c.add_linear.ensures.present_after

pub returns-clause-m_after : goal.returns-clause-m_after
returns-clause-m_after c = linear-done c.loop-qubit.invariant (either_empty_from_Zip c.loop-qubit.qubit-iterator c.next.new.self c.next.result c.in-None.is c.next.ensures.steps)
