use Rattle.std.proofs.Common.{rules, ◌≡◌, refl, sym, ap, ◌∙◌, ℤ, arith, nat_abs, pos, ◌<◌, drop, get_or, length, w64, SFits, to_z, of_z, to_z-of_z}
use Rattle.std.proofs.Math.ListN.{get_or-append, take-append-drop}
use Rattle.std.proofs.lemmas.List.{set-append_left}
use Rattle.energy.specs.Model.{quarter}
use Rattle.store_ising.proofs.Turns.{quarter-fits, turn-starts, low-in, high-in, ends-small, pair_turn, table-turned, all-joined, used-long}
use Rattle.store_ising.proofs.turn_pairs.Goals as goal

pub loop-i-init : goal.loop-i-init
loop-i-init c =
    rw (take-append-drop c.args.n c.args.weights.now)
    (turn-starts c.args.keys.now c.args.weights.now c.args.n c.args.linear.now c.args.present.now c.requires.even c.requires.present c.requires.inside)

pub join_ends-requires : goal.join_ends-requires
join_ends-requires c =
    let inv = c.loop-i.invariant in
    let items = c.loop-i.weight-items in
    let i = c.loop-i.i in
    let fit : SFits w64 (get_or items i (pos 0)) = search rules in
    let more : i < c.args.n = omega (arith, used-long c.args.keys.now c.args.weights.now c.args.n c.requires.even c.requires.used, c.loop-i-test.true) in
    let here : i < length items = search rules in
    let at = get_or-append items (drop c.args.n c.args.weights.now) (pos 0) i here in
    record {
      present = inv.present ∙ sym inv.linear;
      low-in = low-in c.requires.used inv more;
      high-in = high-in c.requires.used inv more;
      small = simp (to_z-of_z fit, to_z-of_z (quarter-fits fit)) (omega (arith, ends-small c.requires.used inv more c.requires.small, ap (λ (z : ℤ). nat_abs (quarter z)) at));
    }

pub loop-i-preserved : goal.loop-i-preserved
loop-i-preserved c =
    let items = c.loop-i.weight-items in
    let i = c.loop-i.i in
    let unused = drop c.args.n c.args.weights.now in
    let fit : SFits w64 (get_or items i (pos 0)) = search rules in
    let more : i < c.args.n = omega (arith, used-long c.args.keys.now c.args.weights.now c.args.n c.requires.even c.requires.used, c.loop-i-test.true) in
    let here : i < length items = search rules in
    let at = get_or-append items unused (pos 0) i here in
    let q = quarter (get_or items i (pos 0)) in
    let q-fit : to_z w64 (of_z w64 (quarter (get_or items i (pos 0)))) ≡ q = to_z-of_z (quarter-fits fit) in
    simp (to_z-of_z fit, q-fit)
    (pair_turn c.requires.used c.loop-i.invariant more q _ (ap quarter (sym at)) (simp (to_z-of_z fit, q-fit) refl) (sym (set-append_left items unused i q here)) c.join_ends.auto.linear c.join_ends.auto.present c.join_ends.ensures)

pub returns-clause-weights_after : goal.returns-clause-weights_after
returns-clause-weights_after c = table-turned c.requires.used c.requires.even c.loop-i.invariant (omega (arith, used-long c.args.keys.now c.args.weights.now c.args.n c.requires.even c.requires.used, c.loop-i-test.false))

pub returns-clause-m_after : goal.returns-clause-m_after
returns-clause-m_after c = all-joined c.requires.used c.requires.even c.loop-i.invariant (omega (arith, used-long c.args.keys.now c.args.weights.now c.args.n c.requires.even c.requires.used, c.loop-i-test.false))
