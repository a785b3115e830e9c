use Rattle.std.proofs.Common.{[], ◌≡◌, sym, ap, ◌∙◌, arith}
use Rattle.penalty.specs.declared.Kind.TheVariants.{Full}
use Rattle.penalty.specs.declared.Penalty.{Penalty}
use Rattle.energy.specs.Mass.{few-row}
use Rattle.store_place.specs.Wiring.{slots_of}
use Rattle.store_place.specs.Room.{filled, filled_row}
use Rattle.store_place.specs.Growth.{placing}
use Rattle.bench_place.proofs.Rounds.{grow-turn, grow-starts}
use Rattle.bench_place.proofs.place_rows.Goals as goal

pub loop-i-init : goal.loop-i-init
loop-i-init c = let a = c.args in grow-starts a.linear.now a.present.now a.rows.now [] a.keys.now a.weights.now c.requires.6

pub place-t-requires : goal.place-t-requires
place-t-requires c =
    let kept = c.loop-i.auto in
    let g = c.loop-i.invariant in
    let row = c.row-p.ensures in
    placing [] _ (slots_of c.wires_of-w.result) c.row-p.result (kept.present ∙ c.requires.1 ∙ sym (kept.linear ∙ c.requires.0)) (kept.rows ∙ c.requires.2 ∙ sym (kept.linear ∙ c.requires.0)) (kept.weights ∙ c.requires.3 ∙ sym kept.keys) (λ i. omega (arith, c.wires_of-w.ensures i, kept.linear, c.requires.0)) (rw row (few-row Full)) (omega (arith, g.count, ap (λ (p : Penalty). filled p.pairs) row, filled_row Full, kept.keys, c.requires.4, c.loop-i-test.true)) (omega (arith, g.size, c.loop-i-test.true, c.requires.5))

pub loop-i-preserved : goal.loop-i-preserved
loop-i-preserved c = grow-turn (slots_of c.wires_of-w.result) c.row-p.result _ _ c.loop-i.i c.loop-i.invariant c.row-p.ensures (c.place-t.ensures [])

pub returns : goal.returns
returns c =
    let g = c.loop-i.invariant in
    let e : c.loop-i.i ≡ c.args.n = omega arith in
    (omega (arith, g.count), omega (arith, g.size))
