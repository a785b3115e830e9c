use Rattle.std.proofs.Common.{refl, ◌∙◌, arith}
use Rattle.model_place.specs.Blank.{starts, can-place, turn, all-logged}
use Rattle.model_place.proofs.place_all.Goals as goal

pub loop-q-init : goal.loop-q-init
loop-q-init c = (starts _ _ _ _ c.requires.0 c.requires.1, refl, refl, refl, refl, refl)

pub row_at-p-requires : goal.row_at-p-requires
row_at-p-requires c = (c.requires.0, c.loop-q.invariant.0.low, (omega arith))

pub place_one-t-requires : goal.place_one-t-requires
place_one-t-requires c = can-place _ _ _ _ c.requires.0 c.loop-q.invariant.0 (omega arith) c.row_at-p.ensures

pub loop-q-preserved : goal.loop-q-preserved
loop-q-preserved c =
    let i = c.loop-q.invariant in (
      turn _ _ _ _ c.requires.0 i.0 (omega arith) c.row_at-p.ensures c.place_one-t.auto.keys c.place_one-t.auto.weights c.place_one-t.ensures,
      c.place_one-t.auto.linear ∙ i.1,
      c.place_one-t.auto.present ∙ i.2,
      c.place_one-t.auto.rows ∙ i.3,
      c.place_one-t.auto.keys ∙ i.4,
      c.place_one-t.auto.weights ∙ i.5,
    )

pub shape_of-linear : goal.shape_of-linear
shape_of-linear c = c.loop-q.invariant.1

pub shape_of-present : goal.shape_of-present
shape_of-present c = c.loop-q.invariant.2

pub shape_of-rows : goal.shape_of-rows
shape_of-rows c = c.loop-q.invariant.3

pub shape_of-keys : goal.shape_of-keys
shape_of-keys c = c.loop-q.invariant.4

pub shape_of-weights : goal.shape_of-weights
shape_of-weights c = c.loop-q.invariant.5

pub returns : goal.returns
returns c = all-logged c.loop-q.invariant.0 (omega arith)
