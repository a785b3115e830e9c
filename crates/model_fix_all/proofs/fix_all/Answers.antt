-- `fix_all` meets its contract: the values are entered, and the pass over the pairs makes the model of all fixes (`Fixing`).
use Rattle.model_fixes.specs.Fixing.{enterable, siftable, all-fixed}
use Rattle.model_fix_all.proofs.fix_all.Goals as goal

pub enter_all-requires : goal.enter_all-requires
enter_all-requires c =
    let a = c.args in
    (c.requires.0, enterable a.from a.linear.now a.present.now a.rows.now a.fixed.now a.keys.now a.weights.now c.requires.1)

pub sift_all-requires : goal.sift_all-requires
sift_all-requires c =
    let a = c.args in
    siftable a.from a.linear.now a.present.now a.rows.now a.fixed.now a.keys.now a.weights.now c.requires.1 c.requires.2 c.in_ok-t.ensures.1

pub returns : goal.returns
returns c =
    let a = c.args in
    let done = c.in_ok-t.ensures in
    let last = c.sift_all in
    (done.0, all-fixed a.from a.linear.now a.present.now a.rows.now a.fixed.now a.keys.now a.weights.now c.requires.1 c.requires.2 done.1 done.0 last.auto.keys last.auto.weights last.ensures)
