-- `run_meaning::needs::need_rows` meets its contract.
use Rattle.std.proofs.Common.{arith, drop, refl, sym, ◌∙◌}
use Rattle.run_values.proofs.Exits.{returned}
use Rattle.run_meaning.proofs.Left.{left-start, left_as, left-asked, left-on, left-stop, left_end}
use Rattle.run_meaning.proofs.Rows.{rest-start, row_step, row-pass, row-end, stacked-past, pair-named, pair-next, pair-stacked, pairs-past, pairs-done}
use Rattle.run_meaning.specs.Ran.{marked, with_higher}
use Rattle.run_meaning.proofs.needs.need_rows.Goals as goal
use Rattle.run_meaning.proofs.needs.need_rows.Goals.{then-row-eq1+in_ok-need+then-loop-k-test+else-low_of-q, then-row-eq1+in_ok-need+else-loop-k-test, else-row-eq1}

pub loop-q-init : goal.loop-q-init
loop-q-init c = (
  omega arith,
  c.requires.2,
  left_as (rest-start c.args.on.now.names c.args.rows.now c.args.keys.now c.requires.2) (left-start (with_higher c.args.keys.now (marked 0 c.args.rows.now)) c.requires.0),
)

pub returns-in_err-need : goal.returns-in_err-need
returns-in_err-need c =
    let a = c.args in
    let rest = drop c.loop-q.k a.keys.now in
    let turn = row_step a.on.now.names a.rows.now c.loop-q.q rest c.loop-q-test.true c.if-row-eq1.true c.loop-q.invariant.1 in
    returned c.from_residual.result _ c.from_residual.ensures.1 (left-stop (left_as turn c.loop-q.invariant.2) refl c.in_err-need.ensures)

pub loop-k-init : goal.loop-k-init
loop-k-init c =
    let a = c.args in
    let rest = drop c.loop-q.k a.keys.now in
    let turn = row_step a.on.now.names a.rows.now c.loop-q.q rest c.loop-q-test.true c.if-row-eq1.true c.loop-q.invariant.1 in
    (c.loop-q.invariant.0, c.loop-q.invariant.1, left-on (left_as turn c.loop-q.invariant.2) refl c.in_ok-need.ensures c.need.auto.values)

pub need-requires-in-loop-k : goal.need-requires-in-loop-k
need-requires-in-loop-k c =
    let a = c.args in
    let stack = c.loop-k.invariant.1 in
    let low = sym c.low_of.ensures ∙ c.if-low_of-q.true in
    let turn = pair-next a.on.now.names a.rows.now a.keys.now c.loop-q.q c.loop-k.k stack c.loop-k-test.true low in
    left-asked (left_as turn c.loop-k.invariant.2) c.high_of.ensures
    (pair-named a.on.now.names a.rows.now a.keys.now c.loop-q.q c.loop-k.k stack c.loop-k-test.true)

pub returns-in_err-need-2 : goal.returns-in_err-need-2
returns-in_err-need-2 c =
    let a = c.args in
    let low = sym c.low_of.ensures ∙ c.if-low_of-q.true in
    let turn = pair-next a.on.now.names a.rows.now a.keys.now c.loop-q.q c.loop-k.k c.loop-k.invariant.1 c.loop-k-test.true low in
    returned c.from_residual-in_err-need-2.result _ c.from_residual-in_err-need-2.ensures.1
    (left-stop (left_as turn c.loop-k.invariant.2) c.high_of.ensures c.in_err-need-2.ensures)

pub loop-k-preserved : goal.loop-k-preserved
loop-k-preserved c =
    let a = c.args in
    let stack = c.loop-k.invariant.1 in
    let low = sym c.low_of.ensures ∙ c.if-low_of-q.true in
    let turn = pair-next a.on.now.names a.rows.now a.keys.now c.loop-q.q c.loop-k.k stack c.loop-k-test.true low in (
      omega (arith, c.loop-k-test.true),
      pair-stacked a.on.now.names a.rows.now a.keys.now c.loop-q.q c.loop-k.k stack c.loop-k-test.true low,
      left-on (left_as turn c.loop-k.invariant.2) c.high_of.ensures c.in_ok-need-2.ensures c.need-in-loop-k.auto.values,
    )

pub loop-q-preserved : goal.loop-q-preserved
loop-q-preserved c =
    elim c.if-row-eq1.branch [
      | then-row-eq1+in_ok-need+then-loop-k-test+else-low_of-q w ↦
          rw (w.values-is, w.k-is) (
            w.loop-k.invariant.0,
            pairs-past c.args.on.now.names c.args.rows.now c.args.keys.now c.loop-q.q w.loop-k.k w.loop-k.invariant.1 w.loop-k-test.true
                (λ e. w.if-low_of-q.false (w.low_of.ensures ∙ e)),
            w.loop-k.invariant.2,
          )
      | then-row-eq1+in_ok-need+else-loop-k-test w ↦
          rw (w.values-is, w.k-is)
          (w.loop-k.invariant.0, pairs-done c.args.on.now.names c.args.rows.now c.args.keys.now c.loop-q.q w.loop-k.k w.loop-k.invariant.1 w.loop-k-test.false, w.loop-k.invariant.2)
      | else-row-eq1 w ↦
          rw (w.values-is, w.k-is)
          (let n = c.args.on.now.names in
          let rows = c.args.rows.now in
          let rest = drop c.loop-q.k c.args.keys.now in
          let pass = row-pass n rows c.loop-q.q rest c.loop-q-test.true w.if-row-eq1.false c.loop-q.invariant.1 in (
            c.loop-q.invariant.0,
            stacked-past n rows c.loop-q.q rest c.loop-q.invariant.1 w.if-row-eq1.false,
            left_as pass c.loop-q.invariant.2,
          ))
    ]

pub returns : goal.returns
returns c =
    let rest = drop c.loop-q.k c.args.keys.now in
    left_end (left_as (row-end c.args.on.now.names c.args.rows.now c.loop-q.q rest c.loop-q-test.false c.loop-q.invariant.1) c.loop-q.invariant.2)
