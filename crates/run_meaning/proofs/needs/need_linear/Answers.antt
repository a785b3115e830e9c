-- `run_meaning::needs::need_linear` meets its contract.
use Rattle.std.proofs.Common.{refl}
use Rattle.run_values.proofs.Exits.{returned}
use Rattle.run_meaning.proofs.Left.{left_as, left-on, left-stop, left_end, marked-on, marked-skip, marked-done}
use Rattle.run_meaning.proofs.needs.need_linear.Goals as goal
use Rattle.run_meaning.proofs.needs.need_linear.Goals.{then-flag-eq1+in_ok-need, else-flag-eq1}

pub returns-in_err-need : goal.returns-in_err-need
returns-in_err-need c =
    returned c.from_residual.result _ c.from_residual.ensures.1
    (left-stop (left_as (marked-on c.args.flags.now c.loop-q.q c.loop-q-test.true c.if-flag-eq1.true) c.loop-q.invariant) refl c.in_err-need.ensures)

pub loop-q-preserved : goal.loop-q-preserved
loop-q-preserved c =
    elim c.if-flag-eq1.branch [
      | then-flag-eq1+in_ok-need w ↦
          rw w.values-is
          (left-on (left_as (marked-on c.args.flags.now c.loop-q.q c.loop-q-test.true w.if-flag-eq1.true) c.loop-q.invariant) refl w.in_ok-need.ensures w.need.auto.values)
      | else-flag-eq1 w ↦ rw w.values-is (left_as (marked-skip c.args.flags.now c.loop-q.q c.loop-q-test.true w.if-flag-eq1.false) c.loop-q.invariant)
    ]

pub returns : goal.returns
returns c = left_end (left_as (marked-done c.args.flags.now c.loop-q.q c.loop-q-test.false) c.loop-q.invariant)
