use Rattle.std.proofs.Common.{sym, arith, pos, get_or}
use Rattle.text.specs.Paste.{room-first, room_as, printed-as}
use Rattle.text.specs.Left.{left-start, left_as, left-print, left_end, left-room}
use Rattle.text_entries.proofs.Words.{entry_read}
use Rattle.text_print.proofs.Tables.{linear-all, linear-yes, linear-no, linear-none}
use Rattle.text_print.proofs.section.put_linear.Goals as goal
use Rattle.text_print.proofs.section.put_linear.Goals.{then-has-q-eq1, else-has-q-eq1}

pub loop-q-init : goal.loop-q-init
loop-q-init c = left_as (sym (linear-all _ _)) left-start

pub put_entry-next-requires : goal.put_entry-next-requires
put_entry-next-requires c =
    room_as (entry_read c.loop-q.q (get_or c.args.linear.now c.loop-q.q (pos 0)) (omega arith))
    (room-first _ (left-room c.requires.1 (left_as (linear-yes _ _ c.requires.0 _ c.loop-q-test.true c.if-has-q-eq1.true) c.loop-q.invariant)))

pub loop-q-preserved : goal.loop-q-preserved
loop-q-preserved c = elim c.if-has-q-eq1.branch [
  | then-has-q-eq1 w ↦ rw (w.buf-is, w.next-is) (left-print (left_as (linear-yes _ _ c.requires.0 _ c.loop-q-test.true w.if-has-q-eq1.true) c.loop-q.invariant) (printed-as (entry_read c.loop-q.q (get_or c.args.linear.now c.loop-q.q (pos 0)) (omega arith)) w.put_entry-next.ensures))
  | else-has-q-eq1 w ↦ rw (w.buf-is, w.next-is) (left_as (linear-no _ _ c.requires.0 _ c.loop-q-test.true w.if-has-q-eq1.false) c.loop-q.invariant)
]

pub returns : goal.returns
returns c = left_end (left_as (linear-none _ _ c.requires.0 _ c.loop-q-test.false) c.loop-q.invariant)
