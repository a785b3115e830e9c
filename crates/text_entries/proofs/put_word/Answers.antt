-- `text_entries::put_word` meets its contract.
use Rattle.text.specs.Paste.{then, room-first, room-second, room_as, printed-as}
use Rattle.text.specs.Text.{shown, word}
use Rattle.text_entries.proofs.Words.{with-comma, without-comma}
use Rattle.text_entries.proofs.put_word.Goals as goal

pub put_shown-next-requires : goal.put_shown-next-requires
put_shown-next-requires c = (c.requires.0, room-first _ c.requires.1)

pub put-requires : goal.put-requires
put-requires c = room-second c.put_shown-next.ensures (room_as (with-comma _ (word c.args.values (shown c.args.fixed.now c.args.q)) c.if-more.true) c.requires.1)

pub returns-then-more : goal.returns-then-more
returns-then-more c = printed-as (with-comma _ (word c.args.values (shown c.args.fixed.now c.args.q)) c.if-more.true) (then c.put_shown-next.ensures c.put.ensures)

pub returns-else-more : goal.returns-else-more
returns-else-more c = printed-as (without-comma _ (word c.args.values (shown c.args.fixed.now c.args.q)) c.if-more.false) c.put_shown-next.ensures
