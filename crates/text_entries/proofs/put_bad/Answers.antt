-- `text_entries::put_bad` meets its contract: nid, qubit, and what comes after it.
use Rattle.std.proofs.Common.{arith}
use Rattle.text.specs.Paste.{then, room-first, room-second}
use Rattle.text.specs.Text.{bad_text}
use Rattle.text_entries.proofs.put_bad.Goals as goal

pub put_lead-next-requires : goal.put_lead-next-requires
unfolding bad_text
put_lead-next-requires c = room-first _ c.requires.2

pub put_decimal-last-requires : goal.put_decimal-last-requires
unfolding bad_text
put_decimal-last-requires c = room-first _ (room-second c.put_lead-next.ensures c.requires.2)

pub put_end-requires : goal.put_end-requires
unfolding bad_text
put_end-requires c = (omega (arith, c.requires.0, c.requires.1), room-second c.put_decimal-last.ensures (room-second c.put_lead-next.ensures c.requires.2))

pub returns : goal.returns
unfolding bad_text
returns c = then c.put_lead-next.ensures (then c.put_decimal-last.ensures c.put_end.ensures)
