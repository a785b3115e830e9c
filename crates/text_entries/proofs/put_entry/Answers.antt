-- `text_entries::put_entry` meets its contract: a number and a space, a count of halves, and the end of the line. A signed argument reaches a callee as what the machine
-- reads back of it.
use Rattle.std.proofs.Common.{sym, ap, to_z-of_z}
use Rattle.text.specs.Paste.{then, room-first, room-second, room_as, printed-as}
use Rattle.text.specs.Halves.{halves_text}
use Rattle.text.specs.Text.{entry_text}
use Rattle.text_entries.proofs.put_entry.Goals as goal

pub put_lead-next-requires : goal.put_lead-next-requires
unfolding entry_text
put_lead-next-requires c = room-first _ c.requires

pub put_halves-last-requires : goal.put_halves-last-requires
unfolding entry_text
put_halves-last-requires c = room_as (ap halves_text (sym (to_z-of_z c.ranges.h))) (room-first _ (room-second c.put_lead-next.ensures c.requires))

pub put-requires : goal.put-requires
unfolding entry_text
put-requires c = room-second (printed-as (ap halves_text (sym (to_z-of_z c.ranges.h))) c.put_halves-last.ensures) (room-second c.put_lead-next.ensures c.requires)

pub returns : goal.returns
unfolding entry_text
returns c = then c.put_lead-next.ensures (then (printed-as (ap halves_text (sym (to_z-of_z c.ranges.h))) c.put_halves-last.ensures) c.put.ensures)
