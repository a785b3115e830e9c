-- `text_entries::put_pair` meets its contract: the lower name and a space, and then an entry under the higher name.
use Rattle.std.proofs.Common.{sym, ap, ◌%◌, to_z-of_z}
use Rattle.text.specs.Paste.{then, room-first, room-second, room_as, printed-as}
use Rattle.text.specs.Text.{entry_text, pair_text}
use Rattle.text_entries.proofs.put_pair.Goals as goal

pub put_lead-next-requires : goal.put_lead-next-requires
unfolding pair_text
put_lead-next-requires c = room-first _ c.requires

pub put_entry-requires : goal.put_entry-requires
unfolding pair_text
put_entry-requires c = room_as (ap (entry_text (c.args.key % 65536)) (sym (to_z-of_z c.ranges.w))) (room-second c.put_lead-next.ensures c.requires)

pub returns : goal.returns
unfolding pair_text
returns c = then c.put_lead-next.ensures (printed-as (ap (entry_text (c.args.key % 65536)) (sym (to_z-of_z c.ranges.w))) c.put_entry.ensures)
