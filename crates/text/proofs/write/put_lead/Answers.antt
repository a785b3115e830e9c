-- `text::write::put_lead` meets its contract: a number, and a space.
use Rattle.text.specs.Paste.{then, room-first, room-second}
use Rattle.text.specs.Text.{lead_text}
use Rattle.text.proofs.write.put_lead.Goals as goal

pub put_decimal-next-requires : goal.put_decimal-next-requires
unfolding lead_text
put_decimal-next-requires c = room-first _ c.requires

pub put-requires : goal.put-requires
unfolding lead_text
put-requires c = room-second c.put_decimal-next.ensures c.requires

pub returns : goal.returns
unfolding lead_text
returns c = then c.put_decimal-next.ensures c.put.ensures
