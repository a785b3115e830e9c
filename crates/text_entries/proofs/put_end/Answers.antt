-- `text_entries::put_end` meets its contract: the byte of the fixed value tells whether there is one.
use Rattle.std.proofs.Common.{◌≡◌, [], ◌∷◌, get_or}
use Rattle.text.specs.Paste.{then, room-first, room-second, room_as, printed-as}
use Rattle.text.specs.Text.{fixed_by, end_text, newline, space}
use Rattle.text_entries.proofs.Words.{end-free, end-fixed}
use Rattle.text_entries.proofs.put_end.Goals as goal
use Rattle.text_entries.proofs.put_end.Goals.{Then-b-eq45, Else-b-eq45}

text-free : (c : Then-b-eq45) → end_text (fixed_by (get_or c.args.fixed.now c.args.name 0)) ≡ newline ∷ []
text-free c = end-free (fixed_by (get_or c.args.fixed.now c.args.name 0)) _ c.fixed_byte-b.ensures c.if-b-eq45.true

text-fixed : (c : Else-b-eq45) → end_text (fixed_by (get_or c.args.fixed.now c.args.name 0)) ≡ space ∷ c.fixed_byte-b.result ∷ newline ∷ []
text-fixed c = end-fixed (fixed_by (get_or c.args.fixed.now c.args.name 0)) _ c.fixed_byte-b.ensures c.if-b-eq45.false

pub put-requires : goal.put-requires
put-requires c = room_as (text-free (goal.at.put-requires c).Then-b-eq45) c.requires.1

pub put-next-requires : goal.put-next-requires
put-next-requires c = room-first _ (room_as (text-fixed (goal.at.put-next-requires c).Else-b-eq45) c.requires.1)

pub put-last-requires : goal.put-last-requires
put-last-requires c = room-first _ (room-second c.put-next.ensures (room_as (text-fixed (goal.at.put-last-requires c).Else-b-eq45) c.requires.1))

pub put-requires-else-b-eq45 : goal.put-requires-else-b-eq45
put-requires-else-b-eq45 c = room-second c.put-last.ensures (room-second c.put-next.ensures (room_as (text-fixed (goal.at.put-requires-else-b-eq45 c).Else-b-eq45) c.requires.1))

pub returns-then-b-eq45 : goal.returns-then-b-eq45
returns-then-b-eq45 c = printed-as (text-free (goal.at.returns-then-b-eq45 c).Then-b-eq45) c.put.ensures

pub returns-else-b-eq45 : goal.returns-else-b-eq45
returns-else-b-eq45 c = printed-as (text-fixed (goal.at.returns-else-b-eq45 c).Else-b-eq45) (then c.put-next.ensures (then c.put-last.ensures c.put-else-b-eq45.ensures))
