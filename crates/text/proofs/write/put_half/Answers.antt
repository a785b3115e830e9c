-- `write::put_half` meets its contract: the whole part, and `.5` where the count is odd.
use Rattle.std.proofs.Common.{ℕ, ◌/◌, ◌%◌, eqb}
use Rattle.text.specs.Paste.{Room, then, room-first, room-second, printed-as, room_as}
use Rattle.text.specs.Decimal.{decimal}
use Rattle.text.specs.Halves.{half_text, point, half-odd, half-even}
use Rattle.text.proofs.write.put_half.Goals as goal

whole : (n : ℕ) {at : ℕ} → Room at (half_text n) → Room at (decimal (n / 2))
unfolding half_text
whole n h = room-first (point (eqb (n % 2) 1)) h

pub put_decimal-next-requires : goal.put_decimal-next-requires
put_decimal-next-requires c = whole _ c.requires

pub put-last-requires : goal.put-last-requires
put-last-requires c = room-first _ (room-second c.put_decimal-next.ensures (room_as (half-odd _ c.if-n-eq1.true) c.requires))

pub put-requires : goal.put-requires
put-requires c = room-second c.put-last.ensures (room-second c.put_decimal-next.ensures (room_as (half-odd _ c.if-n-eq1.true) c.requires))

pub returns-then-n-eq1 : goal.returns-then-n-eq1
returns-then-n-eq1 c = printed-as (half-odd _ c.if-n-eq1.true) (then c.put_decimal-next.ensures (then c.put-last.ensures c.put.ensures))

pub returns-else-n-eq1 : goal.returns-else-n-eq1
returns-else-n-eq1 c = printed-as (half-even _ c.if-n-eq1.false) c.put_decimal-next.ensures
