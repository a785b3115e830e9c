-- `write::put_signed` meets its contract: the sign, and then the size.
use Rattle.std.proofs.Common.{refl, nat_abs, w64, to_z, of_z}
use Rattle.text.specs.Paste.{then, room-first, room-second, printed-as, room_as}
use Rattle.text.specs.Decimal.{decimal}
use Rattle.text.specs.Signed.{signed_text}
use Rattle.text.proofs.Sign.{parts}
use Rattle.text.proofs.write.put_signed.Goals as goal

pub put_sign-next-requires : goal.put_sign-next-requires
unfolding signed_text
put_sign-next-requires c = room-first _ (room_as (parts decimal c.args.z {n = nat_abs (to_z w64 (of_z w64 c.args.z))} c.ranges.z refl) c.requires)

pub put_decimal-requires : goal.put_decimal-requires
unfolding signed_text
put_decimal-requires c = room-second c.put_sign-next.ensures (room_as (parts decimal c.args.z c.ranges.z c.unsigned_abs.ensures.value) c.requires)

pub returns : goal.returns
unfolding signed_text
returns c = printed-as (parts decimal c.args.z c.ranges.z c.unsigned_abs.ensures.value) (then c.put_sign-next.ensures c.put_decimal.ensures)
