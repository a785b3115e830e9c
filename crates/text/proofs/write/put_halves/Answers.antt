-- `write::put_halves` meets its contract: the sign, and then the size.
use Rattle.std.proofs.Common.{refl, nat_abs, w64, to_z, of_z}
use Rattle.text.specs.Paste.{then, room-first, room-second, printed-as, room_as}
use Rattle.text.specs.Halves.{half_text, halves_text}
use Rattle.text.proofs.Sign.{parts}
use Rattle.text.proofs.write.put_halves.Goals as goal

pub put_sign-next-requires : goal.put_sign-next-requires
unfolding halves_text
put_sign-next-requires c = room-first _ (room_as (parts half_text c.args.h {n = nat_abs (to_z w64 (of_z w64 c.args.h))} c.ranges.h refl) c.requires)

pub put_half-requires : goal.put_half-requires
unfolding halves_text
put_half-requires c = room-second c.put_sign-next.ensures (room_as (parts half_text c.args.h c.ranges.h c.unsigned_abs.ensures.value) c.requires)

pub returns : goal.returns
unfolding halves_text
returns c = printed-as (parts half_text c.args.h c.ranges.h c.unsigned_abs.ensures.value) (then c.put_sign-next.ensures c.put_half.ensures)
