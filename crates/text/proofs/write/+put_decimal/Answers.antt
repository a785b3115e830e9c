-- `write::put_decimal` meets its contract: one digit, or the tens and then the last digit.
use Rattle.std.proofs.Common.{arith}
use Rattle.text.specs.Paste.{then, room-first, room-second, printed-as, room_as}
use Rattle.text.specs.Decimal.{decimal-small, decimal-large}
use Rattle.text.proofs.write.+put_decimal.Goals as goal

pub put-requires : goal.put-requires
put-requires t c = room_as (decimal-small _ c.if-n-lt10.true) c.requires

pub put_decimal-next-requires : goal.put_decimal-next-requires
put_decimal-next-requires t c = (omega arith, room-first _ (room_as (decimal-large _ c.if-n-lt10.false) c.requires))

pub put-requires-else-n-lt10 : goal.put-requires-else-n-lt10
put-requires-else-n-lt10 t c = room-second c.put_decimal-next.ensures (room_as (decimal-large _ c.if-n-lt10.false) c.requires)

pub returns-then-n-lt10 : goal.returns-then-n-lt10
returns-then-n-lt10 t c = printed-as (decimal-small _ c.if-n-lt10.true) c.put.ensures

pub returns-else-n-lt10 : goal.returns-else-n-lt10
returns-else-n-lt10 t c = printed-as (decimal-large _ c.if-n-lt10.false) (then c.put_decimal-next.ensures c.put-else-n-lt10.ensures)
