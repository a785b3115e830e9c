-- `report_lines::put_hit` meets its contract, by the verdict.
use Rattle.std.proofs.Common.{ap}
use Rattle.text.specs.Paste.{room_as, printed-as}
use Rattle.report_lines.specs.Report.{hit_line}
use Rattle.report_lines.proofs.put_hit.Goals as goal

pub put_bytes-requires : goal.put_bytes-requires
put_bytes-requires c = room_as (ap hit_line c.if-hit.true) c.requires

pub put_bytes-requires-else-hit : goal.put_bytes-requires-else-hit
put_bytes-requires-else-hit c = room_as (ap hit_line c.if-hit.false) c.requires

pub returns-then-hit : goal.returns-then-hit
returns-then-hit c = printed-as (ap hit_line c.if-hit.true) c.put_bytes.ensures

pub returns-else-hit : goal.returns-else-hit
returns-else-hit c = printed-as (ap hit_line c.if-hit.false) c.put_bytes-else-hit.ensures
