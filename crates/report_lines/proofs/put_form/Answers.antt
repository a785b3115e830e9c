-- `report_lines::put_form` meets its contract, by the form.
use Rattle.std.proofs.Common.{ap}
use Rattle.text.specs.Paste.{room_as, printed-as}
use Rattle.report_lines.specs.Report.{form_word}
use Rattle.report_lines.proofs.put_form.Goals as goal

pub put_bytes-requires : goal.put_bytes-requires
put_bytes-requires c = room_as (ap form_word c.in-Binary.is) c.requires

pub put_bytes-requires-in-Ising : goal.put_bytes-requires-in-Ising
put_bytes-requires-in-Ising c = room_as (ap form_word c.in-Ising.is) c.requires

pub returns-in-Binary : goal.returns-in-Binary
returns-in-Binary c = printed-as (ap form_word c.in-Binary.is) c.put_bytes.ensures

pub returns-in-Ising : goal.returns-in-Ising
returns-in-Ising c = printed-as (ap form_word c.in-Ising.is) c.put_bytes-in-Ising.ensures
