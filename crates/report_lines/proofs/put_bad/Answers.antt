-- `report_lines::put_bad` meets its contract. A number of 64 bits has at most 20 digits, so there are places for the line.
use Rattle.std.proofs.Common.{ℕ, ◌+◌, ◌^◌, ◌<◌, arith}
use Rattle.text.specs.Paste.{Room, then, room-first, room-second, within}
use Rattle.report_lines.specs.Report.{bad_line}
use Rattle.report_lines.specs.Length.{bad-length}
use Rattle.report_lines.proofs.put_bad.Goals as goal

room : (at nid : ℕ) → at + 25 < 2 ^ 64 → nid < 2 ^ 64 → Room at (bad_line nid)
room at nid h f = record { below = omega (arith, h, bad-length nid f) }

pub put_bytes-number-requires : goal.put_bytes-number-requires
unfolding bad_line
put_bytes-number-requires c = room-first _ (room c.args.at c.args.nid c.requires c.ranges.nid.fits)

pub put_decimal-end-requires : goal.put_decimal-end-requires
unfolding bad_line
put_decimal-end-requires c = room-first _ (room-second c.put_bytes-number.ensures (room c.args.at c.args.nid c.requires c.ranges.nid.fits))

pub put-requires : goal.put-requires
unfolding bad_line
put-requires c = room-second c.put_decimal-end.ensures (room-second c.put_bytes-number.ensures (room c.args.at c.args.nid c.requires c.ranges.nid.fits))

pub returns : goal.returns
unfolding bad_line
returns c =
    let p = within 25 (bad-length _ c.ranges.nid.fits) (then c.put_bytes-number.ensures (then c.put_decimal-end.ensures c.put.ensures)) in
    record { printed = p.0; upper_bound = p.1 }
