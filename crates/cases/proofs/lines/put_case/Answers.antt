-- `lines::put_case` meets its contract: a word, a number, and the end of the line.
use Rattle.std.proofs.Common.{ℕ, ◌^◌, ◌<◌, arith}
use Rattle.cases.specs.Lines.{case_text, case-short}
use Rattle.text.specs.Paste.{Room, then, room-first, room-second, within as short-line}
use Rattle.cases.proofs.lines.put_case.Goals as goal

whole : (k : ℕ) → k < 2 ^ 64 → Room 0 (case_text k)
whole k h = record { below = omega (arith, case-short k h) }

pub put_decimal-end-requires : goal.put_decimal-end-requires
put_decimal-end-requires c = room-first _ (room-second c.put_bytes-next.ensures (whole c.args.number (omega arith)))

pub put-requires : goal.put-requires
put-requires c = room-second c.put_decimal-end.ensures (room-second c.put_bytes-next.ensures (whole c.args.number (omega arith)))

pub returns : goal.returns
returns c =
    let p = short-line 26 (case-short c.args.number (omega arith)) (then c.put_bytes-next.ensures (then c.put_decimal-end.ensures c.put.ensures)) in
    record { printed = p.0; upper_bound = p.1 }
