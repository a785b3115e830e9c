-- `report::print_refusal` meets its contract. The line is short, so there are places for it.
use Rattle.std.proofs.Common.{◌≡◌, ℕ, ◌^◌, ◌<◌, [], ◌∷◌, ◌++◌, ◌≤◌, arith, length}
use Rattle.circuit.specs.declared.Refusal.{Refusal}
use Rattle.circuit.specs.Refusals.{number_of, place_of}
use Rattle.text.specs.Bytes.{bytes}
use Rattle.text.specs.Decimal.{decimal}
use Rattle.text.specs.Text.{lead_text, newline}
use Rattle.text.specs.Paste.{Room, then, room-first, room-second, room_as, printed-as, within}
use Rattle.report_lines.specs.Report.{refusal_line}
use Rattle.report_lines.specs.Length.{refusal-length}
use Rattle.report.proofs.print_refusal.Goals as goal

-- the line, by the number and the place that the code has found
says : (r : Refusal) (n p : ℕ) → n ≡ number_of r → p ≡ place_of r → refusal_line r ≡ bytes "refused " ++ (lead_text n ++ (decimal p ++ (newline ∷ [])))
unfolding refusal_line
says r n p e f = rw (e, f)

short : (r : Refusal) (p : ℕ) → p ≡ place_of r → p < 2 ^ 64 → length (refusal_line r) ≤ 32
short r p f l = refusal-length _ (omega (arith, f))

room : (r : Refusal) (n p : ℕ) → n ≡ number_of r → p ≡ place_of r → p < 2 ^ 64 → Room 0 (bytes "refused " ++ (lead_text n ++ (decimal p ++ (newline ∷ []))))
room r n p e f l = room_as (says r n p e f) (record { below = omega (arith, short r p f l) })

pub put_lead-second-requires : goal.put_lead-second-requires
put_lead-second-requires c = room-first _ (room-second c.put_bytes-first.ensures (room c.args.r _ _ c.number-number.ensures c.place-place.ensures (omega arith)))

pub put_decimal-end-requires : goal.put_decimal-end-requires
put_decimal-end-requires c = room-first _ (room-second c.put_lead-second.ensures (room-second c.put_bytes-first.ensures (room c.args.r _ _ c.number-number.ensures c.place-place.ensures (omega arith))))

pub put-requires : goal.put-requires
put-requires c = room-second c.put_decimal-end.ensures (room-second c.put_lead-second.ensures (room-second c.put_bytes-first.ensures (room c.args.r _ _ c.number-number.ensures c.place-place.ensures (omega arith))))

pub returns : goal.returns
returns c =
    let p = within 32 (short c.args.r _ c.place-place.ensures (omega arith)) (printed-as (says c.args.r _ _ c.number-number.ensures c.place-place.ensures) (then c.put_bytes-first.ensures (then c.put_lead-second.ensures (then c.put_decimal-end.ensures c.put.ensures)))) in
    record { printed = p.0; upper_bound = p.1 }
