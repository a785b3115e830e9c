-- `report_lines::put_energy` meets its contract. The line is short, so there are places for it. A signed number reaches a callee as what the machine reads back of it.
use Rattle.std.proofs.Common.{ℕ, ◌+◌, ◌^◌, ◌<◌, ◌≡◌, [], ◌∷◌, ◌++◌, ◌≤◌, arith, length, w64, SFits, to_z, of_z, to_z-of_z, rules}
use lib.Signed.{nat_abs-le}
use Rattle.units.specs.declared.Energy.{Energy}
use Rattle.text.specs.Bytes.{bytes}
use Rattle.text.specs.Text.{newline}
use Rattle.text.specs.Signed.{signed_text}
use Rattle.text.specs.Halves.{halves_text}
use Rattle.text.specs.Paste.{Room, then, room-first, room-second, room_as, printed-as, within}
use Rattle.report_lines.specs.Report.{energy_line, form_word}
use Rattle.report_lines.specs.Length.{energy-length}
use Rattle.report_lines.proofs.put_energy.Goals as goal

-- the line, as the machine reads its number back
says : (e : Energy) → SFits w64 e.halves
    → energy_line e ≡ bytes "energy " ++ (halves_text (to_z w64 (of_z w64 e.halves)) ++ (bytes " " ++ (form_word e.form ++ (bytes " halves " ++ (signed_text (to_z w64 (of_z w64 e.halves)) ++ (newline ∷ []))))))
unfolding energy_line
says e f = rw (to_z-of_z f)

short : (e : Energy) → SFits w64 e.halves → length (energy_line e) ≤ 66
short e f = energy-length _ (omega (arith, nat_abs-le e.halves f.sfits))

room : (at : ℕ) (e : Energy) → SFits w64 e.halves → at + 66 < 2 ^ 64
    → Room at (bytes "energy " ++ (halves_text (to_z w64 (of_z w64 e.halves)) ++ (bytes " " ++ (form_word e.form ++ (bytes " halves " ++ (signed_text (to_z w64 (of_z w64 e.halves)) ++ (newline ∷ [])))))))
room at e f h = room_as (says e f) (record { below = omega (arith, short e f, h) })

pub put_bytes-energy-requires : goal.put_bytes-energy-requires
put_bytes-energy-requires c = room-first _ (room c.args.at c.args.e (search rules) c.requires)

pub put_halves-gap-requires : goal.put_halves-gap-requires
put_halves-gap-requires c = room-first _ (room-second c.put_bytes-energy.ensures (room c.args.at c.args.e (search rules) c.requires))

pub put-word-requires : goal.put-word-requires
put-word-requires c = room-first _ (room-second c.put_halves-gap.ensures (room-second c.put_bytes-energy.ensures (room c.args.at c.args.e (search rules) c.requires)))

pub put_form-count-requires : goal.put_form-count-requires
put_form-count-requires c = room-first _ (room-second c.put-word.ensures (room-second c.put_halves-gap.ensures (room-second c.put_bytes-energy.ensures (room c.args.at c.args.e (search rules) c.requires))))

pub put_bytes-number-requires : goal.put_bytes-number-requires
put_bytes-number-requires c = room-first _ (room-second c.put_form-count.ensures (room-second c.put-word.ensures (room-second c.put_halves-gap.ensures (room-second c.put_bytes-energy.ensures (room c.args.at c.args.e (search rules) c.requires)))))

pub put_signed-end-requires : goal.put_signed-end-requires
put_signed-end-requires c = room-first _ (room-second c.put_bytes-number.ensures (room-second c.put_form-count.ensures (room-second c.put-word.ensures (room-second c.put_halves-gap.ensures (room-second c.put_bytes-energy.ensures (room c.args.at c.args.e (search rules) c.requires))))))

pub put-requires : goal.put-requires
put-requires c = room-second c.put_signed-end.ensures (room-second c.put_bytes-number.ensures (room-second c.put_form-count.ensures (room-second c.put-word.ensures (room-second c.put_halves-gap.ensures (room-second c.put_bytes-energy.ensures (room c.args.at c.args.e (search rules) c.requires))))))

pub returns : goal.returns
returns c =
    let p = within 66 (short _ (search rules)) (printed-as (says _ (search rules)) (then c.put_bytes-energy.ensures (then c.put_halves-gap.ensures (then c.put-word.ensures (then c.put_form-count.ensures (then c.put_bytes-number.ensures (then c.put_signed-end.ensures c.put.ensures))))))) in
    record { printed = p.0; upper_bound = p.1 }
