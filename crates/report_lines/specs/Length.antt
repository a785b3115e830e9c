-- How long the lines are: a refusal's has at most 32 bytes, the energy's 66, a bad state's 25 and the verdict's 8. So no answer has more than 66 + 64 * 25 + 8 = 1,674 bytes,
-- and a buffer of that many holds every one.
-- Assumes nothing.
use Rattle.std.specs.Prelude.{Bool, true, false, ℕ, ◌^◌, ◌≤◌, ◌<◌, nat_abs, length}
use Rattle.std.proofs.Common.{arith, length-append}
use Rattle.units.specs.declared.Form.{Form}
use Rattle.units.specs.declared.Form.TheVariants.{Binary, Ising}
use Rattle.units.specs.declared.Energy.{Energy}
use Rattle.circuit.specs.declared.Refusal.{Refusal}
use Rattle.circuit.specs.declared.Refusal.TheVariants.{Length, TooMany, Form as BadForm, NotEarlier, Partner, NoBadState, Room as NoRoom, HasQubit, FixedTwice, FewValues, OtherCount, NoQubit, NotUsedUp, DivisorZero, NotGiven, ShortText}
use Rattle.circuit.specs.Refusals.{number_of, place_of}
use Rattle.text.specs.Decimal.{decimal, length-decimal}
use Rattle.text.specs.Signed.{length-signed}
use Rattle.text.specs.Halves.{length-halves}
use Rattle.text.specs.Text.{lead_text}
use Rattle.report_lines.specs.Report.{refusal_line, form_word, energy_line, bad_line, hit_line}

-- a number of 64 bits has at most 20 digits
few : (n : ℕ) → n < 2 ^ 64 → length (decimal n) ≤ 20
few n h = length-decimal 19 n (omega arith)

-- ---- a refusal

number_small : (r : Refusal) → number_of r < 100
number_small Length = omega arith
number_small TooMany = omega arith
number_small (BadForm r) = omega arith
number_small (NotEarlier r) = omega arith
number_small (Partner r) = omega arith
number_small NoBadState = omega arith
number_small NoRoom = omega arith
number_small (HasQubit g) = omega arith
number_small (FixedTwice q) = omega arith
number_small FewValues = omega arith
number_small OtherCount = omega arith
number_small (NoQubit g) = omega arith
number_small (NotUsedUp i) = omega arith
number_small (DivisorZero q) = omega arith
number_small (NotGiven q) = omega arith
number_small ShortText = omega arith

pub refusal-length : (r : Refusal) → place_of r < 2 ^ 64 → length (refusal_line r) ≤ 32
unfolding refusal_line lead_text
refusal-length r h =
    simp length-append (omega (arith, length-decimal 1 (number_of r) (number_small r), few (place_of r) h))

-- ---- a run

form-length : (f : Form) → length (form_word f) ≤ 6
form-length Binary = omega arith
form-length Ising = omega arith

pub energy-length : (e : Energy) → nat_abs e.halves < 2 ^ 64 → length (energy_line e) ≤ 66
unfolding energy_line
energy-length e h =
    simp length-append (omega (arith, length-halves e.halves h, form-length e.form, length-signed e.halves h))

pub bad-length : (n : ℕ) → n < 2 ^ 64 → length (bad_line n) ≤ 25
unfolding bad_line
bad-length n h = simp length-append (omega (arith, few n h))

pub hit-length : (b : Bool) → length (hit_line b) ≤ 8
hit-length true = omega arith
hit-length false = omega arith
