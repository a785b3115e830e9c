-- The lines of an answer, as a user reads them: of a run the energy with its form and its count of halves, each true bad state's nid, and the verdict; of a refusal
-- its number and place.
-- Assumes nothing.
use Rattle.std.specs.Prelude.{◌≡◌, refl, Bool, true, false, List, [], ◌∷◌, ◌++◌, ℕ, min, ℤ, pos, negsuc, take, replicate, Err, Ok, Result}
use Rattle.units.specs.declared.Form.{Form}
use Rattle.units.specs.declared.Form.TheVariants.{Binary, Ising}
use Rattle.units.specs.declared.Energy.{Energy}
use Rattle.units.specs.Halves.{energy_of}
use Rattle.circuit.specs.declared.Refusal.{Refusal}
use Rattle.circuit.specs.declared.Refusal.TheVariants.{NotUsedUp}
use Rattle.circuit.specs.Refusals.{number_of, place_of}
use Rattle.run_outcome.specs.declared.Run.{Run}
use Rattle.text.specs.Bytes.{bytes}
use Rattle.text.specs.Decimal.{decimal, digits}
use Rattle.text.specs.Signed.{signed_text}
use Rattle.text.specs.Halves.{half_text, halves_text}
use Rattle.text.specs.Text.{lines, lead_text, newline}

-- `refused 13 0`
unfoldable pub refusal_line : Refusal → List ℕ
refusal_line r = bytes "refused " ++ (lead_text (number_of r) ++ (decimal (place_of r) ++ (newline ∷ [])))

abbrev pub form_word : Form → List ℕ
form_word Binary = bytes "binary"
form_word Ising = bytes "ising"

-- `energy 2.5 ising halves 5`
unfoldable pub energy_line : Energy → List ℕ
energy_line e =
    bytes "energy " ++ (halves_text e.halves ++ (bytes " " ++ (form_word e.form ++ (bytes " halves " ++ (signed_text e.halves ++ (newline ∷ []))))))

-- `bad 30`
unfoldable pub bad_line : ℕ → List ℕ
bad_line nid = bytes "bad " ++ (decimal nid ++ (newline ∷ []))

-- `hit yes`, `hit no`
abbrev pub hit_line : Bool → List ℕ
hit_line true = bytes "hit yes\n"
hit_line false = bytes "hit no\n"

-- a run, by its outcome and the nids of its true bad states
abbrev pub outcome_lines : Result (Energy × Bool) Refusal → List ℕ → List ℕ
outcome_lines (Ok (e, hit)) nids = energy_line e ++ (lines bad_line nids ++ hit_line hit)
outcome_lines (Err r) nids = refusal_line r

-- "true bad states are listed in file order .. (at most 64)": the first `count` of the answer's 64 nids
unfoldable pub run_lines : Run → List ℕ
run_lines r = outcome_lines r.outcome (take (min r.count 64) r.nids)

-- ---- samples: 01's P with value -1, with value 3 in the Ising form, the largest nid, and 01's P with value 4

-- a run that was made, with one true bad state
one : ℤ → Form → Bool → ℕ → Run
one h f hit nid = record { outcome = Ok (energy_of h f, hit); nids = nid ∷ replicate 63 0; count = 1 }

samples : (run_lines (one (pos 12) Binary false 30) ≡ bytes "energy 6 binary halves 12\nbad 30\nhit no\n")
    × (run_lines (one (pos 0) Ising true 30) ≡ bytes "energy 0 ising halves 0\nbad 30\nhit yes\n")
    × (run_lines (one (negsuc 0) Ising false 18446744073709551615) ≡ bytes "energy -0.5 ising halves -1\nbad 18446744073709551615\nhit no\n")
    × (refusal_line (NotUsedUp (record { 0 = 0 })) ≡ bytes "refused 13 0\n")
unfolding run_lines refusal_line energy_line bad_line one lead_text halves_text half_text signed_text decimal digits
samples = (refl, refl, refl, refl)
