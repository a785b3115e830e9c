-- 01's starred runs, as a single table under one statement, by computation over `evaluated`: from the bytes of the circuit, on tables and value bytes full of other
-- numbers, to the answer and what stands in the value bytes afterwards.
-- Assumes nothing.
use Rattle.std.specs.Prelude.{◌≡◌, refl, Bool, true, false, List, [], ◌∷◌, map, ℕ, ℤ, pos, neg_ℤ, replicate, take, Err, Ok, Result}
use Rattle.units.specs.declared.Form.TheVariants.{Binary}
use Rattle.penalty.specs.Rows.{rows, row_of}
use Rattle.energy.specs.Plain.{wire}
use Rattle.energy.specs.Model.{halves, add, add_linear, add_pair, place, place_all, give, without, fix, linear_by, pairs_by, energy_by}
use Rattle.energy.specs.Fixing.{fix_all}
use Rattle.energy.specs.Clash.{clash_after}
use Rattle.circuit.specs.File.{kind_byte, byte1, field, nid_at, kind_of, kind_at, section_of, section_at, those}
use Rattle.circuit.specs.Meaning.{list_of, gate_at, numbers_to, first_numbers, circuit_of}
use Rattle.circuit.specs.Search.{first_such, any_before}
use Rattle.circuit.specs.Form.{order_at, misplaced, used_fields, unused_set, times, bad_number, nid_before, breaks, first_broken}
use Rattle.circuit.specs.Earlier.{named_by, not_below, late, first_late}
use Rattle.circuit.specs.Partner.{listed_before, wrong, first_wrong}
use Rattle.circuit.specs.Check.{counts_of, roomed, named, checked}
use Rattle.circuit.specs.Refusals.{number_of, place_of}
use Rattle.circuit.specs.Samples.{bytes_p}
use Rattle.numbering.specs.State.{start}
use Rattle.numbering.specs.Visit.{one_name, three_names, take as take_names, each as visit_each, process, step as visit_step, visit, visit_of}
use Rattle.numbering.specs.Numbered.{visit_roots, join_names, number, rows_from, rows_of}
use Rattle.model_fixes.specs.Order.{joined_qubit, fixes_of}
use Rattle.model.specs.Steps.{placed_of, finished_of}
use Rattle.qubot_left.specs.Made.{make}
use Rattle.qubot_left.specs.Built.{Tables, lent, built}
use Rattle.run_rules.specs.Rules.{law_of, depth}
use Rattle.run_meaning.specs.Need.{each, number as number_in, settle, follow, step, need, need_of}
use Rattle.run_meaning.specs.Give.{give_bits, give_all}
use Rattle.run_meaning.specs.Ran.{Done, marked, keys_of, higher, with_higher, true_nids, valued, within, ran}
use Rattle.run_left.specs.Evaluated.{evaluated}
use Rattle.units.specs.declared.Energy.{Energy}
use Rattle.circuit.specs.declared.Refusal.{Refusal}

-- ---- how a sample is written

-- what a sample says of a run: a refusal with its number and place; or the energy as a count of halves, the verdict, and the true bad states by their nids
pub data Says : Type 0 where
  refusal : ℕ → ℕ → Says
  energy : ℤ → Bool → List ℕ → Says

-- a whole number as 01 writes it
abbrev whole : ℕ → ℤ
whole n = halves (pos n)

abbrev said_by : Result (Energy × Bool) Refusal → List ℕ → Says
said_by (Err r) nids = refusal (number_of r) (place_of r)
said_by (Ok (e, hit)) nids = energy e.halves hit nids

-- tables for g gates, n qubits and k pairs, full of other numbers
abbrev used : ℕ → ℕ → ℕ → Tables
used g n k =
    lent (replicate g 9) (replicate n 9) (replicate n 9) (replicate n (pos 9)) (replicate n 1) (replicate n 1) (replicate n 2) (replicate k 9) (replicate k (pos 9))

-- a run of the circuit P, of which the build leaves five names, from six value bytes at 7
pub record Sample : Type 0 where
  pub input : ℤ
  pub says : Says
  pub values : List ℕ

-- ---- the table

unfoldable pub samples : List Sample
samples =
    -- "P, value 3: energy 0. Value 1: energy 2. Value -1: energy 6. All list 30, as qubit 4 is fixed."
    record { input = pos 3; says = energy (whole 0) true (30 ∷ []); values = 2 ∷ 2 ∷ 1 ∷ 1 ∷ 1 ∷ 7 ∷ [] }
    ∷ record { input = pos 1; says = energy (whole 2) false (30 ∷ []); values = 2 ∷ 2 ∷ 1 ∷ 0 ∷ 1 ∷ 7 ∷ [] }
    ∷ record { input = neg_ℤ (pos 1); says = energy (whole 6) false (30 ∷ []); values = 2 ∷ 2 ∷ 0 ∷ 0 ∷ 1 ∷ 7 ∷ [] }
    -- "P, value 4, and value -4: 13, place 0."
    ∷ record { input = pos 4; says = refusal 13 0; values = 2 ∷ 2 ∷ 2 ∷ 2 ∷ 2 ∷ 7 ∷ [] }
    ∷ record { input = neg_ℤ (pos 4); says = refusal 13 0; values = 2 ∷ 2 ∷ 2 ∷ 2 ∷ 2 ∷ 7 ∷ [] }
    ∷ []

abbrev said_in : ℤ → Done → Sample
said_in v d = record { input = v; says = said_by d.run.outcome (take d.run.count d.run.nids); values = d.values }

-- what the definition makes of a sample
abbrev pub made_of : Sample → Sample
made_of x = said_in x.input (evaluated bytes_p Binary (used 3 11 33) (x.input ∷ []) (replicate 6 7)).1

-- Theorem: a run of each sample says what 01 says, and leaves these value bytes.
pub samples-hold : map made_of samples ≡ samples
unfolding samples bytes_p evaluated built make checked counts_of named roomed kind_byte byte1 field nid_at kind_of kind_at section_of section_at those list_of gate_at numbers_to first_numbers circuit_of first_such any_before order_at misplaced used_fields unused_set times bad_number nid_before breaks first_broken named_by not_below late first_late listed_before wrong first_wrong start one_name three_names take_names visit_each process visit_step visit visit_of visit_roots join_names number rows_from rows_of joined_qubit fixes_of placed_of finished_of rows row_of wire add add_linear add_pair place place_all give without fix fix_all clash_after linear_by pairs_by energy_by law_of depth each number_in settle follow step need need_of give_bits give_all marked keys_of higher with_higher true_nids valued within ran
samples-hold = refl
