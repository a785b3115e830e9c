-- 01's starred samples of the build, as a single table under one statement, by computation over `built`: from the bytes of each circuit, on tables full of other
-- numbers, to what stands in them afterwards.
-- Assumes nothing.
use Rattle.std.specs.Prelude.{◌≡◌, refl, cond, List, [], ◌∷◌, ◌++◌, map, ℕ, suc, ◌-◌, eqb, ℤ, pos, neg_ℤ, replicate, take, Err, Ok, Result}
use Rattle.units.specs.declared.Form.{Form}
use Rattle.units.specs.declared.Form.TheVariants.{Binary, Ising}
use Rattle.penalty.specs.Rows.{rows, row_of}
use Rattle.energy.specs.Plain.{wire}
use Rattle.energy.specs.Model.{Entry, low, high, halves, add, add_linear, add_pair, place, place_all, give, without, fix, ising, ends, counted}
use Rattle.energy.specs.Fixing.{fix_all}
use Rattle.energy.specs.Clash.{clash_after}
use Rattle.circuit.specs.File.{kind_byte, byte1, field, nid_at, kind_of, kind_at, section_of, section_at, those}
use Rattle.circuit.specs.Meaning.{list_of, gate_at, numbers_to, first_numbers, circuit_of}
use Rattle.circuit.specs.Search.{first_such, any_before}
use Rattle.circuit.specs.Form.{order_at, misplaced, used_fields, unused_set, times, bad_number, nid_before, breaks, first_broken}
use Rattle.circuit.specs.Earlier.{named_by, not_below, late, first_late}
use Rattle.circuit.specs.Partner.{listed_before, wrong, first_wrong}
use Rattle.circuit.specs.Check.{counts_of, roomed, named, checked}
use Rattle.circuit.specs.Refusals.{number_of, place_of}
use Rattle.circuit.specs.Samples.{row, bytes_p}
use Rattle.numbering.specs.State.{start}
use Rattle.numbering.specs.Visit.{one_name, three_names, take as take_names, each, process, step, visit, visit_of}
use Rattle.numbering.specs.Numbered.{visit_roots, join_names, number, rows_from, rows_of}
use Rattle.store_pairs.specs.Store.{zip}
use Rattle.model_fixes.specs.Order.{joined_qubit, fixes_of}
use Rattle.model.specs.Steps.{placed_of, finished_of}
use Rattle.qubot_left.specs.Made.{make}
use Rattle.qubot_left.specs.Built.{Tables, lent, built}
use Rattle.qubot_left.specs.declared.Finished.{Finished}
use Rattle.circuit.specs.declared.Refusal.{Refusal}

-- ---- how a sample is written

-- a whole number as 01 writes it; the tables count halves
abbrev whole : ℕ → ℤ
whole n = halves (pos n)

-- so many halves: 2.5 is `in_halves 5`
abbrev in_halves : ℕ → ℤ
in_halves n = pos n

abbrev minus : ℤ → ℤ
minus z = neg_ℤ z

-- what a sample says of a build: a refusal with its number and place; or the gates' qubits, the linear entries, the pairs with their two qubits, the offset and the
-- variable count
pub data Says : Type 0 where
  refusal : ℕ → ℕ → Says
  model : List ℕ → List (ℕ × ℤ) → List (ℕ × ℕ × ℤ) → ℤ → ℕ → Says

-- the linear entries that there are, from qubit q on
abbrev entries_from : ℕ → List ℕ → List ℤ → List (ℕ × ℤ)
entries_from q [] ls = []
entries_from q (h ∷ hs) [] = []
entries_from q (h ∷ hs) (l ∷ ls) = cond (eqb h 1) ((q, l) ∷ []) [] ++ entries_from (suc q) hs ls

abbrev said_by : Tables × Result Finished Refusal → Says
said_by (t, Err r) = refusal (number_of r) (place_of r)
said_by (t, Ok f) =
    model (map (λ (n : ℕ). n - 1) t.qubits) (entries_from 0 t.has_linear t.linear) (map (λ (e : Entry). (low e.0, high e.0, e.1)) (take f.pairs (zip t.keys t.weights))) f.offset
    f.variables

-- tables for g gates, n qubits and k pairs, full of other numbers
abbrev used : ℕ → ℕ → ℕ → Tables
used g n k =
    lent (replicate g 9) (replicate n 9) (replicate n 9) (replicate n (pos 9)) (replicate n 1) (replicate n 1) (replicate n 2) (replicate k 9) (replicate k (pos 9))

pub record Sample : Type 0 where
  pub bytes : List ℕ
  pub form : Form
  -- how many gates, qubits and pairs the tables hold
  pub gates : ℕ
  pub qubits : ℕ
  pub pairs : ℕ
  pub says : Says

-- ---- the table

unfoldable pub samples : List Sample
samples =
    -- "P makes qubits 2, 3, 4; finished: 2 and 3 have -4, pair 2 3 has 2, offset 6."
    record {
      bytes = bytes_p;
      form = Binary;
      gates = 3;
      qubits = 11;
      pairs = 33;
      says = model (2 ∷ 3 ∷ 4 ∷ []) ((2, minus (whole 4)) ∷ (3, minus (whole 4)) ∷ []) ((2, 3, whole 2) ∷ []) (whole 6) 2;
    }
    -- "P in Ising form: -1.5, -1.5, pair 0.5, offset 2.5."
    ∷ record {
      bytes = bytes_p;
      form = Ising;
      gates = 3;
      qubits = 11;
      pairs = 33;
      says = model (2 ∷ 3 ∷ 4 ∷ []) ((2, minus (in_halves 3)) ∷ (3, minus (in_halves 3)) ∷ []) ((2, 3, in_halves 1) ∷ []) (in_halves 5) 2;
    }
    -- "And(0,0) as bad state, gate 0 InputBit: linear 2 has -6, offset 6, one variable."
    ∷ record {
      bytes = row 2 0 0 0 0 0 ++ row 4 0 0 0 0 0 ++ row 21 0 1 0 0 30;
      form = Binary;
      gates = 2;
      qubits = 8;
      pairs = 23;
      says = model (2 ∷ 3 ∷ []) ((2, minus (whole 6)) ∷ []) [] (whole 6) 1;
    }
    -- "InputBits 0, 1, half adder 2, its carry 3 the bad state: aux 4, carry 5, result 6; linear 2: -2, 3: -2, 4: 8, 6: 6; offset 4."
    ∷ record {
      bytes = row 2 0 0 0 0 0 ++ row 2 0 0 0 0 0 ++ row 9 0 0 1 0 0 ++ row 8 0 2 0 0 0 ++ row 21 0 3 0 0 30;
      form = Binary;
      gates = 4;
      qubits = 14;
      pairs = 43;
      says =
          model (2 ∷ 3 ∷ 6 ∷ 5 ∷ []) ((2, minus (whole 2)) ∷ (3, minus (whole 2)) ∷ (4, whole 8) ∷ (6, whole 6) ∷ [])
          ((2, 4, minus (whole 4)) ∷ (3, 4, whole 4) ∷ (3, 6, minus (whole 4)) ∷ (4, 6, minus (whole 4)) ∷ [])
          (whole 4)
          4;
    }
    -- "One InputBit as sole bad state: no variables, offset 0."
    ∷ record { bytes = row 2 0 0 0 0 0 ++ row 21 0 0 0 0 30; form = Binary; gates = 1; qubits = 5; pairs = 13; says = model (2 ∷ []) [] [] (whole 0) 0 }
    -- "ConstFalse as sole bad state: 9, place 0."
    ∷ record { bytes = row 0 0 0 0 0 0 ++ row 21 0 0 0 0 30; form = Binary; gates = 1; qubits = 5; pairs = 13; says = refusal 9 0 }
    -- "ConstTrue: accepted."
    ∷ record { bytes = row 1 0 0 0 0 0 ++ row 21 0 0 0 0 30; form = Binary; gates = 1; qubits = 5; pairs = 13; says = model (1 ∷ []) [] [] (whole 0) 0 }
    ∷ []

-- what the definition makes of a sample
abbrev pub made_of : Sample → Sample
made_of x =
    record {
      bytes = x.bytes;
      form = x.form;
      gates = x.gates;
      qubits = x.qubits;
      pairs = x.pairs;
      says = said_by (built x.bytes x.form (used x.gates x.qubits x.pairs));
    }

-- Theorem: a build of each sample says what 01 says.
pub samples-hold : map made_of samples ≡ samples
unfolding samples bytes_p built make checked counts_of named roomed kind_byte byte1 field nid_at kind_of kind_at section_of section_at those list_of gate_at numbers_to first_numbers circuit_of first_such any_before order_at misplaced used_fields unused_set times bad_number nid_before breaks first_broken named_by not_below late first_late listed_before wrong first_wrong start one_name three_names take_names each process step visit visit_of visit_roots join_names number rows_from rows_of joined_qubit fixes_of placed_of finished_of rows row_of wire add add_linear add_pair place place_all give without fix fix_all ising ends counted clash_after
samples-hold = refl
