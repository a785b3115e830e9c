-- What giving the inputs asks of the file and the tables, and one bit as the code gives it.
-- Assumes nothing: these are definitions.
use Rattle.std.specs.Prelude.{◌≡◌, Bool, List, [], ℕ, ◌+◌, ◌*◌, ◌-◌, ◌≤◌, ◌<◌, eqb, ℤ, length, get_or, set}
use Rattle.units.specs.Name.{gate}
use Rattle.circuit.specs.File.{field}
use Rattle.circuit.specs.Meaning.{circuit_of}
use Rattle.run_rules.specs.Layout.{named}
use Rattle.run_values.specs.declared.Stop.TheVariants.{NoQubit}
use Rattle.run_values.specs.Need.{Got, table, stopped, decide, bit}

-- `starts` holds where the bits of each input begin, and after the last where they end
pub record InputsLaid (b starts : List ℕ) : Type 0 where
  pub starts-there : length starts ≡ 65
  pub few : length (circuit_of b).inputs ≤ 64
  pub bits : (k : ℕ) → k < length (circuit_of b).inputs
      → (get_or (circuit_of b).inputs k (record { nid = 0; bits = [] })).bits ≡ named b (get_or starts k 0) (get_or starts (k + 1) 0 - get_or starts k 0)
  pub rise : (k : ℕ) → k < 64 → get_or starts k 0 ≤ get_or starts (k + 1) 0
  pub there : (k : ℕ) → k < 65 → 16 * get_or starts k 0 ≤ length b

-- every gate's qubit has a value byte
abbrev pub Slots : List ℕ → ℕ → Type 0
Slots qubits n = (g : ℕ) → get_or qubits g 0 ≤ n

abbrev pub set_bit : List ℕ → ℕ → Bool → List ℕ → Got
set_bit qubits g v t = decide (eqb (get_or qubits g 0) 0) (λ t. stopped (NoQubit (gate g))) (λ t. table (set t (get_or qubits g 0 - 1) (bit v))) t

pub record GiveAsked (b qubits : List ℕ) (n from bits : ℕ) : Type 0 where
  pub slots : Slots qubits n
  pub there : 16 * (from + bits) ≤ length b
  pub gates : (j : ℕ) → j < bits → field b (from + j) 1 < length qubits

pub record InputsAsked (b starts qubits : List ℕ) (n : ℕ) (vs : List ℤ) : Type 0 where
  pub slots : Slots qubits n
  pub laid : InputsLaid b starts
  pub gates : (k j : ℕ) → k < length (circuit_of b).inputs → get_or starts k 0 + j < get_or starts (k + 1) 0 → field b (get_or starts k 0 + j) 1 < length qubits
  pub count : length vs ≡ length (circuit_of b).inputs
