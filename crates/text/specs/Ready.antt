-- What printing asks of the tables that it reads.
-- Assumes nothing: these are definitions.
use Rattle.std.specs.Prelude.{ℕ, ◌^◌, ◌≤◌, ◌<◌, ◌≡◌, List, [], ◌∷◌, ℤ, pos, nat_abs, length, get_or}
use Rattle.energy.specs.Circuit.{Bad}
use Rattle.circuit.specs.declared.Counts.{Counts}
use Rattle.circuit.specs.Meaning.{circuit_of}
use Rattle.circuit.specs.Starts.{starts_of}
use Rattle.circuit.specs.Check.{counts_of}
use Rattle.circuit.specs.Accepted.{Sound}

-- The circuit file passed its checks, each gate has an entry in the table of qubits, and each qubit has one in the table of fixed values.
pub record Readable (c qs fs : List ℕ) : Type 0 where
  pub sound : Sound c
  pub gates : length (circuit_of c).gates ≤ length qs
  pub names : (g : ℕ) → g < length (circuit_of c).gates → get_or qs g 0 ≤ length fs

-- each of a list
abbrev pub Each : {A : Type 0} → (A → Type 0) → List A → Type 0
Each P [] = Unit
Each P (x ∷ xs) = P x × Each P xs

-- the gate of each bad state has a qubit
abbrev pub BadsNamed : List ℕ → List Bad → Type 0
BadsNamed qs bads = Each (λ (b : Bad). 0 < get_or qs b.gate 0) bads

-- What printing asks of a finished build: the file passed its checks, its counts and the starts of its inputs are what they say, each bad state has a qubit, and the
-- tables have an entry for each gate, for each of n qubits, and for each of m pairs.
pub record Printable (c st qs fs hs : List ℕ) (cs : List ℤ) (ks : List ℕ) (ws : List ℤ) (k : Counts) (n m : ℕ) : Type 0 where
  pub sound : Sound c
  pub counts : k ≡ counts_of c
  pub starts : st ≡ starts_of c 23
  pub gates : length (circuit_of c).gates ≤ length qs
  pub bads : BadsNamed qs (circuit_of c).bads
  pub names : (g : ℕ) → g < length (circuit_of c).gates → get_or qs g 0 ≤ n
  pub fixed : n ≤ length fs
  pub has_linear : n ≤ length hs
  pub linear : n ≤ length cs
  pub keys : m ≤ length ks
  pub weights : m ≤ length ws
  -- names are of two bytes, keys of four, and coefficients of eight
  pub few : n ≤ 65536
  pub few_pairs : m ≤ 4294967296
  pub small_linear : (q : ℕ) → q < n → nat_abs (get_or cs q (pos 0)) < 2 ^ 64
  pub small_weights : (j : ℕ) → j < m → nat_abs (get_or ws j (pos 0)) < 2 ^ 64
