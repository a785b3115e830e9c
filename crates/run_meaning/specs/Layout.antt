-- What a run asks of the build: where the circuit's parts stand in its file, that every name's rule leads to names before it, and the model's tables.
-- Assumes nothing: these are definitions.
use Rattle.std.specs.Prelude.{◌≡◌, List, [], ◌∷◌, ℕ, ◌+◌, ◌^◌, ◌≤◌, ◌<◌, ℤ, nat_abs, length, get_or, take}
use Rattle.energy.specs.Model.{low, high, Inside, sizes}
use Rattle.circuit.specs.File.{field}
use Rattle.circuit.specs.Meaning.{circuit_of}
use Rattle.numbering.specs.State.{State}
use Rattle.store_pairs.specs.Store.{load, zip}
use Rattle.store.specs.declared.Totals.{Totals}
pub use Rattle.run_rules.specs.Layout.{Laid, AllLess, Formed}
unfoldable pub use Rattle.run_rules.specs.Layout.{named, is_division}
pub use Rattle.run_values.specs.Asking.{Ready, net, Asked, NeedsAsked}
unfoldable pub use Rattle.run_values.specs.Asking.{follow_of}
pub use Rattle.run_give.specs.Asked.{InputsLaid}

-- ---- the model

-- The keys of the pairs from the lower qubit q on: they rise by the lower qubit, which has a row, and the higher one is one of n names.
abbrev pub Stacked : ℕ → List ℕ → ℕ → List ℕ → Type 0
Stacked n rows q [] = Unit {0}
Stacked n rows q (k ∷ ks) = (q ≤ low k) × (high k < n) × (get_or rows (low k) 0 ≡ 1) × Stacked n rows (low k) ks

-- every flag of the table stands at a name
abbrev pub Flags : ℕ → List ℕ → Type 0
Flags n fs = (q : ℕ) → get_or fs q 0 ≡ 1 → q < n

-- the model's tables, by n names
pub record Modeled (n : ℕ) (linear : List ℤ) (flags rows keys : List ℕ) (weights : List ℤ) (t : Totals) : Type 0 where
  pub linear-there : length linear ≡ n
  pub flags-named : Flags n flags
  pub rows_named : Flags n rows
  pub stacked : Stacked n rows 0 (take t.count keys)
  pub even : length weights ≡ length keys
  pub used : t.count ≤ length keys
  pub inside : Inside n (take t.count (zip keys weights))
  pub small : nat_abs t.offset + sizes linear + load (take t.count (zip keys weights)) ≤ 2 ^ 40

-- all that a run asks of the build
pub record RunReady (b starts input_starts : List ℕ) (bad_from total input_count : ℕ) (s : State) (linear : List ℤ) (flags rows fixed keys : List ℕ) (weights : List ℤ) (t : Totals) : Type 0 where
  pub ready : Ready b starts bad_from s fixed
  pub inputs-laid : InputsLaid b input_starts
  pub input-gates : (k j : ℕ) → k < length (circuit_of b).inputs → get_or input_starts k 0 + j < get_or input_starts (k + 1) 0 → field b (get_or input_starts k 0 + j) 1 < length s.qubits
  pub modeled : Modeled s.next linear flags rows keys weights t
  pub bads : total ≡ length (circuit_of b).bads
  pub few-bads : total ≤ 64
  pub count : input_count ≡ length (circuit_of b).inputs
