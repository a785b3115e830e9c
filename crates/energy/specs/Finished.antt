-- Demand 3 of the models: before fixing, after fixing, in the Ising form, and what follows: the finished model reaches 0 exactly when some inputs and
-- division bits, both constants at their own values, meet every constraint and make some bad state true.
-- The theorems that an edit of a definition breaks are in proofs/Finished.antt.
-- Assumes nothing.
use Rattle.std.specs.Prelude.{◌≡◌, ◌⊎◌, ◌↔◌, Bool, true, false, List, [], ◌∷◌, ℕ, ◌+◌, ◌≤◌, ◌<◌, ℤ, pos, get_or}
use Rattle.units.specs.declared.Form.{Form}
use Rattle.units.specs.declared.Form.TheVariants.{Binary, Ising}
use Rattle.energy.specs.Plain.{Setting, plain}
use Rattle.energy.specs.Circuit.{Constraint, Choice, value}
use Rattle.energy.specs.Numbering.{In, Named, name_in, Numbering, rows, top}
use Rattle.energy.specs.Model.{Model, Sized, empty, place_all, ising, binary_energy, ising_energy, energy_in}
use Rattle.energy.specs.Sized.{Wired, sized-empty, sized-place_all, sorted-wired}
use Rattle.energy.specs.Stored.{place_all-energy}
use Rattle.energy.specs.Before.{Chosen, some}
use Rattle.energy.specs.Fixing.{Fixes, fix_all, complete, fixed_at}

-- ---- the models

-- "Fixing order: the joined qubit true, constraints in order, 1 true, 0 false."
abbrev pub forced : (ℕ → ℕ) → List Constraint → Fixes
forced nm [] = (1, true) ∷ (0, false) ∷ []
forced nm (c ∷ cs) = (nm c.gate, c.value) ∷ forced nm cs

-- the joined qubit first
abbrev pub fixes : Named → List Constraint → Fixes
fixes d cs = (top d, true) ∷ forced (name_in d) cs

-- the model before fixing, over tables of n qubits
abbrev pub model : ℕ → Named → Model
model n d = place_all (rows d) (empty n)

-- the finished model
abbrev pub finished : ℕ → Named → List Constraint → Model
finished n d cs = fix_all (fixes d cs) (model n d)

-- a model in the form that is asked for
abbrev pub in_form : Form → Model → Model
in_form Binary m = m
in_form Ising m = ising m

-- ---- what the theorem speaks of

-- the constants at their own values
abbrev pub proper : (ℕ → Bool) → Choice
proper bits = record { low = false; high = true; bits = bits }

-- the constraints name reached gates
abbrev pub Known : List ℕ → List Constraint → Type 0
Known gs [] = Unit {0}
Known gs (c ∷ cs) = In c.gate gs × Known gs cs

-- the values v of the gates meet the constraints
abbrev pub Met : (ℕ → Bool) → List Constraint → Type 0
Met v [] = Unit {0}
Met v (c ∷ cs) = (v c.gate ≡ c.value) × Met v cs

-- some setting of the finished model has energy 0, in this form
abbrev pub Reaches : Form → ℕ → Named → List Constraint → Type 0
Reaches form n d cs = (σ : Setting) × (energy_in form σ (in_form form (finished n d cs)) ≡ pos 0)

-- some inputs and division bits, the constants at their own values, meet every constraint and make some bad state true
abbrev pub Hit : Named → List Constraint → Type 0
Hit d cs =
    (bits : ℕ → Bool) × Met (value d.nodes (proper bits)) cs
    × (some (value d.nodes (proper bits)) (d.bad ∷ d.bads) ≡ true)

-- the tables have room for every name, and no more than a key can hold
pub record Room (n : ℕ) (d : Named) : Type 0 where
  pub fits : d.count ≤ n
  pub names : n ≤ 65536

-- ---- every name is below the tables' size

module _ (n : ℕ) (d : Named) (num : Numbering d) (room : Room n d) where
  -- the rows are at qubits of the model
  pub rows-wired : Wired n (rows d)
  rows-wired = sorted-wired n 2 (rows d) d.count room.fits num.sorted

  -- the model's size
  pub sized-model : Sized n (model n d)
  sized-model = sized-place_all n (rows d) rows-wired (empty n) (sized-empty n room.names)

  -- before fixing the model has the plain energy, in halves
  pub model-energy : (σ : Setting) → binary_energy σ (model n d) ≡ pos (plain σ (rows d) + plain σ (rows d))
  model-energy σ = place_all-energy σ n room.names (rows d) rows-wired

-- ---- Demand 3, in one statement about the models

-- an energy of at least 2, which is 4 halves
abbrev pub AtLeastTwo : ℤ → Type 0
AtLeastTwo z = (k : ℕ) × (4 ≤ k) × (z ≡ pos k)

-- one setting that makes the choice has energy 0, and it is the circuit's own run; every other has at least 2
pub record OwnRunOnly (n : ℕ) (d : Named) (e : Choice) : Type 0 where
  pub own : Setting
  pub makes : Chosen d e own
  pub is-run : (g : ℕ) → In g d.reached → own (name_in d g) ≡ value d.nodes e g
  pub is_zero : binary_energy own (model n d) ≡ pos 0
  pub others : (σ : Setting) → Chosen d e σ → ((q : ℕ) → q < d.count → σ q ≡ own q) ⊎ AtLeastTwo (binary_energy σ (model n d))

-- "exactly one setting has 0", and what follows
pub record Demand3 (n : ℕ) (d : Named) (cs : List Constraint) : Type 0 where
  -- before fixing: each choice of the inputs, the division bits and the two constants has exactly one setting of energy 0
  pub before : (e : Choice) → OwnRunOnly n d e
  -- after fixing: a setting has the energy of that setting completed by the fixed values, which the table of fixed values holds
  pub after : (σ : Setting) → binary_energy σ (finished n d cs) ≡ binary_energy (complete (fixes d cs) σ) (model n d)
  pub kept : (form : Form) (q : ℕ) → q < n → get_or (in_form form (finished n d cs)).fixed q 0 ≡ fixed_at (fixes d cs) q
  -- the Ising form has the same energy
  pub same-ising : (σ : Setting) → ising_energy σ (ising (finished n d cs)) ≡ binary_energy σ (finished n d cs)
  -- hence, in either form
  pub hence : (form : Form) → Reaches form n d cs ↔ Hit d cs
