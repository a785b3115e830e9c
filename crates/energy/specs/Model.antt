-- The model: 01's "The penalties" and "Fixing, and the Ising form", on the tables that the build keeps.
-- Every number is a count of halves, in the 0/1 form and in the Ising form alike.
-- Assumes nothing: these are definitions.
use Rattle.std.specs.Prelude.{Bool, true, false, ◌&&◌, ◌||◌, cond, List, [], ◌∷◌, map, ℕ, suc, ◌+◌, ◌*◌, ◌/◌, ◌%◌, ◌≤◌, ◌<◌, eqb, ltb, ℤ, pos, negsuc, neg_ℤ, nat_abs, ◌+ℤ◌, length, get_or, set, replicate, ◌≡◌}
use Rattle.std.specs.Bool.{beq}
use Rattle.std.specs.Int.Signed.{quot_z}
use Rattle.laws.specs.Sum.{sum}
use Rattle.units.specs.declared.Form.{Form}
use Rattle.units.specs.declared.Form.TheVariants.{Binary, Ising}
use Rattle.penalty.specs.declared.Penalty.{Penalty}
use Rattle.penalty.specs.Rows.{Slot, Place, singles, twos, row_of}
use Rattle.energy.specs.Plain.{Setting, Row, wire}

-- ---- the tables

-- a pair's key and its weight
abbrev pub Entry : Type 0
Entry = ℕ × ℤ

-- a key holds its two qubits, the lower first
abbrev pub key_of : ℕ → ℕ → ℕ
key_of p q = cond (ltb p q) (p * 65536 + q) (q * 65536 + p)

abbrev pub low : ℕ → ℕ
low k = k / 65536

abbrev pub high : ℕ → ℕ
high k = k % 65536

pub record Model : Type 0 where
  pub offset : ℤ
  -- by qubit: the linear coefficient, 0 where there is no entry
  pub linear : List ℤ
  -- by qubit: 1 where there is a linear entry, also one that stands at 0
  pub has_linear : List ℕ
  -- by qubit: 1 where there is a row, empty or not
  pub has_row : List ℕ
  -- by qubit: 0 not fixed, 1 fixed false, 2 fixed true
  pub fixed : List ℕ
  -- rising by key
  pub pairs : List Entry

-- a model of n qubits without an entry
abbrev pub empty : ℕ → Model
empty n =
    record {
      offset = pos 0;
      linear = replicate n (pos 0);
      has_linear = replicate n 0;
      has_row = replicate n 0;
      fixed = replicate n 0;
      pairs = [];
    }

-- ---- adding to an entry

abbrev pub is_zero : ℤ → Bool
is_zero (pos n) = eqb n 0
is_zero (negsuc n) = false

abbrev pub add_offset : ℤ → Model → Model
add_offset c m =
    record {
      offset = m.offset +ℤ c;
      linear = m.linear;
      has_linear = m.has_linear;
      has_row = m.has_row;
      fixed = m.fixed;
      pairs = m.pairs;
    }

-- the linear entry of q gains c, and is made where it is missing
abbrev pub join_linear : ℕ → ℤ → Model → Model
join_linear q c m =
    record {
      offset = m.offset;
      linear = set m.linear q (get_or m.linear q (pos 0) +ℤ c);
      has_linear = set m.has_linear q 1;
      has_row = m.has_row;
      fixed = m.fixed;
      pairs = m.pairs;
    }

-- a contribution joins its key's entry, or makes it at its place by key. An entry whose sum returns to 0 stays
unfoldable pub add : Entry → List Entry → List Entry
add e [] = e ∷ []
add e (f ∷ s) = cond (ltb e.0 f.0) (e ∷ f ∷ s) (cond (eqb e.0 f.0) ((f.0, f.1 +ℤ e.1) ∷ s) (f ∷ add e s))

-- the pair's entry gains c, and is made where it is missing; both qubits have a row
abbrev pub join_pair : ℕ → ℕ → ℤ → Model → Model
join_pair p q c m =
    record {
      offset = m.offset;
      linear = m.linear;
      has_linear = m.has_linear;
      has_row = set (set m.has_row q 1) p 1;
      fixed = m.fixed;
      pairs = add (key_of p q, c) m.pairs;
    }

-- "Adding 0 makes no entry."
unfoldable pub add_linear : ℕ → ℤ → Model → Model
add_linear q c m = cond (is_zero c) m (join_linear q c m)

-- "A pair of equal qubits joins the linear entry."
unfoldable pub add_pair : ℕ → ℕ → ℤ → Model → Model
add_pair p q c m = cond (is_zero c) m (cond (eqb p q) (join_linear p c m) (join_pair p q c m))

-- ---- placing a penalty at its qubits

-- a whole number as a count of halves
abbrev pub halves : ℤ → ℤ
halves c = c +ℤ c

abbrev pub add_linears : (Slot → ℕ) → List Place → List ℤ → Model → Model
add_linears at [] cs m = m
add_linears at (p ∷ ps) [] m = m
add_linears at (p ∷ ps) (c ∷ cs) m = add_linears at ps cs (add_linear (at p.fst) (halves c) m)

abbrev pub add_pairs : (Slot → ℕ) → List Place → List ℤ → Model → Model
add_pairs at [] cs m = m
add_pairs at (p ∷ ps) [] m = m
add_pairs at (p ∷ ps) (c ∷ cs) m = add_pairs at ps cs (add_pair (at p.fst) (at p.snd) (halves c) m)

-- each of the penalty's coefficients is added at the qubits that stand at its slots
unfoldable pub place : (Slot → ℕ) → Penalty → Model → Model
place at p m = add_pairs at twos p.pairs (add_linears at singles p.linear (add_offset (halves p.offset) m))

-- rows in turn, each by the penalty of its kind
unfoldable pub place_all : List Row → Model → Model
place_all [] m = m
place_all (r ∷ rs) m = place_all rs (place (wire r) (row_of r.kind) m)

-- ---- fixing

-- a coefficient times a value
abbrev pub gated : Bool → ℤ → ℤ
gated true c = c
gated false c = pos 0

-- the pair of this key has q, and its other qubit
abbrev pub touches : ℕ → ℕ → Bool
touches q k = eqb (low k) q || eqb (high k) q

abbrev pub neighbour : ℕ → ℕ → ℕ
neighbour q k = cond (eqb (low k) q) (high k) (low k)

-- the pairs of q, times the value, join their neighbours' linear entries
unfoldable pub give : ℕ → Bool → List Entry → Model → Model
give q b [] m = m
give q b (e ∷ s) m = give q b s (cond (touches q e.0) (add_linear (neighbour q e.0) (gated b e.1) m) m)

-- the pairs without q
unfoldable pub without : ℕ → List Entry → List Entry
without q [] = []
without q (e ∷ s) = cond (touches q e.0) (without q s) (e ∷ without q s)

-- the entry of q itself, times the value, joins the offset; its entry, its pairs and its row go, and the value is kept.
-- A neighbour's row may become empty and still exists.
abbrev pub clear : ℕ → Bool → Model → Model
clear q b m =
    record {
      offset = m.offset +ℤ gated b (get_or m.linear q (pos 0));
      linear = set m.linear q (pos 0);
      has_linear = set m.has_linear q 0;
      has_row = set m.has_row q 0;
      fixed = set m.fixed q (cond b 2 1);
      pairs = without q m.pairs;
    }

unfoldable pub fix : ℕ → Bool → Model → Model
fix q b m = clear q b (give q b m.pairs m)

-- ---- the Ising form

abbrev pub half : ℤ → ℤ
half c = quot_z c (pos 2)

abbrev pub quarter : ℤ → ℤ
quarter c = quot_z c (pos 4)

abbrev pub weights : List Entry → List ℤ
weights [] = []
weights (e ∷ s) = e.1 ∷ weights s

abbrev pub quarters : List Entry → List Entry
quarters [] = []
quarters (e ∷ s) = (e.0, quarter e.1) ∷ quarters s

-- each pair's number joins both ends, "making missing entries even where c is 0"
unfoldable pub ends : List Entry → Model → Model
ends [] m = m
ends (e ∷ s) m = ends s (join_linear (high e.0) e.1 (join_linear (low e.0) e.1 m))

-- "linear c becomes c/2; each pair c becomes c/4 and adds c/4 to both ends; the offset gains half the linear sum and a quarter of the pair sum"
unfoldable pub ising : Model → Model
ising m =
    ends (quarters m.pairs)
    (record {
      offset = m.offset +ℤ half (sum m.linear) +ℤ quarter (sum (weights m.pairs));
      linear = map half m.linear;
      has_linear = m.has_linear;
      has_row = m.has_row;
      fixed = m.fixed;
      pairs = quarters m.pairs;
    })

-- ---- the variable count: "the qubits with a linear entry or a row"

unfoldable pub counted : List ℕ → List ℕ → ℕ
counted [] rs = 0
counted (l ∷ ls) [] = 0
counted (l ∷ ls) (r ∷ rs) = cond (eqb l 1 || eqb r 1) 1 0 + counted ls rs

abbrev pub variables : Model → ℕ
variables m = counted m.has_linear m.has_row

-- ---- the energy at a setting

-- a coefficient times a spin
abbrev pub signed : Bool → ℤ → ℤ
signed true c = c
signed false c = neg_ℤ c

-- the linear coefficients of the qubits q, q + 1, ..
unfoldable pub linear_by : (Bool → ℤ → ℤ) → Setting → ℕ → List ℤ → ℤ
linear_by f σ q [] = pos 0
linear_by f σ q (c ∷ cs) = f (σ q) c +ℤ linear_by f σ (suc q) cs

unfoldable pub pairs_by : (Bool → ℤ → ℤ) → (Bool → Bool → Bool) → Setting → List Entry → ℤ
pairs_by f j σ [] = pos 0
pairs_by f j σ (e ∷ s) = f (j (σ (low e.0)) (σ (high e.0))) e.1 +ℤ pairs_by f j σ s

unfoldable pub energy_by : (Bool → ℤ → ℤ) → (Bool → Bool → Bool) → Setting → Model → ℤ
energy_by f j σ m = m.offset +ℤ (linear_by f σ 0 m.linear +ℤ pairs_by f j σ m.pairs)

-- with 0 for false and 1 for true
abbrev pub binary_energy : Setting → Model → ℤ
binary_energy = energy_by gated ◌&&◌

-- with -1 for false and 1 for true: the product of two spins is the spin of their being equal
abbrev pub ising_energy : Setting → Model → ℤ
ising_energy = energy_by signed beq

abbrev pub energy_in : Form → Setting → Model → ℤ
energy_in Binary = binary_energy
energy_in Ising = ising_energy

-- ---- what every model of the build has

-- the tables have n qubits, and the pairs are of two of these, the lower first
abbrev pub Inside : ℕ → List Entry → Type 0
Inside n [] = Unit {0}
Inside n (e ∷ s) = (low e.0 < high e.0) × (high e.0 < n) × Inside n s

pub record Sized (n : ℕ) (m : Model) : Type 0 where
  pub linear : length m.linear ≡ n
  pub has_linear : length m.has_linear ≡ n
  pub has_row : length m.has_row ≡ n
  pub fixed : length m.fixed ≡ n
  pub inside : Inside n m.pairs
  pub names : n ≤ 65536

-- the sum of the sizes of all coefficients, which bounds each: no step of the build makes it larger than what was placed
abbrev pub sizes : List ℤ → ℕ
sizes [] = 0
sizes (c ∷ cs) = nat_abs c + sizes cs

unfoldable pub mass : Model → ℕ
mass m = nat_abs m.offset + sizes m.linear + sizes (weights m.pairs)
