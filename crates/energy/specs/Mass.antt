-- The sum of the sizes of all coefficients (`mass`): placing a row adds at most 264 to it, fixing and the Ising form never make it larger, and it bounds
-- every coefficient, the offset and the energy. So no sum of the build leaves the range of its type.
-- The theorems that an edit of a definition breaks are in proofs/Mass.antt.
-- Assumes nothing.
use Rattle.std.specs.Prelude.{◌≡◌, refl, Bool, true, false, cond, ◌&&◌, ℕ, zero, suc, ◌+◌, ◌*◌, ◌/◌, ◌≤◌, eqb, ltb, ℤ, pos, negsuc, nat_abs, ◌+ℤ◌, length, get_or, set, replicate}
use Rattle.std.proofs.Common.{le_refl}
use Rattle.std.specs.Bool.{beq}
use mathlib.Core.List.{List, [], ◌∷◌, map}
use native.Mathlib.Omega.{arith}
use Rattle.laws.specs.Abs.{abs-add, abs_neg}
use Rattle.laws.specs.Sum.{sum}
use Rattle.units.specs.declared.Form.{Form}
use Rattle.units.specs.declared.Form.TheVariants.{Binary, Ising}
use Rattle.penalty.specs.declared.Kind.{Kind}
use Rattle.penalty.specs.declared.Penalty.{Penalty}
use Rattle.penalty.specs.Rows.{Slot, Place, singles, twos, row_of}
use Rattle.penalty.proofs.Small.{offset-small, linear-small, pairs_small}
use Rattle.energy.specs.Plain.{Setting, Row, wire}
use Rattle.energy.specs.Model.{Entry, Model, key_of, low, high, empty, is_zero, add_offset, join_linear, add, join_pair, add_linear, add_pair, halves, add_linears, add_pairs, place, place_all, gated, touches, neighbour, half, quarter, weights, quarters, signed, linear_by, pairs_by, energy_by, energy_in, sizes, mass}
use Rattle.energy.specs.Sized.{turned}

-- ---- lists of coefficients

-- an entry that gains c
pub sizes-gain : (l : List ℤ) (i : ℕ) (c : ℤ) → sizes (set l i (get_or l i (pos 0) +ℤ c)) ≤ sizes l + nat_abs c
sizes-gain [] i c = omega arith
sizes-gain (d ∷ l) zero c = omega (arith, abs-add d c)
sizes-gain (d ∷ l) (suc i) c = let r = sizes-gain l i c in omega arith

-- an entry that is taken out
pub sizes-clear : (l : List ℤ) (i : ℕ) → sizes (set l i (pos 0)) + nat_abs (get_or l i (pos 0)) ≡ sizes l
sizes-clear [] i = refl
sizes-clear (d ∷ l) zero = omega arith
sizes-clear (d ∷ l) (suc i) = let r = sizes-clear l i in omega arith

-- each entry is at most all of them
pub sizes-at : (l : List ℤ) (i : ℕ) → nat_abs (get_or l i (pos 0)) ≤ sizes l
sizes-at [] i = omega arith
sizes-at (d ∷ l) zero = omega arith
sizes-at (d ∷ l) (suc i) = let r = sizes-at l i in omega arith

-- and so is their sum
pub sizes-sum : (l : List ℤ) → nat_abs (sum l) ≤ sizes l
sizes-sum [] = le_refl 0
sizes-sum (d ∷ l) = let r = sizes-sum l in omega (arith, abs-add d (sum l))

-- ---- pairs

-- a contribution to a pair's entry
pub sizes-add : (e : Entry) (s : List Entry) → sizes (weights (add e s)) ≤ nat_abs e.1 + sizes (weights s)
unfolding add
sizes-add e [] = le_refl _
sizes-add e (f ∷ s) = go (ltb e.0 f.0) (eqb e.0 f.0) (sizes-add e s)
  where
    go : (b c : Bool) → sizes (weights (add e s)) ≤ nat_abs e.1 + sizes (weights s)
        → sizes (weights (cond b (e ∷ f ∷ s) (cond c ((f.0, f.1 +ℤ e.1) ∷ s) (f ∷ add e s)))) ≤ nat_abs e.1 + (nat_abs f.1 + sizes (weights s))
    go true c r = le_refl _
    go false true r = omega (arith, abs-add f.1 e.1)
    go false false r = omega arith

-- ---- adding

pub mass-add_offset : (c : ℤ) (m : Model) → mass (add_offset c m) ≤ mass m + nat_abs c
unfolding mass
mass-add_offset c m = omega (arith, abs-add m.offset c)

pub mass-join_linear : (q : ℕ) (c : ℤ) (m : Model) → mass (join_linear q c m) ≤ mass m + nat_abs c
unfolding mass
mass-join_linear q c m = omega (arith, sizes-gain m.linear q c)

pub mass-join_pair : (p q : ℕ) (c : ℤ) (m : Model) → mass (join_pair p q c m) ≤ mass m + nat_abs c
unfolding mass
mass-join_pair p q c m = omega (arith, sizes-add (key_of p q, c) m.pairs)

-- what both ways of a test keep below a bound
pub either : (b : Bool) (x y : Model) (k : ℕ) → mass x ≤ k → mass y ≤ k → mass (cond b x y) ≤ k
either true x y k h i = h
either false x y k h i = i

pub mass-add_linear : (q : ℕ) (c : ℤ) (m : Model) → mass (add_linear q c m) ≤ mass m + nat_abs c
unfolding add_linear
mass-add_linear q c m = either (is_zero c) m (join_linear q c m) _ (omega arith) (mass-join_linear q c m)

pub mass-add_pair : (p q : ℕ) (c : ℤ) (m : Model) → mass (add_pair p q c m) ≤ mass m + nat_abs c
unfolding add_pair
mass-add_pair p q c m =
    either (is_zero c) m _ _ (omega arith) (either (eqb p q) (join_linear p c m) (join_pair p q c m) _ (mass-join_linear p c m) (mass-join_pair p q c m))

-- ---- placing

-- every coefficient of the penalty is at most 6 in size
pub record Few (p : Penalty) : Type 0 where
  pub offset : nat_abs p.offset ≤ 6
  pub linear : (i : ℕ) → nat_abs (get_or p.linear i (pos 0)) ≤ 6
  pub pairs : (i : ℕ) → nat_abs (get_or p.pairs i (pos 0)) ≤ 6

-- the rows of the table are such
pub few-row : (kind : Kind) → Few (row_of kind)
few-row kind = record { offset = (offset-small kind).size; linear = λ i. (linear-small kind i).size; pairs = λ i. (pairs_small kind i).size }

pub abs-halves : (c : ℤ) → nat_abs (halves c) ≤ 2 * nat_abs c
abs-halves c = omega (arith, abs-add c c)

pub mass-add_linears : (at : Slot → ℕ) (ps : List Place) (cs : List ℤ) (m : Model) → ((i : ℕ) → nat_abs (get_or cs i (pos 0)) ≤ 6)
    → mass (add_linears at ps cs m) ≤ mass m + 12 * length ps
mass-add_linears at [] cs m h = omega arith
mass-add_linears at (p ∷ ps) [] m h = omega arith
mass-add_linears at (p ∷ ps) (c ∷ cs) m h =
    omega (arith, mass-add_linears at ps cs (add_linear (at p.fst) (halves c) m) (λ i. h (suc i)), mass-add_linear (at p.fst) (halves c) m, abs-halves c, h 0)

pub mass-add_pairs : (at : Slot → ℕ) (ps : List Place) (cs : List ℤ) (m : Model) → ((i : ℕ) → nat_abs (get_or cs i (pos 0)) ≤ 6)
    → mass (add_pairs at ps cs m) ≤ mass m + 12 * length ps
mass-add_pairs at [] cs m h = omega arith
mass-add_pairs at (p ∷ ps) [] m h = omega arith
mass-add_pairs at (p ∷ ps) (c ∷ cs) m h =
    omega (arith, mass-add_pairs at ps cs (add_pair (at p.fst) (at p.snd) (halves c) m) (λ i. h (suc i)), mass-add_pair (at p.fst) (at p.snd) (halves c) m, abs-halves c, h 0)

-- a penalty has 22 coefficients, of at most 12 halves each
pub mass-place : (at : Slot → ℕ) (p : Penalty) (m : Model) → Few p → mass (place at p m) ≤ mass m + 264
unfolding place
mass-place at p m f =
    let o : Model = add_offset (halves p.offset) m in
    omega (arith, mass-add_pairs at twos p.pairs (add_linears at singles p.linear o) f.pairs, mass-add_linears at singles p.linear o f.linear, mass-add_offset (halves p.offset) m, abs-halves p.offset, f.offset)

-- Theorem: rows of the table add at most 264 halves each.
pub mass-place_all : (rs : List Row) (m : Model) → mass (place_all rs m) ≤ mass m + 264 * length rs
unfolding place_all
mass-place_all [] m = omega arith
mass-place_all (r ∷ rs) m =
    omega (arith, mass-place_all rs (place (wire r) (row_of r.kind) m), mass-place (wire r) (row_of r.kind) m (few-row r.kind))

-- the model without an entry
pub mass-empty : (n : ℕ) → mass (empty n) ≡ 0
unfolding mass
mass-empty n = zeros n
  where
    zeros : (n : ℕ) → 0 + sizes (replicate n (pos 0)) + 0 ≡ 0
    zeros zero = refl
    zeros (suc n) = let r = zeros n in omega arith

-- ---- fixing

-- a coefficient times a value
pub abs-gated : (b : Bool) (c : ℤ) → nat_abs (gated b c) ≤ nat_abs c
abs-gated true c = le_refl _
abs-gated false c = omega arith

-- what the pairs of q weigh together
abbrev pub given : ℕ → List Entry → ℕ
given q [] = 0
given q (e ∷ s) = cond (touches q e.0) (nat_abs e.1) 0 + given q s

-- one pair's turn
abbrev pub turn : ℕ → Bool → Entry → Model → Model
turn q b e m = cond (touches q e.0) (add_linear (neighbour q e.0) (gated b e.1) m) m

-- ---- the Ising form

pub abs-half : (c : ℤ) → 2 * nat_abs (half c) ≤ nat_abs c
abs-half (pos n) = omega arith
abs-half (negsuc n) = omega (arith, abs_neg (pos (suc n / 2)))

pub abs-quarter : (c : ℤ) → 4 * nat_abs (quarter c) ≤ nat_abs c
abs-quarter (pos n) = omega arith
abs-quarter (negsuc n) = omega (arith, abs_neg (pos (suc n / 4)))

pub sizes-half : (l : List ℤ) → 2 * sizes (map half l) ≤ sizes l
sizes-half [] = omega arith
sizes-half (c ∷ l) = omega (arith, sizes-half l, abs-half c)

pub sizes-quarters : (s : List Entry) → 4 * sizes (weights (quarters s)) ≤ sizes (weights s)
sizes-quarters [] = omega arith
sizes-quarters (e ∷ s) = omega (arith, sizes-quarters s, abs-quarter e.1)

-- there is room for the numbers that join the ends
pub mass-turned : (m : Model) → mass (turned m) + 2 * sizes (weights (quarters m.pairs)) ≤ mass m
unfolding mass
mass-turned m =
    let o : ℤ = m.offset in
    let a : ℤ = half (sum m.linear) in
    let b : ℤ = quarter (sum (weights m.pairs)) in
    omega (
      arith,
      abs-add o a,
      abs-add (o +ℤ a) b,
      abs-half (sum m.linear),
      abs-quarter (sum (weights m.pairs)),
      sizes-sum m.linear,
      sizes-sum (weights m.pairs),
      sizes-half m.linear,
      sizes-quarters m.pairs,
    )

-- ---- it bounds every number

module _ (m : Model) where
  pub offset-within : nat_abs m.offset ≤ mass m
  unfolding mass
  offset-within = omega arith

  pub linear-within : (i : ℕ) → nat_abs (get_or m.linear i (pos 0)) ≤ mass m
  unfolding mass
  linear-within i = omega (arith, sizes-at m.linear i)

  pub weight-within : (i : ℕ) → nat_abs (get_or (weights m.pairs) i (pos 0)) ≤ mass m
  unfolding mass
  weight-within i = omega (arith, sizes-at (weights m.pairs) i)

-- ---- and every energy

pub abs-signed : (b : Bool) (c : ℤ) → nat_abs (signed b c) ≤ nat_abs c
abs-signed true c = le_refl _
abs-signed false c = omega (arith, abs_neg c)

module _ (f : Bool → ℤ → ℤ) (small : (b : Bool) (c : ℤ) → nat_abs (f b c) ≤ nat_abs c) (σ : Setting) where
  pub linear-size : (q : ℕ) (l : List ℤ) → nat_abs (linear_by f σ q l) ≤ sizes l
  unfolding linear_by
  linear-size q [] = omega arith
  linear-size q (c ∷ l) = omega (arith, linear-size (suc q) l, abs-add (f (σ q) c) (linear_by f σ (suc q) l), small (σ q) c)

  pub pairs-size : (j : Bool → Bool → Bool) (s : List Entry) → nat_abs (pairs_by f j σ s) ≤ sizes (weights s)
  unfolding pairs_by
  pairs-size j [] = omega arith
  pairs-size j (e ∷ s) =
      omega (arith, pairs-size j s, abs-add (f (j (σ (low e.0)) (σ (high e.0))) e.1) (pairs_by f j σ s), small (j (σ (low e.0)) (σ (high e.0))) e.1)

  pub energy_by-size : (j : Bool → Bool → Bool) (m : Model) → nat_abs (energy_by f j σ m) ≤ mass m
  unfolding energy_by mass
  energy_by-size j m =
      let l = linear-size 0 m.linear in
      let p = pairs-size j m.pairs in
      omega (arith, abs-add m.offset (linear_by f σ 0 m.linear +ℤ pairs_by f j σ m.pairs), abs-add (linear_by f σ 0 m.linear) (pairs_by f j σ m.pairs))

-- Theorem: no energy is larger than the sum of the sizes, in either form.
pub energy-size : (form : Form) (σ : Setting) (m : Model) → nat_abs (energy_in form σ m) ≤ mass m
energy-size Binary σ m = energy_by-size gated abs-gated σ ◌&&◌ m
energy-size Ising σ m = energy_by-size signed abs-signed σ beq m
