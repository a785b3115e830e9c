-- Adding to the model adds to its energy at every setting, so the model that the rows build has the plain energy, in halves.
-- A product with a Boolean is a conditional (`gated`, `signed`). Both are additive in the coefficient, and that is all that most laws ask.
-- Assumes nothing.
use Rattle.std.specs.Prelude.{◌≡◌, ◌⊎◌, ◌≢◌, Bool, true, false, cond, eqb, ℤ, negsuc, length, get_or, set, replicate}
use Rattle.std.proofs.Math.Path.{refl, sym, ap, ap₂}
use Rattle.std.proofs.Common.{◌∙◌, inl, inr}
use Rattle.std.proofs.Math.Bool.{◌&&◌, and_comm, and_self}
use mathlib.Core.List.{List, [], ◌∷◌}
use Prim.Native.Nat.{ℕ, zero, suc, ◌+◌, ◌≤◌, ◌<◌}
use native.Mathlib.Omega.{arith}
use Rattle.std.proofs.Math.Nat.{zero-add}
use Rattle.std.proofs.Math.IntN.{pos, ◌+ℤ◌, +ℤ_idl, +ℤ_idr, +ℤ_assoc, +ℤ_comm, neg_ℤ-+ℤ}
use Rattle.laws.specs.Ring.{+ℤ-right-comm, +ℤ-cancel-right}
use Rattle.laws.specs.Solve.{solve, v, ◌⊕◌}
use Rattle.laws.specs.Test.{by_eqb, by-ltb}
use Rattle.penalty.specs.declared.Penalty.{Penalty}
use Rattle.penalty.specs.Rows.{Slot, Place, singles, twos, row_of}
use Rattle.penalty.specs.Penalises.{sum_at, energy, row_energy}
use Rattle.penalty.proofs.Penalises.{penalises}
use Rattle.energy.specs.Plain.{Setting, Row, wire, seen, plain}
use Rattle.energy.specs.Model.{Entry, Model, Sized, Inside, key_of, low, high, empty, is_zero, add_offset, join_linear, add, join_pair, add_linear, add_pair, halves, add_linears, add_pairs, place, place_all, gated, signed, linear_by, pairs_by, energy_by, binary_energy}
use Rattle.energy.specs.Sized.{Ends, key_of-ends, Wired, sized-empty, sized-add_offset, sized-add_linear, sized-add_linears, sized-add_pair, sized-place}

-- ---- the two weights

-- a weight that takes sums to sums
abbrev pub Additive : (Bool → ℤ → ℤ) → Type 0
Additive f = (b : Bool) (x y : ℤ) → f b (x +ℤ y) ≡ f b x +ℤ f b y

-- times 0 or 1
pub gated-add : Additive gated
gated-add true x y = refl
gated-add false x y = refl

-- times -1 or 1
pub signed_add : Additive signed
signed_add true x y = refl
signed_add false x y = neg_ℤ-+ℤ x y

-- what is additive has 0 at 0
pub additive-zero : (f : Bool → ℤ → ℤ) → Additive f → (b : Bool) → f b (pos 0) ≡ pos 0
additive-zero f fa b =
    +ℤ-cancel-right (f b (pos 0)) (pos 0) (f b (pos 0)) (sym (fa b (pos 0) (pos 0)) ∙ sym (+ℤ_idl (f b (pos 0))))

-- 0 times a value
pub gated-zero : (b : Bool) → gated b (pos 0) ≡ pos 0
gated-zero = additive-zero gated gated-add

-- the weight of a coefficient at a place of the penalty table
pub gated-cond : (b : Bool) (c : ℤ) → gated b c ≡ cond b c (pos 0)
gated-cond true c = refl
gated-cond false c = refl

-- by cases on a coefficient's being 0
pub by_zero : (c : ℤ) (P : Bool → Type 0) → (c ≡ pos 0 → P true) → P false → P (is_zero c)
by_zero (pos n) P f g = by_eqb n 0 P (λ e. f (ap pos e)) (λ n. g)
by_zero (negsuc n) P f g = g

-- ---- the sums

module _ (f : Bool → ℤ → ℤ) (fa : Additive f) (σ : Setting) where
  -- a linear coefficient that gains c
  pub linear-gain : (q : ℕ) (cs : List ℤ) (i : ℕ) (c : ℤ) → i < length cs
      → linear_by f σ q (set cs i (get_or cs i (pos 0) +ℤ c)) ≡ linear_by f σ q cs +ℤ f (σ (q + i)) c
  unfolding linear_by
  linear-gain q [] i c h = absurd (omega arith)
  linear-gain q (d ∷ cs) zero c h =
      let e : q + 0 ≡ q = omega arith in
      rw (e, fa) (+ℤ-right-comm (f (σ q) d) (f (σ q) c) (linear_by f σ (suc q) cs))
  linear-gain q (d ∷ cs) (suc i) c h =
      let e : q + suc i ≡ suc q + i = omega arith in
      rw (e, linear-gain (suc q) cs i c (omega arith)) (sym (+ℤ_assoc (f (σ q) d) (linear_by f σ (suc q) cs) (f (σ (suc q + i)) c)))

  -- a linear coefficient that is taken out
  pub linear-clear : (q : ℕ) (cs : List ℤ) (i : ℕ) → i < length cs
      → linear_by f σ q (set cs i (pos 0)) +ℤ f (σ (q + i)) (get_or cs i (pos 0)) ≡ linear_by f σ q cs
  unfolding linear_by
  linear-clear q [] i h = absurd (omega arith)
  linear-clear q (d ∷ cs) zero h =
      let e : q + 0 ≡ q = omega arith in
      rw (e, additive-zero f fa, +ℤ_idl) (+ℤ_comm (linear_by f σ (suc q) cs) (f (σ q) d))
  linear-clear q (d ∷ cs) (suc i) h =
      let e : q + suc i ≡ suc q + i = omega arith in
      rw e
      (+ℤ_assoc (f (σ q) d) (linear_by f σ (suc q) (set cs i (pos 0))) (f (σ (suc q + i)) (get_or cs i (pos 0)))
      ∙ ap (λ (x : ℤ). f (σ q) d +ℤ x) (linear-clear (suc q) cs i (omega arith)))

  -- a table of zeros
  pub linear-zeros : (q n : ℕ) → linear_by f σ q (replicate n (pos 0)) ≡ pos 0
  unfolding linear_by
  linear-zeros q zero = refl
  linear-zeros q (suc n) = ap₂ ◌+ℤ◌ (additive-zero f fa (σ q)) (linear-zeros (suc q) n)

  module _ (j : Bool → Bool → Bool) where
    abbrev at : ℕ → Bool
    at k = j (σ (low k)) (σ (high k))

    -- a pair's entry that gains, or is made
    pub pairs-gain : (e : Entry) (s : List Entry)
        → pairs_by f j σ (add e s) ≡ pairs_by f j σ s +ℤ f (j (σ (low e.0)) (σ (high e.0))) e.1
    unfolding pairs_by add
    pairs-gain e [] = +ℤ_comm (f (at e.0) e.1) (pos 0)
    pairs-gain e (g ∷ s) =
        by-ltb e.0 g.0
        (λ b. pairs_by f j σ (cond b (e ∷ g ∷ s) (cond (eqb e.0 g.0) ((g.0, g.1 +ℤ e.1) ∷ s) (g ∷ add e s))) ≡ pairs_by f j σ (g ∷ s) +ℤ f (at e.0) e.1)
        (λ l. +ℤ_comm (f (at e.0) e.1) (pairs_by f j σ (g ∷ s)))
        (λ l.
        by_eqb e.0 g.0
        (λ b. pairs_by f j σ (cond b ((g.0, g.1 +ℤ e.1) ∷ s) (g ∷ add e s)) ≡ pairs_by f j σ (g ∷ s) +ℤ f (at e.0) e.1)
        (λ p. rw (p, fa) (+ℤ-right-comm (f (at g.0) g.1) (f (at g.0) e.1) (pairs_by f j σ s)))
        (λ n. rw (pairs-gain e s) (sym (+ℤ_assoc (f (at g.0) g.1) (pairs_by f j σ s) (f (at e.0) e.1)))))

-- ---- the energy depends on the model's qubits alone

module _ (f : Bool → ℤ → ℤ) (σ τ : Setting) where
  -- the linear part, where two settings weigh each coefficient alike
  pub linear-same : (q : ℕ) (cs : List ℤ) → ((i : ℕ) → i < length cs → f (σ (q + i)) (get_or cs i (pos 0)) ≡ f (τ (q + i)) (get_or cs i (pos 0)))
      → linear_by f σ q cs ≡ linear_by f τ q cs
  unfolding linear_by
  linear-same q [] h = refl
  linear-same q (c ∷ cs) h = ap₂ ◌+ℤ◌ first (linear-same (suc q) cs rest)
    where
      first : f (σ q) c ≡ f (τ q) c
      first = let e : q + 0 ≡ q = omega arith in rw e at (h 0 (omega arith))

      rest : (i : ℕ) → i < length cs → f (σ (suc q + i)) (get_or cs i (pos 0)) ≡ f (τ (suc q + i)) (get_or cs i (pos 0))
      rest i l = let e : q + suc i ≡ suc q + i = omega arith in rw e at (h (suc i) (omega arith))

  -- the pairs, where two settings agree below n
  pub pairs-same : (j : Bool → Bool → Bool) (n : ℕ) (s : List Entry) → Inside n s → ((q : ℕ) → q < n → σ q ≡ τ q) → pairs_by f j σ s ≡ pairs_by f j τ s
  unfolding pairs_by
  pairs-same j n [] i h = refl
  pairs-same j n (e ∷ s) i h =
      ap₂ ◌+ℤ◌
      (ap₂ (λ (a b : Bool). f (j a b) e.1) (h (low e.0) (omega (arith, i.0, i.1))) (h (high e.0) i.1))
      (pairs-same j n s i.2 h)

  -- two settings that agree on the model's qubits have one energy
  pub energy-same : (j : Bool → Bool → Bool) (n : ℕ) (m : Model) → Sized n m → ((q : ℕ) → q < n → σ q ≡ τ q) → energy_by f j σ m ≡ energy_by f j τ m
  unfolding energy_by
  energy-same j n m s h =
      ap₂ (λ (x y : ℤ). m.offset +ℤ (x +ℤ y))
      (linear-same 0 m.linear (λ i l. ap (λ (b : Bool). f b (get_or m.linear i (pos 0))) (h (0 + i) (omega (arith, s.linear)))))
      (pairs-same j n m.pairs s.inside h)

-- ---- adding to the model adds to its energy

in-the-middle : (o l x p : ℤ) → o +ℤ ((l +ℤ x) +ℤ p) ≡ (o +ℤ (l +ℤ p)) +ℤ x
in-the-middle o l x p = solve (o ∷ l ∷ x ∷ p ∷ []) (v 0 ⊕ ((v 1 ⊕ v 2) ⊕ v 3)) ((v 0 ⊕ (v 1 ⊕ v 3)) ⊕ v 2) refl

at-the-end : (o l p x : ℤ) → o +ℤ (l +ℤ (p +ℤ x)) ≡ (o +ℤ (l +ℤ p)) +ℤ x
at-the-end o l p x = solve (o ∷ l ∷ p ∷ x ∷ []) (v 0 ⊕ (v 1 ⊕ (v 2 ⊕ v 3))) ((v 0 ⊕ (v 1 ⊕ v 2)) ⊕ v 3) refl

module _ (f : Bool → ℤ → ℤ) (fa : Additive f) (j : Bool → Bool → Bool) (σ : Setting) where
  -- the offset gains c: so does the energy
  pub add_offset-energy : (c : ℤ) (m : Model) → energy_by f j σ (add_offset c m) ≡ energy_by f j σ m +ℤ c
  unfolding energy_by
  add_offset-energy c m = +ℤ-right-comm m.offset c (linear_by f σ 0 m.linear +ℤ pairs_by f j σ m.pairs)

  -- a linear entry gains c: the energy gains c times the qubit's value
  pub join_linear-energy : (n q : ℕ) (c : ℤ) (m : Model) → Sized n m → q < n
      → energy_by f j σ (join_linear q c m) ≡ energy_by f j σ m +ℤ f (σ q) c
  unfolding energy_by
  join_linear-energy n q c m s h =
      rw (linear-gain f fa σ 0 m.linear q c (omega (arith, s.linear)), zero-add q)
      (in-the-middle m.offset (linear_by f σ 0 m.linear) (f (σ q) c) (pairs_by f j σ m.pairs))

  -- adding 0, which makes no entry, adds 0
  pub add_linear-energy : (n q : ℕ) (c : ℤ) (m : Model) → Sized n m → q < n
      → energy_by f j σ (add_linear q c m) ≡ energy_by f j σ m +ℤ f (σ q) c
  unfolding add_linear
  add_linear-energy n q c m s h =
      by_zero c (λ b. energy_by f j σ (cond b m (join_linear q c m)) ≡ energy_by f j σ m +ℤ f (σ q) c)
      (λ e. rw (e, additive-zero f fa, +ℤ_idr))
      (join_linear-energy n q c m s h)

  module _ (jc : (a b : Bool) → j a b ≡ j b a) where
    -- a pair's entry gains c: the energy gains c times the product of the two values
    pub join_pair-energy : (p q : ℕ) (c : ℤ) (m : Model) → p ≢ q → p < 65536 → q < 65536
        → energy_by f j σ (join_pair p q c m) ≡ energy_by f j σ m +ℤ f (j (σ p) (σ q)) c
    unfolding energy_by
    join_pair-energy p q c m ne hp hq =
        rw (pairs-gain f fa σ j (key_of p q, c) m.pairs, value)
        (at-the-end m.offset (linear_by f σ 0 m.linear) (pairs_by f j σ m.pairs) (f (j (σ p) (σ q)) c))
      where
        go : Ends p q (key_of p q) ⊎ Ends q p (key_of p q) → j (σ (low (key_of p q))) (σ (high (key_of p q))) ≡ j (σ p) (σ q)
        go (inl e) = ap₂ (λ (a b : ℕ). j (σ a) (σ b)) e.low-is e.high_is
        go (inr e) = ap₂ (λ (a b : ℕ). j (σ a) (σ b)) e.low-is e.high_is ∙ jc (σ q) (σ p)

        value : j (σ (low (key_of p q))) (σ (high (key_of p q))) ≡ j (σ p) (σ q)
        value = go (key_of-ends p q ne hp hq)

    -- the same where the two may be equal: a value times itself is the value. Of spins that does not hold, and no pair is added in the Ising form
    pub add_pair-energy : ((b : Bool) → j b b ≡ b) → (n p q : ℕ) (c : ℤ) (m : Model) → Sized n m → p < n → q < n
        → energy_by f j σ (add_pair p q c m) ≡ energy_by f j σ m +ℤ f (j (σ p) (σ q)) c
    unfolding add_pair
    add_pair-energy js n p q c m s hp hq =
        by_zero c (λ b. energy_by f j σ (cond b m (cond (eqb p q) (join_linear p c m) (join_pair p q c m))) ≡ energy_by f j σ m +ℤ f (j (σ p) (σ q)) c)
        (λ e. rw (e, additive-zero f fa, +ℤ_idr))
        (by_eqb p q (λ b. energy_by f j σ (cond b (join_linear p c m) (join_pair p q c m)) ≡ energy_by f j σ m +ℤ f (j (σ p) (σ q)) c)
        (λ e. rw (← e, js) (join_linear-energy n p c m s hp))
        (λ ne. join_pair-energy p q c m ne (omega (arith, s.names)) (omega (arith, s.names))))

-- ---- placing a penalty adds its own energy, as a count of halves

-- a place of a linear coefficient is one qubit twice
abbrev Single : List Place → Type 0
Single [] = Unit {0}
Single (p ∷ ps) = (p.fst ≡ p.snd) × Single ps

once_more : (e g t s : ℤ) → g ≡ t +ℤ t → (e +ℤ g) +ℤ (s +ℤ s) ≡ e +ℤ ((t +ℤ s) +ℤ (t +ℤ s))
once_more e g t s h = rw h (solve (e ∷ t ∷ s ∷ []) ((v 0 ⊕ (v 1 ⊕ v 1)) ⊕ (v 2 ⊕ v 2)) (v 0 ⊕ ((v 1 ⊕ v 2) ⊕ (v 1 ⊕ v 2))) refl)

three-doubled : (e o l p : ℤ) → ((e +ℤ (o +ℤ o)) +ℤ (l +ℤ l)) +ℤ (p +ℤ p) ≡ e +ℤ ((o +ℤ (l +ℤ p)) +ℤ (o +ℤ (l +ℤ p)))
three-doubled e o l p =
    solve (e ∷ o ∷ l ∷ p ∷ [])
    (((v 0 ⊕ (v 1 ⊕ v 1)) ⊕ (v 2 ⊕ v 2)) ⊕ (v 3 ⊕ v 3))
    (v 0 ⊕ ((v 1 ⊕ (v 2 ⊕ v 3)) ⊕ (v 1 ⊕ (v 2 ⊕ v 3)))) refl

-- a doubled coefficient times a value
gated-halves : (b : Bool) (c : ℤ) → gated b (halves c) ≡ cond b c (pos 0) +ℤ cond b c (pos 0)
gated-halves true c = refl
gated-halves false c = refl

module _ (σ : Setting) (n : ℕ) (at : Slot → ℕ) (below : (s : Slot) → at s < n) where
  abbrev sees : Slot → Bool
  sees s = σ (at s)

  add_linears-energy : (ps : List Place) (cs : List ℤ) (m : Model) → Single ps → Sized n m
      → binary_energy σ (add_linears at ps cs m) ≡ binary_energy σ m +ℤ halves (sum_at sees ps cs)
  add_linears-energy [] cs m one s = sym (+ℤ_idr (binary_energy σ m))
  add_linears-energy (p ∷ ps) [] m one s = sym (+ℤ_idr (binary_energy σ m))
  add_linears-energy (p ∷ ps) (c ∷ cs) m one s =
      add_linears-energy ps cs _ one.1 (sized-add_linear n (at p.fst) (halves c) m s)
      ∙ ap (λ (x : ℤ). x +ℤ halves (sum_at sees ps cs)) (add_linear-energy gated gated-add ◌&&◌ σ n (at p.fst) (halves c) m s (below p.fst))
      ∙ once_more (binary_energy σ m) (gated (sees p.fst) (halves c)) (cond (sees p.fst && sees p.snd) c (pos 0)) (sum_at sees ps cs)
      (ap (λ (b : Bool). gated b (halves c)) (sym (and_self (sees p.fst)) ∙ ap (λ (t : Slot). sees p.fst && sees t) one.0) ∙ gated-halves (sees p.fst && sees p.snd) c)

  add_pairs-energy : (ps : List Place) (cs : List ℤ) (m : Model) → Sized n m
      → binary_energy σ (add_pairs at ps cs m) ≡ binary_energy σ m +ℤ halves (sum_at sees ps cs)
  add_pairs-energy [] cs m s = sym (+ℤ_idr (binary_energy σ m))
  add_pairs-energy (p ∷ ps) [] m s = sym (+ℤ_idr (binary_energy σ m))
  add_pairs-energy (p ∷ ps) (c ∷ cs) m s =
      add_pairs-energy ps cs _ (sized-add_pair n (at p.fst) (at p.snd) (halves c) m (below p.fst) (below p.snd) s)
      ∙ ap (λ (x : ℤ). x +ℤ halves (sum_at sees ps cs))
      (add_pair-energy gated gated-add ◌&&◌ σ and_comm and_self n (at p.fst) (at p.snd) (halves c) m s (below p.fst) (below p.snd))
      ∙ once_more (binary_energy σ m) (gated (sees p.fst && sees p.snd) (halves c)) (cond (sees p.fst && sees p.snd) c (pos 0)) (sum_at sees ps cs)
      (gated-halves (sees p.fst && sees p.snd) c)

  -- a penalty at its qubits adds its energy at the values there
  pub place-energy : (p : Penalty) (m : Model) → Sized n m → binary_energy σ (place at p m) ≡ binary_energy σ m +ℤ halves (energy p sees)
  unfolding place energy
  place-energy p m s =
      add_pairs-energy twos p.pairs _ (sized-add_linears n at singles p.linear _ (sized-add_offset n (halves p.offset) m s))
      ∙ rw (
        add_linears-energy singles p.linear (add_offset (halves p.offset) m) (refl, (refl, (refl, (refl, (refl, (refl, tt)))))) (sized-add_offset n (halves p.offset) m s),
        add_offset-energy gated gated-add ◌&&◌ σ (halves p.offset) m,
      )
      (three-doubled (binary_energy σ m) p.offset (sum_at sees singles p.linear) (sum_at sees twos p.pairs))

-- ---- Theorem: the model that the rows build has the plain energy, in halves

module _ (σ : Setting) (n : ℕ) where
  place_all-from : (rs : List Row) → Wired n rs → (m : Model) → Sized n m
      → binary_energy σ (place_all rs m) ≡ binary_energy σ m +ℤ pos (plain σ rs + plain σ rs)
  unfolding place_all plain
  place_all-from [] w m s = sym (+ℤ_idr (binary_energy σ m))
  place_all-from (r ∷ rs) w m s =
      place_all-from rs w.1 _ (sized-place n (wire r) w.0 (row_of r.kind) m s)
      ∙ ap (λ (x : ℤ). x +ℤ pos (plain σ rs + plain σ rs)) (place-energy σ n (wire r) w.0 (row_of r.kind) m s)
      ∙ ap (λ (x : ℤ). (binary_energy σ m +ℤ halves x) +ℤ pos (plain σ rs + plain σ rs)) (penalises r.kind (seen σ r)).natural
      ∙ once_more (binary_energy σ m) _ (pos (row_energy r.kind (seen σ r))) (pos (plain σ rs)) refl

  empty-energy : (f : Bool → ℤ → ℤ) → Additive f → (j : Bool → Bool → Bool) → energy_by f j σ (empty n) ≡ pos 0
  unfolding energy_by pairs_by
  empty-energy f fa j = rw (linear-zeros f fa σ 0 n)

  -- over the model without an entry
  pub place_all-energy : n ≤ 65536 → (rs : List Row) → Wired n rs → binary_energy σ (place_all rs (empty n)) ≡ pos (plain σ rs + plain σ rs)
  place_all-energy h rs w =
      place_all-from rs w (empty n) (sized-empty n h)
      ∙ ap (λ (x : ℤ). x +ℤ pos (plain σ rs + plain σ rs)) (empty-energy gated gated-add ◌&&◌)
      ∙ +ℤ_idl (pos (plain σ rs + plain σ rs))
