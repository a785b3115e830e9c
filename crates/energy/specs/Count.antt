-- The variable count: what it counts, that it does not depend on the form, and that the energy asks for no other qubit.
-- The theorems that an edit of a definition breaks are in proofs/Count.antt.
-- Assumes nothing.
use Rattle.std.specs.Prelude.{◌≡◌, ◌⊎◌, ◌≢◌, Bool, true, false, cond, ◌||◌, ℕ, zero, suc, ◌+◌, ◌<◌, eqb, ltb, ℤ, pos, length, get_or, set}
use Rattle.std.proofs.Math.Path.{refl, sym, ap, ap₂}
use Rattle.std.proofs.Common.{◌∙◌, inl, inr, arith, zero-add, length-set, get_or-set_same, get_or-set_other}
use Rattle.std.proofs.Math.Bool.{or-true}
use mathlib.Core.List.{List, [], ◌∷◌}
use Rattle.std.proofs.Math.Decide.{ℕ_discrete}
use Rattle.std.proofs.Math.IntN.{◌+ℤ◌}
use Rattle.laws.specs.Test.{by_eqb}
use Rattle.penalty.specs.declared.Penalty.{Penalty}
use Rattle.penalty.specs.Rows.{Slot, Place, singles, twos, row_of}
use Rattle.energy.specs.Plain.{Setting, Row, wire}
use Rattle.energy.specs.Model.{Entry, Model, Sized, key_of, low, high, is_zero, add_offset, join_linear, add, join_pair, add_linear, add_pair, halves, add_linears, add_pairs, place, place_all, counted, variables, pairs_by, energy_by}
use Rattle.energy.specs.Sized.{Wired, Ends, key_of-ends, sized-add_linears, sized-add_pair, sized-add_pairs, sized-add_offset}
use Rattle.energy.specs.Stored.{Additive, additive-zero, linear-same}
use Rattle.energy.specs.Marks.{Mark, Marked, no-entry}
use Rattle.energy.specs.Gone.{Gone}

-- ---- what is counted

-- how many numbers below n pass a test
unfoldable pub tally : ℕ → (ℕ → Bool) → ℕ
tally zero p = 0
tally (suc n) p = cond (p 0) 1 0 + tally n (λ q. p (suc q))

-- a qubit with a linear entry or a row
abbrev pub entered : Model → ℕ → Bool
entered m q = eqb (get_or m.has_linear q 0) 1 || eqb (get_or m.has_row q 0) 1

counted-tally : (ls rs : List ℕ) → length ls ≡ length rs → counted ls rs ≡ tally (length ls) (λ q. eqb (get_or ls q 0) 1 || eqb (get_or rs q 0) 1)
unfolding counted tally
counted-tally [] rs e = refl
counted-tally (l ∷ ls) [] e = absurd (omega arith)
counted-tally (l ∷ ls) (r ∷ rs) e = ap (λ (k : ℕ). cond (eqb l 1 || eqb r 1) 1 0 + k) (counted-tally ls rs (omega arith))

-- Theorem: the variable count is the number of qubits below n with a linear entry or a row.
pub variables-tally : (n : ℕ) (m : Model) → Sized n m → variables m ≡ tally n (entered m)
variables-tally n m s = counted-tally m.has_linear m.has_row (s.has_linear ∙ sym s.has_row) ∙ ap (λ (k : ℕ). tally k (entered m)) s.has_linear

-- two tests that agree below n
pub tally-same : (n : ℕ) (p r : ℕ → Bool) → ((q : ℕ) → q < n → p q ≡ r q) → tally n p ≡ tally n r
unfolding tally
tally-same zero p r h = refl
tally-same (suc n) p r h = ap₂ (λ (b : Bool) (k : ℕ). cond b 1 0 + k) (h 0 (omega arith)) (tally-same n (λ q. p (suc q)) (λ q. r (suc q)) (λ q l. h (suc q) (omega arith)))

-- what has gone is not counted
pub gone-entered : (q : ℕ) (m : Model) → Gone q m → entered m q ≡ false
gone-entered q m g = rw (g.has_linear, g.has_row)

-- ---- the Ising form has the same count: it makes linear entries at the ends of pairs alone, and these have a row

-- the qubits of these pairs have a row
abbrev pub Rowed : List ℕ → List Entry → Type 0
Rowed l [] = Unit {0}
Rowed l (e ∷ s) = (get_or l (low e.0) 0 ≡ 1) × (get_or l (high e.0) 0 ≡ 1) × Rowed l s

rowed-set : (l : List ℕ) (q : ℕ) (s : List Entry) → q < length l → Rowed l s → Rowed (set l q 1) s
rowed-set l q [] h r = tt
rowed-set l q (e ∷ s) h r = (at (low e.0) r.0, at (high e.0) r.1, rowed-set l q s h r.2)
  where
    at : (p : ℕ) → get_or l p 0 ≡ 1 → get_or (set l q 1) p 0 ≡ 1
    at p e = go (ℕ_discrete p q)
      where
        go : Dec (p ≡ q) → get_or (set l q 1) p 0 ≡ 1
        go (yes k) = rw k (get_or-set_same l q 1 0 h)
        go (no k) = get_or-set_other l q p 1 0 k ∙ e

rowed-add : (l : List ℕ) (e : Entry) (s : List Entry) → get_or l (low e.0) 0 ≡ 1 → get_or l (high e.0) 0 ≡ 1 → Rowed l s → Rowed l (add e s)
unfolding add
rowed-add l e [] a b r = (a, b, tt)
rowed-add l e (f ∷ s) a b r = go (ltb e.0 f.0) (eqb e.0 f.0) (rowed-add l e s a b r.2)
  where
    go : (x y : Bool) → Rowed l (add e s) → Rowed l (cond x (e ∷ f ∷ s) (cond y ((f.0, f.1 +ℤ e.1) ∷ s) (f ∷ add e s)))
    go true y k = (a, b, r)
    go false true k = (r.0, r.1, r.2)
    go false false k = (r.0, r.1, k)

-- every pair of the model is of two qubits with a row
abbrev pub AllRowed : Model → Type 0
AllRowed m = Rowed m.has_row m.pairs

rowed-join_pair : (n p q : ℕ) (c : ℤ) (m : Model) → p ≢ q → p < n → q < n → Sized n m → AllRowed m → AllRowed (join_pair p q c m)
rowed-join_pair n p q c m ne hp hq s r =
    rowed-add l (key_of p q, c) m.pairs ends-rowed.0 ends-rowed.1 (rowed-set (set m.has_row q 1) p m.pairs p-in (rowed-set m.has_row q m.pairs q-in r))
  where
    l : List ℕ
    l = set (set m.has_row q 1) p 1

    q-in : q < length m.has_row
    q-in = omega (arith, s.has_row)

    p-in : p < length (set m.has_row q 1)
    p-in = omega (arith, s.has_row, length-set m.has_row q 1)

    at_p : get_or l p 0 ≡ 1
    at_p = get_or-set_same (set m.has_row q 1) p 1 0 p-in

    at-q : get_or l q 0 ≡ 1
    at-q = get_or-set_other (set m.has_row q 1) p q 1 0 (λ e. ne (sym e)) ∙ get_or-set_same m.has_row q 1 0 q-in

    go : Ends p q (key_of p q) ⊎ Ends q p (key_of p q) → (get_or l (low (key_of p q)) 0 ≡ 1) × (get_or l (high (key_of p q)) 0 ≡ 1)
    go (inl e) = (rw e.low-is at_p, rw e.high_is at-q)
    go (inr e) = (rw e.low-is at-q, rw e.high_is at_p)

    ends-rowed : (get_or l (low (key_of p q)) 0 ≡ 1) × (get_or l (high (key_of p q)) 0 ≡ 1)
    ends-rowed = go (key_of-ends p q ne (omega (arith, s.names)) (omega (arith, s.names)))

pub rowed-add_linear : (q : ℕ) (c : ℤ) (m : Model) → AllRowed m → AllRowed (add_linear q c m)
unfolding add_linear
rowed-add_linear q c m r = go (is_zero c)
  where
    go : (b : Bool) → AllRowed (cond b m (join_linear q c m))
    go true = r
    go false = r

rowed-add_pair : (n p q : ℕ) (c : ℤ) (m : Model) → p < n → q < n → Sized n m → AllRowed m → AllRowed (add_pair p q c m)
unfolding add_pair
rowed-add_pair n p q c m hp hq s r = go (is_zero c)
  where
    go : (b : Bool) → AllRowed (cond b m (cond (eqb p q) (join_linear p c m) (join_pair p q c m)))
    go true = r
    go false = by_eqb p q (λ b. AllRowed (cond b (join_linear p c m) (join_pair p q c m))) (λ e. r) (λ ne. rowed-join_pair n p q c m ne hp hq s r)

rowed-add_linears : (at : Slot → ℕ) (ps : List Place) (cs : List ℤ) (m : Model) → AllRowed m → AllRowed (add_linears at ps cs m)
rowed-add_linears at [] cs m r = r
rowed-add_linears at (p ∷ ps) [] m r = r
rowed-add_linears at (p ∷ ps) (c ∷ cs) m r = rowed-add_linears at ps cs _ (rowed-add_linear (at p.fst) (halves c) m r)

module _ (n : ℕ) where
  rowed-add_pairs : (at : Slot → ℕ) → ((s : Slot) → at s < n) → (ps : List Place) (cs : List ℤ) (m : Model) → Sized n m → AllRowed m → AllRowed (add_pairs at ps cs m)
  rowed-add_pairs at h [] cs m s r = r
  rowed-add_pairs at h (p ∷ ps) [] m s r = r
  rowed-add_pairs at h (p ∷ ps) (c ∷ cs) m s r =
      rowed-add_pairs at h ps cs _
      (sized-add_pair n (at p.fst) (at p.snd) (halves c) m (h p.fst) (h p.snd) s)
      (rowed-add_pair n (at p.fst) (at p.snd) (halves c) m (h p.fst) (h p.snd) s r)

  -- placing rows keeps that
  pub rowed-place_all : (rs : List Row) → Wired n rs → (m : Model) → Sized n m → AllRowed m → AllRowed (place_all rs m)
  unfolding place_all place
  rowed-place_all [] w m s r = r
  rowed-place_all (x ∷ rs) w m s r =
      let p : Penalty = row_of x.kind in
      let o : Model = add_offset (halves p.offset) m in
      let z : Sized n (add_linears (wire x) singles p.linear o) = sized-add_linears n (wire x) singles p.linear o (sized-add_offset n (halves p.offset) m s) in
      rowed-place_all rs w.1 _
      (sized-add_pairs n (wire x) w.0 twos p.pairs _ z)
      (rowed-add_pairs (wire x) w.0 twos p.pairs _ z (rowed-add_linears (wire x) singles p.linear o r))

-- ---- the energy asks only for the qubits that are counted

module _ (f : Bool → ℤ → ℤ) (fa : Additive f) (j : Bool → Bool → Bool) (σ τ : Setting) where
  pairs-rowed : (l : List ℕ) (s : List Entry) → Rowed l s → ((q : ℕ) → get_or l q 0 ≡ 1 → σ q ≡ τ q) → pairs_by f j σ s ≡ pairs_by f j τ s
  unfolding pairs_by
  pairs-rowed l [] r h = refl
  pairs-rowed l (e ∷ s) r h =
      ap₂ ◌+ℤ◌ (ap₂ (λ (a b : Bool). f (j a b) e.1) (h (low e.0) r.0) (h (high e.0) r.1)) (pairs-rowed l s r.2 h)

  -- Theorem: two settings that agree at the qubits with a linear entry or a row have one energy.
  pub energy-entered : (m : Model) → Marked m → AllRowed m → ((q : ℕ) → entered m q ≡ true → σ q ≡ τ q) → energy_by f j σ m ≡ energy_by f j τ m
  unfolding energy_by
  energy-entered m k r h =
      ap₂ (λ (x y : ℤ). m.offset +ℤ (x +ℤ y))
      (linear-same f σ τ 0 m.linear (λ i l. go i (no-entry m.has_linear m.linear k.linear i)))
      (pairs-rowed m.has_row m.pairs r (λ q e. h q (rw e (or-true (eqb (get_or m.has_linear q 0) 1)))))
    where
      go : (i : ℕ) → Mark (get_or m.has_linear i 0) (get_or m.linear i (pos 0)) → f (σ (0 + i)) (get_or m.linear i (pos 0)) ≡ f (τ (0 + i)) (get_or m.linear i (pos 0))
      go i (inl e) = rw e.1 (additive-zero f fa (σ (0 + i)) ∙ sym (additive-zero f fa (τ (0 + i))))
      go i (inr e) = ap (λ (b : Bool). f b (get_or m.linear i (pos 0))) (ap σ (zero-add i) ∙ h i (rw e) ∙ ap τ (sym (zero-add i)))
