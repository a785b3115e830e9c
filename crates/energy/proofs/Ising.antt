-- Theorems over the definitions of specs/Ising.antt, where their subject is told. An edit of such a definition is refused here.
-- Assumes nothing.
use Rattle.std.specs.Prelude.{◌≡◌, true, false, ◌&&◌, pos}
use Rattle.std.proofs.Math.Path.{refl, sym, ap, ap₂}
use Rattle.std.proofs.Common.{◌∙◌, arith}
use Rattle.std.proofs.Math.Bool.{Bool, beq}
use mathlib.Core.List.{List, [], ◌∷◌, map}
use Prim.Native.Nat.{ℕ, suc}
use Rattle.std.proofs.Math.IntN.{ℤ, ◌+ℤ◌, +ℤ_idr, +ℤ_invl, +ℤ_invr, neg_ℤ-+ℤ}
use Rattle.laws.specs.Half.{Fourfold, four, even-half, half-add, fourfold-add, fourfold-even, fourfold-quarter, fourfold-zero, quarter-add}
use Rattle.laws.specs.Solve.{solve, v, ◌⊕◌}
use Rattle.laws.specs.Sum.{sum}
use Rattle.energy.specs.Plain.{Setting}
use Rattle.energy.specs.Model.{Entry, Model, Sized, Inside, low, high, join_linear, gated, half, quarter, weights, quarters, ends, ising, signed, linear_by, pairs_by, energy_by, binary_energy, ising_energy}
use Rattle.energy.specs.Sized.{turned, ising-turned, sized-turned, sized-join_linear, inside-quarters}
use Rattle.energy.specs.Stored.{signed_add, join_linear-energy}
use Rattle.energy.specs.Fours.{AllFours, Fours}

-- ---- the sums that the offset gains

sum-fours : (cs : List ℤ) → AllFours cs → Fourfold (sum cs)
sum-fours [] f = fourfold-zero
sum-fours (c ∷ cs) f = fourfold-add c (sum cs) f.0 (sum-fours cs f.1)

-- half the linear sum is the sum of the halves
sum-half : (cs : List ℤ) → AllFours cs → half (sum cs) ≡ sum (map half cs)
sum-half [] f = refl
sum-half (c ∷ cs) f =
    half-add c (sum cs) (fourfold-even c f.0) (fourfold-even (sum cs) (sum-fours cs f.1)) ∙ ap (λ (x : ℤ). half c +ℤ x) (sum-half cs f.1)

-- a quarter of the pair sum is the sum of the quarters
sum-quarter : (s : List Entry) → AllFours (weights s) → quarter (sum (weights s)) ≡ sum (weights (quarters s))
sum-quarter [] f = refl
sum-quarter (e ∷ s) f =
    quarter-add e.1 (sum (weights s)) f.0 (sum-fours (weights s) f.1) ∙ ap (λ (x : ℤ). quarter e.1 +ℤ x) (sum-quarter s f.1)

-- ---- the energy

-- a linear entry: h + (±h) is 2h or 0
linear-term : (b : Bool) (h : ℤ) → h +ℤ signed b h ≡ gated b (h +ℤ h)
linear-term true h = refl
linear-term false h = +ℤ_invr h

-- a pair: d + (±d) + (±d) + (±d) is 4d where both are true, else 0
pair-term : (a b : Bool) (d : ℤ) → (d +ℤ signed (beq a b) d) +ℤ (signed a d +ℤ signed b d) ≡ gated (a && b) (four d)
pair-term true true d = refl
pair-term true false d = ap₂ ◌+ℤ◌ (+ℤ_invr d) (+ℤ_invr d)
pair-term false true d = ap₂ ◌+ℤ◌ (+ℤ_invr d) (+ℤ_invl d)
pair-term false false d = ap (λ (x : ℤ). (d +ℤ d) +ℤ x) (sym (neg_ℤ-+ℤ d d)) ∙ +ℤ_invr (d +ℤ d)

two-each : (a x b y : ℤ) → (a +ℤ x) +ℤ (b +ℤ y) ≡ (a +ℤ b) +ℤ (x +ℤ y)
two-each a x b y = solve (a ∷ x ∷ b ∷ y ∷ []) ((v 0 ⊕ v 1) ⊕ (v 2 ⊕ v 3)) ((v 0 ⊕ v 2) ⊕ (v 1 ⊕ v 3)) refl

three-each : (h s j k x e : ℤ) → ((h +ℤ s) +ℤ (j +ℤ k)) +ℤ (x +ℤ e) ≡ ((h +ℤ j) +ℤ x) +ℤ ((s +ℤ k) +ℤ e)
three-each h s j k x e =
    solve (h ∷ s ∷ j ∷ k ∷ x ∷ e ∷ []) (((v 0 ⊕ v 1) ⊕ (v 2 ⊕ v 3)) ⊕ (v 4 ⊕ v 5)) (((v 0 ⊕ v 2) ⊕ v 4) ⊕ ((v 1 ⊕ v 3) ⊕ v 5)) refl

module _ (σ : Setting) where
  -- the linear entries, with the part of the offset that comes from them
  linear-spin : (q : ℕ) (cs : List ℤ) → AllFours cs → sum (map half cs) +ℤ linear_by signed σ q (map half cs) ≡ linear_by gated σ q cs
  unfolding linear_by
  linear-spin q [] f = refl
  linear-spin q (c ∷ cs) f =
      two-each (half c) (sum (map half cs)) (signed (σ q) (half c)) (linear_by signed σ (suc q) (map half cs))
      ∙ ap₂ ◌+ℤ◌ (linear-term (σ q) (half c) ∙ ap (gated (σ q)) (even-half c (fourfold-even c f.0))) (linear-spin (suc q) cs f.1)

  -- what both ends of the pairs add
  unfoldable end_sum : List Entry → ℤ
  end_sum [] = pos 0
  end_sum (e ∷ s) = (signed (σ (low e.0)) e.1 +ℤ signed (σ (high e.0)) e.1) +ℤ end_sum s

  ends-spin : (n : ℕ) (s : List Entry) (m : Model) → Inside n s → Sized n m → ising_energy σ (ends s m) ≡ ising_energy σ m +ℤ end_sum s
  unfolding ends end_sum
  ends-spin n [] m i z = sym (+ℤ_idr (ising_energy σ m))
  ends-spin n (e ∷ s) m i z =
      let a : ℕ = low e.0 in
      let b : ℕ = high e.0 in
      let za : Sized n (join_linear a e.1 m) = sized-join_linear n a e.1 m z in
      ends-spin n s _ i.2 (sized-join_linear n b e.1 _ za)
      ∙ ap (λ (x : ℤ). x +ℤ end_sum s)
      (join_linear-energy signed signed_add beq σ n b e.1 _ za i.1
      ∙ ap (λ (x : ℤ). x +ℤ signed (σ b) e.1) (join_linear-energy signed signed_add beq σ n a e.1 m z (omega (arith, i.0, i.1))))
      ∙ last (ising_energy σ m) (signed (σ a) e.1) (signed (σ b) e.1) (end_sum s)
    where
      last : (x a b s : ℤ) → ((x +ℤ a) +ℤ b) +ℤ s ≡ x +ℤ ((a +ℤ b) +ℤ s)
      last x a b s = solve (x ∷ a ∷ b ∷ s ∷ []) (((v 0 ⊕ v 1) ⊕ v 2) ⊕ v 3) (v 0 ⊕ ((v 1 ⊕ v 2) ⊕ v 3)) refl

  -- the pairs, with the parts of the offset and of the linear entries that come from them
  pair-spin : (s : List Entry) → AllFours (weights s)
      → (sum (weights (quarters s)) +ℤ pairs_by signed beq σ (quarters s)) +ℤ end_sum (quarters s) ≡ pairs_by gated ◌&&◌ σ s
  unfolding pairs_by end_sum
  pair-spin [] f = refl
  pair-spin (e ∷ s) f =
      let d : ℤ = quarter e.1 in
      let a : Bool = σ (low e.0) in
      let b : Bool = σ (high e.0) in
      three-each d (sum (weights (quarters s))) (signed (beq a b) d) (pairs_by signed beq σ (quarters s)) (signed a d +ℤ signed b d) (end_sum (quarters s))
      ∙ ap₂ ◌+ℤ◌ (pair-term a b d ∙ ap (gated (a && b)) (fourfold-quarter e.1 f.0)) (pair-spin s f.1)

  -- Theorem: the Ising form has the same energy, the same count of halves.
  pub ising-energy : (n : ℕ) (m : Model) → Sized n m → Fours m → ising_energy σ (ising m) ≡ binary_energy σ m
  unfolding energy_by
  ising-energy n m z f =
      ap (ising_energy σ) (ising-turned m)
      ∙ ends-spin n Q (turned m) (inside-quarters n m.pairs z.inside) (sized-turned n m z)
      ∙ rw (sum-half m.linear f.linear, sum-quarter m.pairs f.pairs)
      (all m.offset (sum L) (sum (weights Q)) (linear_by signed σ 0 L) (pairs_by signed beq σ Q) (end_sum Q)
      ∙ ap₂ (λ (x y : ℤ). m.offset +ℤ (x +ℤ y)) (linear-spin 0 m.linear f.linear) (pair-spin m.pairs f.pairs))
    where
      Q : List Entry
      Q = quarters m.pairs

      L : List ℤ
      L = map half m.linear

      all : (o s t l p e : ℤ) → (((o +ℤ s) +ℤ t) +ℤ (l +ℤ p)) +ℤ e ≡ o +ℤ ((s +ℤ l) +ℤ ((t +ℤ p) +ℤ e))
      all o s t l p e =
          solve (o ∷ s ∷ t ∷ l ∷ p ∷ e ∷ []) ((((v 0 ⊕ v 1) ⊕ v 2) ⊕ (v 3 ⊕ v 4)) ⊕ v 5) (v 0 ⊕ ((v 1 ⊕ v 3) ⊕ ((v 2 ⊕ v 4) ⊕ v 5))) refl
