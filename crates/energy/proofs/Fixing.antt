-- Theorems over the definitions of specs/Fixing.antt, where their subject is told. An edit of such a definition is refused here.
-- Assumes nothing.
use Rattle.std.specs.Prelude.{◌≡◌, ◌⊎◌, Bool, cond, ◌||◌, pos, ◌+ℤ◌, length, get_or}
use Rattle.std.proofs.Math.Path.{refl, sym, ap}
use Rattle.std.proofs.Common.{◌∙◌, inl, inr, arith, zero-add, length-set, get_or-set_same, get_or-set_other, eq-eqb, ne_eqb}
use Rattle.std.proofs.Math.Bool.{true, false, ◌&&◌, and_comm}
use mathlib.Core.List.{List, [], ◌∷◌}
use Prim.Native.Nat.{ℕ, ◌+◌, ◌<◌}
use Rattle.std.proofs.Math.Decide.{ℕ_discrete}
use Rattle.std.proofs.Math.Dec.{eqb}
use Rattle.std.proofs.Math.IntN.{ℤ, +ℤ_idl, +ℤ_idr, +ℤ_assoc}
use Rattle.std.proofs.Math.ListN.{set}
use Rattle.laws.specs.Ring.{+ℤ-cancel-right}
use Rattle.laws.specs.Solve.{solve, v, con, ◌⊕◌}
use Rattle.laws.specs.Test.{by_eqb}
use Rattle.energy.specs.Plain.{Setting, upd, upd_same, upd_other}
use Rattle.energy.specs.Model.{Entry, Model, Sized, Inside, low, high, add_linear, gated, touches, neighbour, give, without, fix, linear_by, pairs_by, energy_by, binary_energy}
use Rattle.energy.specs.Sized.{sized-add_linear}
use Rattle.energy.proofs.Sized.{sized-give, sized-fix}
use Rattle.energy.specs.Stored.{gated-add, gated-zero, linear-same, linear-clear, add_linear-energy}
use Rattle.energy.specs.Fixing.{Fixes, OneValue, SameAt, Within, add_linear-fixed, add_linear-pairs, complete, complete-at, completed, fix_all, fixed_at, mark, over, shown}

-- ---- what fixing leaves as it was

module _ (q : ℕ) (b : Bool) where
  -- what the neighbours gain leaves the pairs
  pub give-pairs : (s : List Entry) (m : Model) → (give q b s m).pairs ≡ m.pairs
  unfolding give
  give-pairs [] m = refl
  give-pairs (e ∷ s) m = give-pairs s _ ∙ go (touches q e.0)
    where
      go : (t : Bool) → (cond t (add_linear (neighbour q e.0) (gated b e.1) m) m).pairs ≡ m.pairs
      go true = add_linear-pairs (neighbour q e.0) (gated b e.1) m
      go false = refl

  -- and the table of fixed values
  pub give-fixed : (s : List Entry) (m : Model) → (give q b s m).fixed ≡ m.fixed
  unfolding give
  give-fixed [] m = refl
  give-fixed (e ∷ s) m = give-fixed s _ ∙ go (touches q e.0)
    where
      go : (t : Bool) → (cond t (add_linear (neighbour q e.0) (gated b e.1) m) m).fixed ≡ m.fixed
      go true = add_linear-fixed (neighbour q e.0) (gated b e.1) m
      go false = refl

  -- fixing takes out the pairs of q
  pub fix-pairs : (m : Model) → (fix q b m).pairs ≡ without q m.pairs
  unfolding fix
  fix-pairs m = ap (without q) (give-pairs m.pairs m)

  -- and keeps the value
  pub fix-fixed : (m : Model) → (fix q b m).fixed ≡ set m.fixed q (mark b)
  unfolding fix
  fix-fixed m = ap (λ (l : List ℕ). set l q (mark b)) (give-fixed m.pairs m)

-- ---- the energy

gated-and : (b x : Bool) (c : ℤ) → gated (b && x) c ≡ gated x (gated b c)
gated-and true x c = refl
gated-and false true c = refl
gated-and false false c = refl

moved : (x p g y : ℤ) → x ≡ p +ℤ g → y +ℤ x ≡ p +ℤ (y +ℤ g)
moved x p g y h = rw h (solve (p ∷ g ∷ y ∷ []) (v 2 ⊕ (v 0 ⊕ v 1)) (v 0 ⊕ (v 2 ⊕ v 1)) refl)

stayed : (x p g y : ℤ) → x ≡ p +ℤ g → y +ℤ x ≡ (y +ℤ p) +ℤ (pos 0 +ℤ g)
stayed x p g y h = rw h (solve (p ∷ g ∷ y ∷ []) (v 2 ⊕ (v 0 ⊕ v 1)) ((v 2 ⊕ v 0) ⊕ (con (pos 0) ⊕ v 1)) refl)

whole : (o g l p r a t : ℤ) → l +ℤ g ≡ a → t ≡ p +ℤ r → ((o +ℤ g) +ℤ (l +ℤ p)) +ℤ r ≡ o +ℤ (a +ℤ t)
whole o g l p r a t h k =
    rw (← h, k)
    (solve (o ∷ g ∷ l ∷ p ∷ r ∷ []) (((v 0 ⊕ v 1) ⊕ (v 2 ⊕ v 3)) ⊕ v 4) (v 0 ⊕ ((v 2 ⊕ v 1) ⊕ (v 3 ⊕ v 4))) refl)

module _ (σ : Setting) (q : ℕ) (b : Bool) where
  abbrev τ : Setting
  τ = upd σ q b

  -- what the pairs of q come to: each, times the value, times its neighbour's value
  unfoldable given : List Entry → ℤ
  given [] = pos 0
  given (e ∷ s) = cond (touches q e.0) (gated (τ (neighbour q e.0)) (gated b e.1)) (pos 0) +ℤ given s

  -- the linear entries gain it
  give-energy : (n : ℕ) (s : List Entry) (m : Model) → Inside n s → Sized n m → binary_energy τ (give q b s m) ≡ binary_energy τ m +ℤ given s
  unfolding give given
  give-energy n [] m i z = sym (+ℤ_idr (binary_energy τ m))
  give-energy n (e ∷ s) m i z = go (touches q e.0) (λ m z. give-energy n s m i.2 z)
    where
      k : ℕ
      k = neighbour q e.0

      c : ℤ
      c = gated b e.1

      below : k < n
      below = pick (eqb (low e.0) q) (omega (arith, i.0, i.1)) (omega (arith, i.0, i.1))
        where
          pick : (t : Bool) {a b : ℕ} → a < n → b < n → cond t a b < n
          pick true h l = h
          pick false h l = l

      go : (t : Bool) → ((m : Model) → Sized n m → binary_energy τ (give q b s m) ≡ binary_energy τ m +ℤ given s)
          → binary_energy τ (give q b s (cond t (add_linear k c m) m)) ≡ binary_energy τ m +ℤ (cond t (gated (τ k) c) (pos 0) +ℤ given s)
      go true rest =
          rest (add_linear k c m) (sized-add_linear n k c m z)
          ∙ ap (λ (x : ℤ). x +ℤ given s) (add_linear-energy gated gated-add ◌&&◌ τ n k c m z below)
          ∙ +ℤ_assoc (binary_energy τ m) (gated (τ k) c) (given s)
      go false rest = rest m z ∙ ap (λ (x : ℤ). binary_energy τ m +ℤ x) (sym (+ℤ_idl (given s)))

  -- and the pairs lose it
  pairs-fixed : (s : List Entry) → pairs_by gated ◌&&◌ τ s ≡ pairs_by gated ◌&&◌ σ (without q s) +ℤ given s
  unfolding pairs_by without given
  pairs-fixed [] = refl
  pairs-fixed (e ∷ s) =
      let w : ℤ = e.1 in
      let lo : ℕ = low e.0 in
      let hi : ℕ = high e.0 in
      let X : ℤ = pairs_by gated ◌&&◌ τ s in
      let P : ℤ = pairs_by gated ◌&&◌ σ (without q s) in
      by_eqb lo q
      (λ x.
      gated (τ lo && τ hi) w +ℤ X
      ≡ pairs_by gated ◌&&◌ σ (cond (x || eqb hi q) (without q s) (e ∷ without q s)) +ℤ (cond (x || eqb hi q) (gated (τ (cond x hi lo)) (gated b w)) (pos 0) +ℤ given s))
      (λ p. rw (p, upd_same σ q b, gated-and b (τ hi) w) (moved X P (given s) (gated (τ hi) (gated b w)) (pairs-fixed s)))
      (λ n.
      by_eqb hi q
      (λ x.
      gated (τ lo && τ hi) w +ℤ X
      ≡ pairs_by gated ◌&&◌ σ (cond x (without q s) (e ∷ without q s)) +ℤ (cond x (gated (τ lo) (gated b w)) (pos 0) +ℤ given s))
      (λ p. rw (p, upd_same σ q b, and_comm (τ lo) b, gated-and b (τ lo) w) (moved X P (given s) (gated (τ lo) (gated b w)) (pairs-fixed s)))
      (λ k. rw (upd_other σ q b lo n, upd_other σ q b hi k) (stayed X P (given s) (gated (σ lo && σ hi) w) (pairs-fixed s))))

  -- where the coefficient of q is 0, its value does not matter
  linear-fixed : (cs : List ℤ) → linear_by gated σ 0 (set cs q (pos 0)) ≡ linear_by gated τ 0 (set cs q (pos 0))
  linear-fixed cs = linear-same gated σ τ 0 (set cs q (pos 0)) (λ i l. go i (omega (arith, length-set cs q (pos 0))) (ℕ_discrete i q))
    where
      go : (i : ℕ) → i < length cs → Dec (i ≡ q)
          → gated (σ (0 + i)) (get_or (set cs q (pos 0)) i (pos 0)) ≡ gated (τ (0 + i)) (get_or (set cs q (pos 0)) i (pos 0))
      go i l (yes e) =
          let z : get_or (set cs q (pos 0)) i (pos 0) ≡ pos 0 = rw e (get_or-set_same cs q (pos 0) (pos 0) (rw e at l)) in
          rw z (gated-zero (σ (0 + i)) ∙ sym (gated-zero (τ (0 + i))))
      go i l (no n) = rw (zero-add i, upd_other σ q b i n)

  -- Fixing keeps the energy, at the setting with the qubit at the value.
  pub fix-energy : (n : ℕ) (m : Model) → Sized n m → q < n → binary_energy σ (fix q b m) ≡ binary_energy τ m
  unfolding energy_by fix
  fix-energy n m z h = +ℤ-cancel-right (binary_energy σ (fix q b m)) (binary_energy τ m) (given m.pairs) (left ∙ give-energy n m.pairs m z.inside z)
    where
      M : Model
      M = give q b m.pairs m

      L : List ℤ
      L = M.linear

      g : ℤ
      g = gated b (get_or L q (pos 0))

      P : ℤ
      P = pairs_by gated ◌&&◌ σ (without q m.pairs)

      sized : Sized n M
      sized = sized-give n q b m.pairs m z

      -- the linear entry of q
      linear : linear_by gated σ 0 (set L q (pos 0)) +ℤ g ≡ linear_by gated τ 0 L
      linear =
          ap (λ (x : ℤ). x +ℤ g) (linear-fixed L)
          ∙ ap (λ (x : Bool). linear_by gated τ 0 (set L q (pos 0)) +ℤ gated x (get_or L q (pos 0))) (sym (upd_same σ q b) ∙ ap τ (sym (zero-add q)))
          ∙ linear-clear gated gated-add τ 0 L q (omega (arith, sized.linear))

      left : binary_energy σ (fix q b m) +ℤ given m.pairs ≡ binary_energy τ M
      left =
          rw (give-pairs q b m.pairs m)
          (whole M.offset g (linear_by gated σ 0 (set L q (pos 0))) P (given m.pairs) (linear_by gated τ 0 L) (pairs_by gated ◌&&◌ τ m.pairs) linear (pairs-fixed m.pairs))

-- ---- fixing in turn

-- fixing in turn keeps the size
pub sized-fix_all : (n : ℕ) (fs : Fixes) (m : Model) → Sized n m → Sized n (fix_all fs m)
unfolding fix_all
sized-fix_all n [] m z = z
sized-fix_all n (f ∷ fs) m z = sized-fix_all n fs _ (sized-fix n f.0 f.1 m z)

-- ---- Theorem, after fixing: a setting has the energy of that setting completed by the fixed values.
pub fix_all-energy : (n : ℕ) (fs : Fixes) (σ : Setting) (m : Model) → Sized n m → Within n fs → binary_energy σ (fix_all fs m) ≡ binary_energy (complete fs σ) m
unfolding fix_all complete
fix_all-energy n [] σ m z w = refl
fix_all-energy n (f ∷ fs) σ m z w =
    fix_all-energy n fs σ (fix f.0 f.1 m) (sized-fix n f.0 f.1 m z) w.1
    ∙ fix-energy (complete fs σ) f.0 f.1 n m z w.0

-- ---- the table of fixed values

-- what comes later says nothing else of the same qubit
fixed_at-same : (q : ℕ) (b : Bool) (fs : Fixes) → SameAt q b fs → (fixed_at fs q ≡ 0) ⊎ (fixed_at fs q ≡ mark b)
unfolding fixed_at
fixed_at-same q b [] s = inl refl
fixed_at-same q b (f ∷ fs) s =
    by_eqb q f.0 (λ t. (cond t (mark f.1) (fixed_at fs q) ≡ 0) ⊎ (cond t (mark f.1) (fixed_at fs q) ≡ mark b))
    (λ e. inr (ap mark (s.0 (sym e))))
    (λ n. fixed_at-same q b fs s.1)

over-same : (k : ℕ) (b : Bool) → (k ≡ 0) ⊎ (k ≡ mark b) → (l : ℕ) → over k (mark b) ≡ over (mark b) l
over-same k true (inl e) l = rw e
over-same k false (inl e) l = rw e
over-same k true (inr e) l = rw e
over-same k false (inr e) l = rw e

fixed-over : (n : ℕ) (fs : Fixes) (m : Model) → Sized n m → (q : ℕ) → q < n → OneValue fs
    → get_or (fix_all fs m).fixed q 0 ≡ over (fixed_at fs q) (get_or m.fixed q 0)
unfolding fix_all fixed_at
fixed-over n [] m z q h o = refl
fixed-over n (f ∷ fs) m z q h o =
    fixed-over n fs (fix f.0 f.1 m) (sized-fix n f.0 f.1 m z) q h o.1
    ∙ rw (fix-fixed f.0 f.1 m) (go (ℕ_discrete q f.0))
  where
    k : ℕ
    k = mark f.1

    go : Dec (q ≡ f.0) → over (fixed_at fs q) (get_or (set m.fixed f.0 k) q 0) ≡ over (cond (eqb q f.0) k (fixed_at fs q)) (get_or m.fixed q 0)
    go (yes e) =
        rw (e, get_or-set_same m.fixed f.0 k 0 (omega (arith, z.fixed)), eq-eqb f.0 f.0 refl)
        (over-same (fixed_at fs f.0) f.1 (fixed_at-same f.0 f.1 fs o.0) _)
    go (no d) = rw (ne_eqb q f.0 d, get_or-set_other m.fixed f.0 q k 0 d)

-- The model's table of fixed values holds what the fixes say: 0 where a qubit is not fixed, 1 or 2 where it is.
pub fixed-table : (n : ℕ) (fs : Fixes) (m : Model) → Sized n m → (q : ℕ) → q < n → OneValue fs → get_or m.fixed q 0 ≡ 0
    → get_or (fix_all fs m).fixed q 0 ≡ fixed_at fs q
fixed-table n fs m z q h o e = fixed-over n fs m z q h o ∙ rw e (none (fixed_at fs q))
  where
    none : (k : ℕ) → over k 0 ≡ k
    none k = by_eqb k 0 (λ b. cond b 0 k ≡ k) (λ e. sym e) (λ n. refl)

-- So the table of the fixed model completes a setting just as the fixes do, at the model's qubits.
pub complete-table : (n : ℕ) (fs : Fixes) (m : Model) → Sized n m → OneValue fs → (q : ℕ) → q < n → get_or m.fixed q 0 ≡ 0
    → (σ : Setting) → complete fs σ q ≡ completed (fix_all fs m).fixed σ q
complete-table n fs m z o q h e σ = complete-at fs σ q ∙ ap (λ (k : ℕ). shown k (σ q)) (sym (fixed-table n fs m z q h o e))
