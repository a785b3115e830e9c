-- Sums of lists of ℤ: appended, reordered, changed at a place, added place by place, bounded.
-- Assumes nothing.
use Rattle.std.specs.Prelude.{◌≡◌, refl, ℕ, zero, suc, ◌*◌, ◌≤◌, ◌<◌, length, get_or, set, ℤ, pos, nat_abs, ◌+ℤ◌, ◌-ℤ◌, ◌*ℤ◌}
use Rattle.std.proofs.Common.{sym, ap, ap₂, ◌∙◌, zero-le, not-suc-le-zero, le_of_suc-le-suc, mul-suc, arith}
use mathlib.Core.List.{List, [], ◌∷◌, ◌++◌, Permᴰ}
use Rattle.std.proofs.Math.IntN.{+ℤ_idl, +ℤ_assoc, *ℤ-zero}
use Rattle.laws.specs.Ring.{+ℤ-swap, *ℤ-add-right}
use Rattle.laws.specs.Abs.{abs-add}
use Rattle.laws.specs.Solve.{solve, v, ◌⊕◌, ◌⊖◌}

abbrev pub sum : List ℤ → ℤ
sum [] = pos 0
sum (x ∷ xs) = x +ℤ sum xs

pub sum-append : (xs ys : List ℤ) → sum (xs ++ ys) ≡ sum xs +ℤ sum ys
sum-append [] ys = sym (+ℤ_idl (sum ys))
sum-append (x ∷ xs) ys = ap (λ (t : ℤ). x +ℤ t) (sum-append xs ys) ∙ sym (+ℤ_assoc x (sum xs) (sum ys))

-- one entry more or less
pub sum-set : (xs : List ℤ) (i : ℕ) (y : ℤ) → i < length xs → sum (set xs i y) ≡ sum xs -ℤ get_or xs i (pos 0) +ℤ y
sum-set [] i y h = absurd (not-suc-le-zero h)
sum-set (x ∷ xs) zero y h = solve (x ∷ y ∷ sum xs ∷ []) (v 1 ⊕ v 2) (v 0 ⊕ v 2 ⊖ v 0 ⊕ v 1) refl
sum-set (x ∷ xs) (suc i) y h =
    ap (λ (t : ℤ). x +ℤ t) (sum-set xs i y (le_of_suc-le-suc h))
    ∙ solve (x ∷ y ∷ sum xs ∷ get_or xs i (pos 0) ∷ []) (v 0 ⊕ (v 2 ⊖ v 3 ⊕ v 1)) (v 0 ⊕ v 2 ⊖ v 3 ⊕ v 1) refl

-- an entry that gains c
pub sum-gain : (xs : List ℤ) (i : ℕ) (c : ℤ) → i < length xs → sum (set xs i (get_or xs i (pos 0) +ℤ c)) ≡ sum xs +ℤ c
sum-gain xs i c h =
    sum-set xs i (get_or xs i (pos 0) +ℤ c) h
    ∙ solve (sum xs ∷ get_or xs i (pos 0) ∷ c ∷ []) (v 0 ⊖ v 1 ⊕ (v 1 ⊕ v 2)) (v 0 ⊕ v 2) refl

-- ---- sums over any index: `total f l` is the sum of f over l
abbrev pub total : {A : Type 0} → (A → ℤ) → List A → ℤ
total f [] = pos 0
total f (x ∷ xs) = f x +ℤ total f xs

module _ {A : Type 0} where
  pub total-append : (f : A → ℤ) (xs ys : List A) → total f (xs ++ ys) ≡ total f xs +ℤ total f ys
  total-append f [] ys = sym (+ℤ_idl (total f ys))
  total-append f (x ∷ xs) ys = ap (λ (t : ℤ). f x +ℤ t) (total-append f xs ys) ∙ sym (+ℤ_assoc (f x) (total f xs) (total f ys))

  pub total-plus : (f g : A → ℤ) (xs : List A) → total (λ (x : A). f x +ℤ g x) xs ≡ total f xs +ℤ total g xs
  total-plus f g [] = refl
  total-plus f g (x ∷ xs) = ap (λ (t : ℤ). f x +ℤ g x +ℤ t) (total-plus f g xs) ∙ +ℤ-swap (f x) (g x) (total f xs) (total g xs)

  pub total-times : (k : ℤ) (f : A → ℤ) (xs : List A) → total (λ (x : A). k *ℤ f x) xs ≡ k *ℤ total f xs
  total-times k f [] = sym (*ℤ-zero k)
  total-times k f (x ∷ xs) = ap (λ (t : ℤ). k *ℤ f x +ℤ t) (total-times k f xs) ∙ sym (*ℤ-add-right k (f x) (total f xs))

  pub total-same : (f g : A → ℤ) → ((x : A) → f x ≡ g x) → (xs : List A) → total f xs ≡ total g xs
  total-same f g h [] = refl
  total-same f g h (x ∷ xs) = ap₂ ◌+ℤ◌ (h x) (total-same f g h xs)

  -- each at most k in size
  pub total-abs : (f : A → ℤ) (k : ℕ) → ((x : A) → nat_abs (f x) ≤ k) → (xs : List A) → nat_abs (total f xs) ≤ k * length xs
  total-abs f k h [] = zero-le
  total-abs f k h (x ∷ xs) = omega (arith, abs-add (f x) (total f xs), h x, total-abs f k h xs, mul-suc k (length xs))

  -- the order of the summands does not matter
  pub total-perm : (f : A → ℤ) {xs ys : List A} → Permᴰ xs ys → total f xs ≡ total f ys
  total-perm f Permᴰ.nil = refl
  total-perm f (Permᴰ.cons e p) = ap₂ ◌+ℤ◌ (ap f e) (total-perm f p)
  total-perm f (Permᴰ.swap {a} {b} {l = l} e₁ e₂) =
      solve (f a ∷ f b ∷ total f l ∷ []) (v 0 ⊕ (v 1 ⊕ v 2)) (v 1 ⊕ (v 0 ⊕ v 2)) refl
      ∙ ap₂ ◌+ℤ◌ (ap f e₂) (ap (λ (t : ℤ). t +ℤ total f l) (ap f e₁))
  total-perm f (Permᴰ.trans p q) = total-perm f p ∙ total-perm f q

pub sum-is-total : (xs : List ℤ) → sum xs ≡ total (λ (x : ℤ). x) xs
sum-is-total [] = refl
sum-is-total (x ∷ xs) = ap (λ (t : ℤ). x +ℤ t) (sum-is-total xs)

pub sum-perm : {xs ys : List ℤ} → Permᴰ xs ys → sum xs ≡ sum ys
sum-perm {xs} {ys} p = sum-is-total xs ∙ total-perm (λ (x : ℤ). x) p ∙ sym (sum-is-total ys)
