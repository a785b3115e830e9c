-- Halving: Rust's `/ 2` on a signed integer rounds toward zero (`quot_z`), and of an even number it is the half; so is `/ 4` of a multiple of four the quarter.
-- Assumes nothing.
use Rattle.std.specs.Prelude.{◌≡◌, refl, Bool, [], ◌∷◌, ℕ, zero, suc, ◌+◌, ◌-◌, ◌/◌, ◌%◌, ◌≤◌, ℤ, pos, negsuc, neg_ℤ, nat_abs, ◌+ℤ◌, T, eqb}
use Rattle.std.proofs.Common.{sym, ap, ap₂, ◌∙◌, zero-le, lt_of_le_of_lt, arith, eqb→eq, SFits}
use Rattle.std.specs.Int.Signed.{quot_z, mag}
use Rattle.std.specs.Int.{Width}
use Rattle.laws.specs.Ring.{+ℤ-swap}
use Rattle.laws.specs.Solve.{solve, v, ◌⊕◌}

half_twice : (n : ℕ) → (n + n) / 2 ≡ n
half_twice n = omega arith

half-twice-suc : (n : ℕ) → suc (suc (n + n)) / 2 ≡ suc n
half-twice-suc n = omega arith

pub quot-half : (y : ℤ) → quot_z (y +ℤ y) (pos 2) ≡ y
quot-half (pos n) = ap pos (half_twice n)
quot-half (negsuc n) = ap (λ (m : ℕ). neg_ℤ (pos m)) (half-twice-suc n)

-- a half always fits
half_le : (n : ℕ) → n / 2 ≤ n
half_le n = omega arith

mag-neg-half : (n : ℕ) → mag (neg_ℤ (pos n)) ≤ n
mag-neg-half zero = zero-le
mag-neg-half (suc n) = omega arith

pub half-fits : (w : Width) {z : ℤ} → SFits w z → SFits w (quot_z z (pos 2))
half-fits w {z = pos n} f = record { sfits = lt_of_le_of_lt (half_le n) f.sfits }
half-fits w {z = negsuc n} f = record { sfits = lt_of_le_of_lt (below n (suc n / 2) (mag-neg-half (suc n / 2)) refl) f.sfits }
  where
    below : (n m : ℕ) → mag (neg_ℤ (pos m)) ≤ m → m ≡ suc n / 2 → mag (neg_ℤ (pos m)) ≤ n
    below n zero h e = zero-le
    below n (suc m) h e = omega arith

-- ---- even numbers
abbrev pub Even : ℤ → Type 0
Even z = (y : ℤ) × (z ≡ y +ℤ y)

pub even-half : (z : ℤ) → Even z → quot_z z (pos 2) +ℤ quot_z z (pos 2) ≡ z
even-half z e = ap (λ (x : ℤ). quot_z x (pos 2) +ℤ quot_z x (pos 2)) e.1 ∙ ap₂ ◌+ℤ◌ (quot-half e.0) (quot-half e.0) ∙ sym e.1

pub even-add : (a b : ℤ) → Even a → Even b → Even (a +ℤ b)
even-add a b x y = (x.0 +ℤ y.0, ap₂ ◌+ℤ◌ x.1 y.1 ∙ +ℤ-swap x.0 x.0 y.0 y.0)

-- a test, which computes
abbrev pub evenb : ℤ → Bool
evenb z = eqb (nat_abs z % 2) 0

pub evenb→even : (z : ℤ) → T (evenb z) → Even z
evenb→even (pos n) t = (pos (n / 2), ap pos (twice n (eqb→eq (n % 2) 0 t)))
  where
    twice : (n : ℕ) → n % 2 ≡ 0 → n ≡ n / 2 + n / 2
    twice n h = omega arith
evenb→even (negsuc n) t = (negsuc (suc n / 2 - 1), ap negsuc (twice n (eqb→eq (suc n % 2) 0 t)))
  where
    twice : (n : ℕ) → suc n % 2 ≡ 0 → n ≡ suc (suc n / 2 - 1 + (suc n / 2 - 1))
    twice n h = omega arith

-- the half of a sum of even numbers
pub half-add : (a b : ℤ) → Even a → Even b → quot_z (a +ℤ b) (pos 2) ≡ quot_z a (pos 2) +ℤ quot_z b (pos 2)
half-add a b x y =
    ap (λ (t : ℤ). quot_z t (pos 2)) (ap₂ ◌+ℤ◌ x.1 y.1 ∙ +ℤ-swap x.0 x.0 y.0 y.0)
    ∙ quot-half (x.0 +ℤ y.0)
    ∙ sym (ap₂ ◌+ℤ◌ (ap (λ (t : ℤ). quot_z t (pos 2)) x.1 ∙ quot-half x.0) (ap (λ (t : ℤ). quot_z t (pos 2)) y.1 ∙ quot-half y.0))

-- ---- multiples of four
abbrev pub four : ℤ → ℤ
four y = (y +ℤ y) +ℤ (y +ℤ y)

abbrev pub Fourfold : ℤ → Type 0
Fourfold z = (y : ℤ) × (z ≡ four y)

pub quot-quarter : (y : ℤ) → quot_z (four y) (pos 4) ≡ y
quot-quarter (pos n) = ap pos (quarter n)
  where
    quarter : (n : ℕ) → (n + n + (n + n)) / 4 ≡ n
    quarter n = omega arith
quot-quarter (negsuc n) = ap (λ (m : ℕ). neg_ℤ (pos m)) (quarter n)
  where
    quarter : (n : ℕ) → suc (suc (suc (n + n) + suc (n + n))) / 4 ≡ suc n
    quarter n = omega arith

-- a quarter is exact
pub fourfold-quarter : (z : ℤ) → Fourfold z → four (quot_z z (pos 4)) ≡ z
fourfold-quarter z x = ap four (ap (λ (t : ℤ). quot_z t (pos 4)) x.1 ∙ quot-quarter x.0) ∙ sym x.1

pub fourfold-zero : Fourfold (pos 0)
fourfold-zero = (pos 0, refl)

pub fourfold-even : (z : ℤ) → Fourfold z → Even z
fourfold-even z x = (x.0 +ℤ x.0, x.1)

-- twice an even number
pub even-twice : (z : ℤ) → Even z → Fourfold (z +ℤ z)
even-twice z x = (x.0, ap₂ ◌+ℤ◌ x.1 x.1)

four-add : (x y : ℤ) → four x +ℤ four y ≡ four (x +ℤ y)
four-add x y = solve (x ∷ y ∷ []) ((v 0 ⊕ v 0 ⊕ (v 0 ⊕ v 0)) ⊕ (v 1 ⊕ v 1 ⊕ (v 1 ⊕ v 1))) ((v 0 ⊕ v 1) ⊕ (v 0 ⊕ v 1) ⊕ ((v 0 ⊕ v 1) ⊕ (v 0 ⊕ v 1))) refl

pub fourfold-add : (a b : ℤ) → Fourfold a → Fourfold b → Fourfold (a +ℤ b)
fourfold-add a b x y = (x.0 +ℤ y.0, ap₂ ◌+ℤ◌ x.1 y.1 ∙ four-add x.0 y.0)

-- the quarter of a sum of multiples of four
pub quarter-add : (a b : ℤ) → Fourfold a → Fourfold b → quot_z (a +ℤ b) (pos 4) ≡ quot_z a (pos 4) +ℤ quot_z b (pos 4)
quarter-add a b x y =
    ap (λ (t : ℤ). quot_z t (pos 4)) (ap₂ ◌+ℤ◌ x.1 y.1 ∙ four-add x.0 y.0)
    ∙ quot-quarter (x.0 +ℤ y.0)
    ∙ sym (ap₂ ◌+ℤ◌ (ap (λ (t : ℤ). quot_z t (pos 4)) x.1 ∙ quot-quarter x.0) (ap (λ (t : ℤ). quot_z t (pos 4)) y.1 ∙ quot-quarter y.0))
