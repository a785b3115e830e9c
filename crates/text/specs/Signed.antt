-- Signed numbers in the text: `-` where negative, and then the size.
-- Assumes nothing.
use Rattle.std.specs.Prelude.{◌≡◌, refl, List, [], ◌∷◌, ◌++◌, ℕ, suc, ◌^◌, ◌≤◌, ◌<◌, T, ltb, ℤ, pos, negsuc, nat_abs, length, ◌<ℤ◌, ◌≤ℤ◌}
use Rattle.std.proofs.Common.{arith, ltb→lt}
use Rattle.text.specs.Decimal.{decimal, digits, length-decimal}

-- a signed number whose size is spelled by f
abbrev pub with_sign : (ℕ → List ℕ) → ℤ → List ℕ
with_sign f (pos n) = f n
with_sign f (negsuc n) = 45 ∷ f (suc n)

-- the sign alone: `-` where negative
abbrev pub sign : ℤ → List ℕ
sign = with_sign (λ _. [])

-- a signed number in decimal
unfoldable pub signed_text : ℤ → List ℕ
signed_text z = with_sign decimal z

-- one below 0, and one that is not
pub sign_below : (f : ℕ → List ℕ) (z : ℤ) → z <ℤ pos 0 → with_sign f z ≡ 45 ∷ f (nat_abs z)
sign_below f (pos n) l = absurd (none n l.lt)
  where
    none : (n : ℕ) → T (ltb n 0) → ⊥
    none n t = omega (arith, ltb→lt n 0 t)
sign_below f (negsuc n) l = refl

pub sign_above : (f : ℕ → List ℕ) (z : ℤ) → pos 0 ≤ℤ z → with_sign f z ≡ f (nat_abs z)
sign_above f (pos n) l = refl
sign_above f (negsuc n) l = absurd l.le

-- the sign, and then the size
pub sign_first : (f : ℕ → List ℕ) (z : ℤ) → with_sign f z ≡ sign z ++ f (nat_abs z)
sign_first f (pos n) = refl
sign_first f (negsuc n) = refl

-- ---- its length

pub length-sign : (f : ℕ → List ℕ) (z : ℤ) (k : ℕ) → length (f (nat_abs z)) ≤ k → length (with_sign f z) ≤ suc k
length-sign f (pos n) k h = omega arith
length-sign f (negsuc n) k h = omega arith

pub length-signed : (z : ℤ) → nat_abs z < 2 ^ 64 → length (signed_text z) ≤ 21
unfolding signed_text
length-signed z h = length-sign decimal z 20 (length-decimal 19 (nat_abs z) (omega arith))

-- ---- samples: 12, -7, 0

samples : (signed_text (pos 12) ≡ 49 ∷ 50 ∷ []) × (signed_text (negsuc 6) ≡ 45 ∷ 55 ∷ []) × (signed_text (pos 0) ≡ 48 ∷ [])
unfolding signed_text decimal digits
samples = (refl, refl, refl)
