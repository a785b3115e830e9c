-- Counts of halves in the text: `-` where negative, the whole part, `.5` where odd. "Halves print as `2.5`."
-- Two counts with one spelling are equal, and none is spelled `-0`.
-- Assumes nothing.
use Rattle.std.specs.Prelude.{◌≡◌, refl, Bool, true, false, List, [], ◌∷◌, ◌++◌, ℕ, zero, suc, ◌/◌, ◌%◌, ◌^◌, ◌≤◌, ◌<◌, eqb, ℤ, pos, negsuc, nat_abs, length}
use Rattle.std.proofs.Common.{sym, ap, ◌∙◌, subst, true≢false, append-nil, arith, length-append, eq-eqb, ne_eqb}
use Rattle.std.proofs.lemmas.Bool.{false≢true}
use Rattle.text.specs.Bytes.{All, Stops, split}
use Rattle.text.specs.Signed.{with_sign, length-sign}
use Rattle.text.specs.Decimal.{decimal, digits, is_digit, decimal-digits, decimal_injective, length-decimal}

-- `.5` where the count is odd
abbrev pub point : Bool → List ℕ
point true = 46 ∷ 53 ∷ []
point false = []

-- n halves
unfoldable pub half_text : ℕ → List ℕ
half_text n = decimal (n / 2) ++ point (eqb (n % 2) 1)

-- a signed count of halves
unfoldable pub halves_text : ℤ → List ℕ
halves_text h = with_sign half_text h

pub half-odd : (n : ℕ) → n % 2 ≡ 1 → half_text n ≡ decimal (n / 2) ++ (46 ∷ 53 ∷ [])
unfolding half_text
half-odd n h = simp (eq-eqb (n % 2) 1 h)

pub half-even : (n : ℕ) → (n % 2 ≡ 1 → ⊥) → half_text n ≡ decimal (n / 2)
unfolding half_text
half-even n h = simp (ne_eqb (n % 2) 1 h) (append-nil (decimal (n / 2)))

-- ---- the only spelling

point-stops : (b : Bool) → Stops is_digit (point b)
point-stops true = refl
point-stops false = tt

half-split : (m n : ℕ) → half_text m ≡ half_text n → (decimal (m / 2) ≡ decimal (n / 2)) × (point (eqb (m % 2) 1) ≡ point (eqb (n % 2) 1))
unfolding half_text
half-split m n e =
    split is_digit (decimal (m / 2)) (decimal (n / 2)) (point (eqb (m % 2) 1)) (point (eqb (n % 2) 1)) (decimal-digits (m / 2)) (decimal-digits (n / 2))
    (point-stops (eqb (m % 2) 1))
    (point-stops (eqb (n % 2) 1)) e

same_point : (a b : Bool) → point a ≡ point b → a ≡ b
same_point true true e = refl
same_point true false e = let z : true ≡ false = cc in z
same_point false true e = let z : false ≡ true = cc in z
same_point false false e = refl

same_rest : (a b : ℕ) → a < 2 → b < 2 → eqb a 1 ≡ eqb b 1 → a ≡ b
same_rest zero zero h k e = refl
same_rest zero (suc zero) h k e = let z : false ≡ true = e in absurd (false≢true z)
same_rest zero (suc (suc b)) h k e = absurd (omega arith)
same_rest (suc zero) zero h k e = let z : true ≡ false = e in absurd (true≢false z)
same_rest (suc zero) (suc zero) h k e = refl
same_rest (suc zero) (suc (suc b)) h k e = absurd (omega arith)
same_rest (suc (suc a)) b h k e = absurd (omega arith)

pub half-injective : (m n : ℕ) → half_text m ≡ half_text n → m ≡ n
half-injective m n e =
    let parts = half-split m n e in
    let whole : m / 2 ≡ n / 2 = decimal_injective (m / 2) (n / 2) parts.0 in
    let rest : m % 2 ≡ n % 2 = same_rest (m % 2) (n % 2) (omega arith) (omega arith) (same_point (eqb (m % 2) 1) (eqb (n % 2) 1) parts.1) in
    omega (arith, whole, rest)

-- no count of halves without a sign begins with one
no_sign : (d s : List ℕ) (b : Bool) → All is_digit d → d ++ point b ≡ 45 ∷ s → ⊥
no_sign [] s true a e = let z : ◌≡◌ {A = ℕ} 46 45 = cc in omega arith
no_sign [] s false a e = let z : true ≡ false = cc in true≢false z
no_sign (x ∷ d) s b a e = let z : x ≡ 45 = cc in false≢true (subst (λ (x : ℕ). is_digit x ≡ true) z a.0)

half-no-sign : (n : ℕ) (s : List ℕ) → half_text n ≡ 45 ∷ s → ⊥
unfolding half_text
half-no-sign n s e = no_sign (decimal (n / 2)) s (eqb (n % 2) 1) (decimal-digits (n / 2)) e

-- Theorem: two counts of halves with one spelling are equal.
pub halves-injective : (h k : ℤ) → halves_text h ≡ halves_text k → h ≡ k
unfolding halves_text
halves-injective (pos m) (pos n) e = ap pos (half-injective m n e)
halves-injective (pos m) (negsuc n) e = absurd (half-no-sign m (half_text (suc n)) e)
halves-injective (negsuc m) (pos n) e = absurd (half-no-sign n (half_text (suc m)) (sym e))
halves-injective (negsuc m) (negsuc n) e =
    let t : half_text (suc m) ≡ half_text (suc n) = cc in
    ap negsuc (omega (arith, half-injective (suc m) (suc n) t))

zero-text : half_text 0 ≡ 48 ∷ []
unfolding half_text decimal digits
zero-text = refl

-- Theorem: `-0` is no count's spelling.
pub not-minus-zero : (h : ℤ) → halves_text h ≡ 45 ∷ 48 ∷ [] → ⊥
unfolding halves_text
not-minus-zero (pos n) e = half-no-sign n (48 ∷ []) e
not-minus-zero (negsuc n) e =
    let t : half_text (suc n) ≡ 48 ∷ [] = cc in
    let z : suc n ≡ 0 = half-injective (suc n) 0 (t ∙ sym zero-text) in
    omega arith

-- ---- its length

length-point : (b : Bool) → length (point b) ≤ 2
length-point true = omega arith
length-point false = omega arith

length-half : (n : ℕ) → n < 2 ^ 64 → length (half_text n) ≤ 21
unfolding half_text
length-half n h =
    omega (arith, length-append (decimal (n / 2)) (point (eqb (n % 2) 1)), length-point (eqb (n % 2) 1), length-decimal 18 (n / 2) (omega arith))

pub length-halves : (h : ℤ) → nat_abs h < 2 ^ 64 → length (halves_text h) ≤ 22
unfolding halves_text
length-halves h l = length-sign half_text h 21 (length-half (nat_abs h) l)

-- ---- samples: 6, -4, 2.5, -1.5, -0.5, 0

samples : (halves_text (pos 12) ≡ 54 ∷ []) × (halves_text (negsuc 7) ≡ 45 ∷ 52 ∷ []) × (halves_text (pos 5) ≡ 50 ∷ 46 ∷ 53 ∷ []) × (halves_text (negsuc 2) ≡ 45 ∷ 49 ∷ 46 ∷ 53 ∷ [])
    × (halves_text (negsuc 0) ≡ 45 ∷ 48 ∷ 46 ∷ 53 ∷ []) × (halves_text (pos 0) ≡ 48 ∷ [])
unfolding halves_text half_text decimal digits
samples = (refl, refl, refl, refl, refl, refl)
