-- Decimal numbers: digits without a leading zero, "0" for 0. A number's spelling is its only one.
-- Assumes nothing.
use Rattle.std.specs.Prelude.{◌≡◌, refl, Bool, true, false, ◌&&◌, List, [], ◌∷◌, ◌++◌, ℕ, zero, suc, ◌+◌, ◌-◌, ◌*◌, ◌/◌, ◌%◌, ◌^◌, ◌≤◌, ◌<◌, ltb, leb, length}
use Rattle.std.proofs.Common.{sym, ap, ◌∙◌, subst, pow-suc, arith, length-append, ltb-true, ltb-false, lt-ltb, le-ltb, le-leb}
use Rattle.text.specs.Bytes.{All, all_append}

-- the byte of a digit
abbrev pub digit : ℕ → ℕ
digit d = 48 + d

-- the digits of a number, highest first; the first argument is a bound on their count
unfoldable pub digits : ℕ → ℕ → List ℕ
digits zero n = []
digits (suc f) n = elim (ltb n 10) [ true ↦ digit n ∷ [] | false ↦ digits f (n / 10) ++ (digit (n % 10) ∷ []) ]

-- a number's spelling
unfoldable pub decimal : ℕ → List ℕ
decimal n = digits (suc n) n

digits-small : (f n : ℕ) → n < 10 → digits (suc f) n ≡ digit n ∷ []
unfolding digits
digits-small f n h = rw (lt-ltb n 10 h, digits)

digits-large : (f n : ℕ) → 10 ≤ n → digits (suc f) n ≡ digits f (n / 10) ++ (digit (n % 10) ∷ [])
unfolding digits
digits-large f n h = rw (le-ltb n 10 h, digits)

-- a choice between a number of one digit and a longer one
pub by_size : (n : ℕ) (P : Type 0) → (n < 10 → P) → (10 ≤ n → P) → P
by_size n P one more = pick (ltb n 10) refl
  where
    pick : (b : Bool) → ltb n 10 ≡ b → P
    pick true e = one (omega (arith, ltb-true n 10 e))
    pick false e = more (omega (arith, ltb-false n 10 e))

-- the bound does not matter
digits_same : (f g n : ℕ) → n < f → n < g → digits f n ≡ digits g n
digits_same zero g n h k = absurd (omega arith)
digits_same (suc f) zero n h k = absurd (omega arith)
digits_same (suc f) (suc g) n h k =
    by_size n (digits (suc f) n ≡ digits (suc g) n) (λ s. digits-small f n s ∙ sym (digits-small g n s))
    (λ l.
    digits-large f n l
    ∙ ap (λ (d : List ℕ). d ++ (digit (n % 10) ∷ [])) (digits_same f g (n / 10) (omega arith) (omega arith))
    ∙ sym (digits-large g n l))

-- A number below 10 is its digit.
pub decimal-small : (n : ℕ) → n < 10 → decimal n ≡ digit n ∷ []
unfolding decimal
decimal-small n h = digits-small n n h

-- Any other is its tens, and then its last digit.
pub decimal-large : (n : ℕ) → 10 ≤ n → decimal n ≡ decimal (n / 10) ++ (digit (n % 10) ∷ [])
unfolding decimal
decimal-large n h =
    digits-large n n h ∙ ap (λ (d : List ℕ). d ++ (digit (n % 10) ∷ [])) (digits_same n (suc (n / 10)) (n / 10) (omega arith) (omega arith))

-- what holds of a number below 10, and of a number if it holds of its tens, holds of each
pub by-tens : (P : ℕ → Type 0) → ((n : ℕ) → n < 10 → P n) → ((n : ℕ) → 10 ≤ n → P (n / 10) → P n) → (n : ℕ) → P n
by-tens P one more n = go (suc n) n (omega arith)
  where
    go : (f n : ℕ) → n < f → P n
    go zero n h = absurd (omega arith)
    go (suc f) n h = by_size n (P n) (one n) (λ l. more n l (go f (n / 10) (omega arith)))

-- ---- the number that digits say

unfoldable pub value_from : ℕ → List ℕ → ℕ
value_from n [] = n
value_from n (d ∷ s) = value_from (n * 10 + (d - 48)) s

abbrev pub value : List ℕ → ℕ
value s = value_from 0 s

value-snoc : (n : ℕ) (s : List ℕ) (d : ℕ) → value_from n (s ++ (digit d ∷ [])) ≡ value_from n s * 10 + d
unfolding value_from
value-snoc n [] d = omega arith
value-snoc n (x ∷ s) d = value-snoc (n * 10 + (x - 48)) s d

value-one : (n : ℕ) → value (digit n ∷ []) ≡ n
unfolding value_from
value-one n = omega arith

-- Theorem: a spelling says its number.
pub value-decimal : (n : ℕ) → value (decimal n) ≡ n
value-decimal =
    by-tens (λ (n : ℕ). value (decimal n) ≡ n) (λ n h. ap value (decimal-small n h) ∙ value-one n)
    (λ n h r. ap value (decimal-large n h) ∙ value-snoc 0 (decimal (n / 10)) (n % 10) ∙ omega (arith, r))

-- Theorem: two numbers with one spelling are equal.
pub decimal_injective : (m n : ℕ) → decimal m ≡ decimal n → m ≡ n
decimal_injective m n e = sym (value-decimal m) ∙ ap value e ∙ value-decimal n

-- ---- its bytes

abbrev pub is_digit : ℕ → Bool
is_digit b = leb 48 b && leb b 57

digit-is : (d : ℕ) → d < 10 → is_digit (digit d) ≡ true
digit-is d h = simp (le-leb 48 (48 + d) (omega arith), le-leb (48 + d) 57 (omega arith))

-- Theorem: spelled bytes are digits.
pub decimal-digits : (n : ℕ) → All is_digit (decimal n)
decimal-digits =
    by-tens (λ (n : ℕ). All is_digit (decimal n)) (λ n h. subst (All is_digit) (sym (decimal-small n h)) (digit-is n h, tt))
    (λ n h r.
    subst (All is_digit) (sym (decimal-large n h)) (all_append is_digit (decimal (n / 10)) (digit (n % 10) ∷ []) r (digit-is (n % 10) (omega arith), tt)))

-- ---- its length

length-snoc : (s : List ℕ) (b : ℕ) → length (s ++ (b ∷ [])) ≡ length s + 1
length-snoc s b = length-append s (b ∷ [])

-- a number below 10 ^ (k + 1) has at most k + 1 digits
pub length-decimal : (k n : ℕ) → n < 10 ^ suc k → length (decimal n) ≤ suc k
length-decimal zero n h = rw (decimal-small n h) (omega arith)
length-decimal (suc k) n h =
    by_size n (length (decimal n) ≤ suc (suc k)) (λ s. rw (decimal-small n s) (omega arith))
    (λ l. rw (decimal-large n l, length-snoc) (omega (arith, length-decimal k (n / 10) (omega (arith, pow-suc 10 (suc k))))))

-- ---- samples

samples : (decimal 0 ≡ 48 ∷ []) × (decimal 9 ≡ 57 ∷ []) × (decimal 10 ≡ 49 ∷ 48 ∷ []) × (decimal 4096 ≡ 52 ∷ 48 ∷ 57 ∷ 54 ∷ [])
unfolding decimal digits
samples = (refl, refl, refl, refl)

largest : value (decimal 18446744073709551615) ≡ 18446744073709551615
unfolding decimal digits value_from
largest = refl
