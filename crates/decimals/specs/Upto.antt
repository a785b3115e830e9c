-- Digits taken in one by one: what a number so far, and the bytes left, come to.
-- Assumes nothing.
use Rattle.std.specs.Prelude.{◌≡◌, refl, Bool, true, false, ◌&&◌, cond, List, [], ◌∷◌, ℕ, ◌+◌, ◌-◌, ◌*◌, ◌^◌, ◌≤◌, ◌<◌, ltb, leb, pos, neg_ℤ, length, take, drop, get_or}
use Rattle.std.proofs.Common.{Option, Some, None, ap, true≢false, arith, take_all, lt-ltb, le-leb, leb-true, eq-eqb, ne_eqb}
use Rattle.std.proofs.lemmas.Bool.{false≢true, lt-leb}
use Rattle.text.specs.Decimal.{value, value_from}
use Rattle.decimals.specs.Value.{are_digits, says_up_to, digits_up_to, positive_of, negative_of, value_of}

unfoldable pub up_to : ℕ → ℕ → List ℕ → Option ℕ
up_to most n s = cond (are_digits s && leb (value_from n s) most) (Some (value_from n s)) None

pub up-to-start : (most : ℕ) (s : List ℕ) → 0 < length s → digits_up_to most s ≡ up_to most 0 s
unfolding digits_up_to up_to
up-to-start most s h = rw (lt-ltb 0 (length s) h)

-- no digits say no number
pub up-to-none : (most : ℕ) (s : List ℕ) → length s ≡ 0 → digits_up_to most s ≡ None
unfolding digits_up_to
up-to-none most [] h = refl
up-to-none most (b ∷ s) h = absurd (omega arith)

-- nothing is left
pub up-to-end : (most n : ℕ) → n ≤ most → up_to most n [] ≡ Some n
unfolding up_to are_digits value_from
up-to-end most n h = rw (le-leb n most h)

-- a digit that keeps the number within the bound
pub up-to-digit : (most n b : ℕ) (s : List ℕ) → 48 ≤ b → b ≤ 57 → up_to most n (b ∷ s) ≡ up_to most (n * 10 + (b - 48)) s
unfolding up_to are_digits value_from
up-to-digit most n b s low high = rw (le-leb 48 b low, le-leb b 57 high)

-- a byte that is no digit
pub up-to-below : (most n b : ℕ) (s : List ℕ) → b < 48 → up_to most n (b ∷ s) ≡ None
unfolding up_to are_digits
up-to-below most n b s h = rw (lt-leb 48 b h)

pub up-to-above : (most n b : ℕ) (s : List ℕ) → 57 < b → up_to most n (b ∷ s) ≡ None
unfolding up_to are_digits
up-to-above most n b s h = rw (le-leb 48 b (omega arith), lt-leb b 57 h)

-- more digits say no less
grows : (n : ℕ) (s : List ℕ) → n ≤ value_from n s
unfolding value_from
grows n [] = omega arith
grows n (b ∷ s) = omega (arith, grows (n * 10 + (b - 48)) s)

neither : (a : Bool) (x y : Option ℕ) → cond (a && false) x y ≡ y
neither true x y = refl
neither false x y = refl

-- a number past the bound stays past it
pub up-to-large : (most n : ℕ) (s : List ℕ) → most < n → up_to most n s ≡ None
unfolding up_to
up-to-large most n s h = rw (lt-leb (value_from n s) most (omega (arith, grows n s))) (neither (are_digits s) _ _)

-- ---- by what reading the digits answered

both : (a b : Bool) → a && b ≡ true → b ≡ true
both true b e = e
both false b e = absurd (false≢true e)

module _ (most : ℕ) (s : List ℕ) where
  pick : (t : Bool) (v n : ℕ) → cond t (Some v) None ≡ Some n → (t ≡ true) × (v ≡ n)
  pick true v n e = (refl, cc)
  pick false v n e = let z : true ≡ false = cc in absurd (true≢false z)

  drop-it : (t : Bool) (v : ℕ) → cond t (Some v) None ≡ None → t ≡ false
  drop-it true v e = let z : true ≡ false = cc in absurd (true≢false z)
  drop-it false v e = refl

  -- a number: the value of the bytes, within the bound
  pub told : (n : ℕ) → digits_up_to most s ≡ Some n → (says_up_to most s ≡ true) × (value s ≡ n)
  unfolding digits_up_to
  told n e = pick (says_up_to most s) (value s) n e

  pub told-bound : (n : ℕ) → digits_up_to most s ≡ Some n → n ≤ most
  told-bound n e =
      let t = told n e in
      omega (arith, t.1, leb-true (value s) most (both (are_digits s) _ (both (ltb 0 (length s)) _ t.0)))

  pub told_none : digits_up_to most s ≡ None → says_up_to most s ≡ false
  unfolding digits_up_to
  told_none e = drop-it (says_up_to most s) (value s) e

pub positive-is : (s : List ℕ) (n : ℕ) → digits_up_to (2 ^ 63 - 1) s ≡ Some n → Some (pos n) ≡ positive_of s
unfolding positive_of
positive-is s n e = let t = told (2 ^ 63 - 1) s n e in rw (t.0, t.1)

pub positive-none : (s : List ℕ) → digits_up_to (2 ^ 63 - 1) s ≡ None → None ≡ positive_of s
unfolding positive_of
positive-none s e = rw (told_none (2 ^ 63 - 1) s e)

pub negative-is : (s : List ℕ) (n : ℕ) → digits_up_to (2 ^ 63) s ≡ Some n → Some (neg_ℤ (pos n)) ≡ negative_of s
unfolding negative_of
negative-is s n e = let t = told (2 ^ 63) s n e in rw (t.0, t.1)

pub negative-none : (s : List ℕ) → digits_up_to (2 ^ 63) s ≡ None → None ≡ negative_of s
unfolding negative_of
negative-none s e = rw (told_none (2 ^ 63) s e)

-- ---- by the first byte

pub value_none : (s : List ℕ) → length s ≡ 0 → None ≡ value_of s
unfolding value_of
value_none [] h = refl
value_none (b ∷ s) h = absurd (omega arith)

-- the bytes after the first, as the code names them
after : (b : ℕ) (s : List ℕ) → take (length (b ∷ s) - 1) (drop 1 (b ∷ s)) ≡ s
after b s = take_all (length (b ∷ s) - 1) s (omega arith)

pub value-minus : (s : List ℕ) → 0 < length s → get_or s 0 0 ≡ 45 → negative_of (take (length s - 1) (drop 1 s)) ≡ value_of s
unfolding value_of
value-minus [] h e = absurd (omega arith)
value-minus (b ∷ s) h e = rw (eq-eqb b 45 e) (ap negative_of (after b s))

pub value-plus : (s : List ℕ) → 0 < length s → (get_or s 0 0 ≡ 45 → ⊥) → get_or s 0 0 ≡ 43 → positive_of (take (length s - 1) (drop 1 s)) ≡ value_of s
unfolding value_of
value-plus [] h n e = absurd (omega arith)
value-plus (b ∷ s) h n e = rw (ne_eqb b 45 n, eq-eqb b 43 e) (ap positive_of (after b s))

pub value-plain : (s : List ℕ) → 0 < length s → (get_or s 0 0 ≡ 45 → ⊥) → (get_or s 0 0 ≡ 43 → ⊥) → positive_of s ≡ value_of s
unfolding value_of
value-plain [] h n m = absurd (omega arith)
value-plain (b ∷ s) h n m = rw (ne_eqb b 45 n, ne_eqb b 43 m)
