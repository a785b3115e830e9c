-- A value as a user writes it. It is read as Rust's `i64::from_str` reads it: an optional `+` or `-`, then one or more digits, and the number is an i64's.
-- Anything else says no value.
-- Assumes nothing.
use Rattle.std.specs.Prelude.{◌≡◌, refl, Bool, true, ◌&&◌, cond, List, [], ◌∷◌, ℕ, ◌-◌, ◌^◌, eqb, ltb, leb, ℤ, pos, negsuc, neg_ℤ, length}
use Rattle.std.proofs.Common.{sym, ◌∙◌, Option, Some, None}
use Rattle.text.specs.Bytes.{bytes}
use Rattle.text.specs.Decimal.{is_digit, value, value_from}

-- every byte is a digit
unfoldable pub are_digits : List ℕ → Bool
are_digits [] = true
are_digits (b ∷ s) = is_digit b && are_digits s

-- one or more digits that say a number up to `most`
abbrev pub says_up_to : ℕ → List ℕ → Bool
says_up_to most s = ltb 0 (length s) && (are_digits s && leb (value s) most)

unfoldable pub digits_up_to : ℕ → List ℕ → Option ℕ
digits_up_to most s = cond (says_up_to most s) (Some (value s)) None

-- what follows no sign or `+`, and what follows `-`
unfoldable pub positive_of : List ℕ → Option ℤ
positive_of s = cond (says_up_to (2 ^ 63 - 1) s) (Some (pos (value s))) None

unfoldable pub negative_of : List ℕ → Option ℤ
negative_of s = cond (says_up_to (2 ^ 63) s) (Some (neg_ℤ (pos (value s)))) None

-- by the first byte, of which 45 is `-` and 43 is `+`
unfoldable pub value_of : List ℕ → Option ℤ
value_of [] = None
value_of (b ∷ s) = cond (eqb b 45) (negative_of s) (cond (eqb b 43) (positive_of s) (positive_of (b ∷ s)))

-- Two answers that the promise allows are equal.
pub determined : (s : List ℕ) (x y : Option ℤ) → x ≡ value_of s → y ≡ value_of s → x ≡ y
determined s x y e f = e ∙ sym f

-- ---- samples: signs, zeros, the ends of an i64, and what is no value

samples : (value_of (bytes "3") ≡ Some (pos 3)) × (value_of (bytes "+3") ≡ Some (pos 3)) × (value_of (bytes "-4") ≡ Some (negsuc 3)) × (value_of (bytes "-0") ≡ Some (pos 0)) × (value_of (bytes "007") ≡ Some (pos 7))
unfolding value_of positive_of negative_of are_digits value_from
samples = (refl, refl, refl, refl, refl)

ends : (value_of (bytes "9223372036854775807") ≡ Some (pos 9223372036854775807)) × (value_of (bytes "-9223372036854775808") ≡ Some (negsuc 9223372036854775807))
    × (value_of (bytes "9223372036854775808") ≡ None) × (value_of (bytes "-9223372036854775809") ≡ None) × (value_of (bytes "18446744073709551617") ≡ None)
unfolding value_of positive_of negative_of are_digits value_from
ends = (refl, refl, refl, refl, refl)

none : (value_of [] ≡ None) × (value_of (bytes "-") ≡ None) × (value_of (bytes "+") ≡ None) × (value_of (bytes "+-3") ≡ None) × (value_of (bytes "3 ") ≡ None) × (value_of (bytes "abc") ≡ None) × (value_of (bytes "0x10") ≡ None)
unfolding value_of positive_of negative_of are_digits value_from
none = (refl, refl, refl, refl, refl, refl, refl)
