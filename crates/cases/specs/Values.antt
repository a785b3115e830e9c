-- The values of a case: "8 bytes for each value, all little endian".
-- Assumes nothing.
use Rattle.std.specs.Prelude.{ℕ, zero, suc, ◌+◌, ◌-◌, ◌*◌, ◌/◌, min, List, [], ◌∷◌, ◌++◌, ◌≡◌, refl, ltb, ℤ, pos, negsuc, length, take, drop, replicate}
use Rattle.std.proofs.Common.{arith, length-append}
use Rattle.circuit.specs.File.{either, word}

-- the number that 64 bits are in two's complement
abbrev pub signed_of : ℕ → ℤ
signed_of u = either (ltb u 9223372036854775808) (pos u) (negsuc (18446744073709551615 - u))

-- the value of the eight bytes from a place on
abbrev pub value_at : List ℕ → ℕ → ℤ
value_at s at = signed_of (word s at + 4294967296 * word s (at + 4))

-- the first n values
unfoldable pub values_of : List ℕ → ℕ → List ℤ
values_of s zero = []
values_of s (suc n) = values_of s n ++ (value_at s (8 * n) ∷ [])

-- how many of n values have all their bytes and an entry
abbrev pub count_in : List ℕ → ℕ → List ℤ → ℕ
count_in s n table = min n (min (length s / 8) (length table))

-- the table with the first n values at its front, as many as there are and as it has room for; entries past them stay
unfoldable pub values_into : List ℕ → ℕ → List ℤ → List ℤ
values_into s n table = values_of s (count_in s n table) ++ drop (count_in s n table) table

-- The values of a run, of the bytes behind its circuit. No circuit has more than 64 inputs, so 65 values are another count than any circuit's, as are more.
unfoldable pub given_of : List ℕ → ℕ → List ℤ
given_of s count = take (min count 65) (values_into s (min count 65) (replicate 65 (pos 0)))

-- as many values as are asked for
pub length-values : (s : List ℕ) (n : ℕ) → length (values_of s n) ≡ n
unfolding values_of
length-values s zero = refl
length-values s (suc n) = omega (arith, length-append (values_of s n) (value_at s (8 * n) ∷ []), length-values s n)
