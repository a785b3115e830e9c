-- The number that a list's bits make: one bit more at the low end, and its bound. And the bit of a number past its end.
-- Assumes nothing.
use mathlib.Core.Path.{◌≡◌, refl, ap}
use mathlib.Core.Bool.{Bool, true, false}
use mathlib.Core.List.{List, [], ◌∷◌, map}
use Prim.Native.Nat.{ℕ, suc, ◌+◌, ◌*◌, ◌-◌, ◌^◌, ◌≤◌, ◌<◌}
use native.Mathlib.Nat.{sub_self, pow-suc, div-eq_of_lt, lt_of_lt_of_le}
use native.Mathlib.Omega.{arith}
use mir.Val.{bool_byte}
use lib.ListN.{length}
use lib.Pow.{pow_mono}
use lib.Dec.{lit<}
use Rattle.circuit.specs.File.{field}
use Rattle.run_values.specs.Need.{is_true, bit, bit_of, number}
use Rattle.run_rules.specs.Layout.{named}
use Rattle.run_rules.specs.Code.{name_in}
use Rattle.run_operands.proofs.Listed.{length-named}

bit-small : (b : Bool) → bit b ≤ 1
bit-small true = omega arith
bit-small false = omega arith

-- a value as a number
pub byte-is : (b : Bool) → bool_byte b ≡ bit b
byte-is true = refl
byte-is false = refl

pub number_small : (t xs : List ℕ) → number t xs < 2 ^ length xs
unfolding number
number_small t [] = lit< tt
number_small t (x ∷ xs) = omega (arith, number_small t xs, bit-small (is_true t x), pow-suc 2 (length xs))

module _ (t b qs : List ℕ) (from bits i sum : ℕ) (some : from < i) (within : i ≤ from + bits)
    (so : sum ≡ number t (map (name_in qs) (named b i (from + bits - i)))) where
  more : (n m : ℕ) → m ≡ suc (from + bits - i) → n + 1 ≡ i
      → bit (is_true t (name_in qs (field b n 1))) + 2 * sum ≡ number t (map (name_in qs) (named b n m))
  unfolding number named
  more n m e f =
      let g : suc n ≡ i = omega arith in
      rw (e, g) (ap (λ (x : ℕ). bit (is_true t (name_in qs (field b n 1))) + 2 * x) so)

  -- a turn of the loop
  pub turn : bit (is_true t (name_in qs (field b (i - 1) 1))) + 2 * sum ≡ number t (map (name_in qs) (named b (i - 1) (from + bits - (i - 1))))
  turn = more (i - 1) (from + bits - (i - 1)) (omega arith) (omega arith)

  pub turn-fits : bits ≤ 64 → bit (is_true t (name_in qs (field b (i - 1) 1))) + 2 * sum < 2 ^ 64
  turn-fits h =
      let l : length (map (name_in qs) (named b (i - 1) (from + bits - (i - 1)))) ≤ 64 = omega (arith, length-named b qs (i - 1) (from + bits - (i - 1))) in
      rw turn (lt_of_lt_of_le (number_small t (map (name_in qs) (named b (i - 1) (from + bits - (i - 1))))) (pow_mono l))

-- no bit yet, and all bits
pub start : (t b qs : List ℕ) (from bits : ℕ) → 0 ≡ number t (map (name_in qs) (named b (from + bits) (from + bits - (from + bits))))
unfolding number named
start t b qs from bits = rw (sub_self (from + bits))

pub end : (t b qs : List ℕ) (from bits i sum : ℕ) → i ≡ from → sum ≡ number t (map (name_in qs) (named b i (from + bits - i))) → sum ≡ number t (map (name_in qs) (named b from bits))
end t b qs from bits i sum e h = let l : from + bits - from ≡ bits = omega arith in rw (e, l) at h

-- a number of 64 bits has no bit from the 64th on
pub no-bit : (n i : ℕ) → n < 2 ^ 64 → 64 ≤ i → false ≡ bit_of i n
no-bit n i h l = rw (div-eq_of_lt (lt_of_lt_of_le h (pow_mono l)))
