-- The float of a count of halves. For |h| below 2 ^ 53, which holds of every energy of this project, `halves_of h` is h / 2 exactly (`exact`).
-- Assumes nothing.
use Rattle.std.specs.Prelude.{◌≡◌, ℕ, suc, ◌*◌, ◌^◌, ◌<◌, Bool, true, false, ℤ, pos, negsuc, ◌≢◌, unsigned_abs, refl, Float}
use Rattle.std.proofs.Common.{sym, ap, ◌∙◌, subst, true≢false, le_of_lt, lt_of_lt_of_le, mul_assoc, mul-pos, zero-mul, arith, lit<, lit≤, shl_lt}
use Rattle.std.proofs.Math.Path.{subst⁻¹}
use Rattle.std.proofs.lemmas.Bool.{false≢true}
use Rattle.std.proofs.Math.Nat.{eq_of_mul-eq-mul_right}
use Rattle.std.specs.Float.{nan, inf, fin, binary64}
use Rattle.std.specs.Float.Ieee.{round, mul, of_int, of_bits, up, down, unlike}
use Rattle.std.specs.Float.Ieee.Exact.{HasValue, round_exact}
use Rattle.std.specs.Float.Ieee.Back.{round_whole}
use Rattle.std.specs.Float.Ieee.Scale.{round_same}
use Rattle.std.specs.Float.Ieee.Fits.{down_pos}
use Rattle.units.specs.declared.Form.{Form}
use Rattle.units.specs.declared.Energy.{Energy}

abbrev pub negative : ℤ → Bool
negative (pos n) = false
negative (negsuc n) = true

-- 0.5
abbrev one_half : Float
one_half = of_bits binary64 0x3fe0_0000_0000_0000

-- the f64 nearest to h, times one half
unfoldable pub halves_of : ℤ → Float
halves_of h = mul binary64 (of_int binary64 h) one_half

-- "Each energy comes back as one record: the f64, its signed count of halves, and the form."
abbrev pub energy_of : ℤ → Form → Energy
energy_of h form = record { value = halves_of h; halves = h; form = form }

-- ---- it is h / 2, rounded once
unlike-plus : (s : Bool) → unlike s false ≡ s
unlike-plus true = refl
unlike-plus false = refl

-- a float that is a whole number n in size, times one half
times-half : (x : Float) (s : Bool) (n : ℕ) → HasValue x s n 1 → mul binary64 x (fin false 1 (negsuc 0)) ≡ round binary64 s n 2
unfolding mul
times-half nan s n v = absurd v
times-half (inf t) s n v = absurd v
times-half (fin t m e) s n v =
    ap (λ (b : Bool). round binary64 b (m * up e * 1) (down e * 2)) (unlike-plus t ∙ v.0)
    ∙ round_same binary64 s (m * up e * 1) (down e * 2) n 2 (mul-pos (down_pos e) (lit< tt)) (lit< tt)
    (ap (λ (x : ℕ). x * 2) v.1 ∙ mul_assoc n (down e) 2)

half : one_half ≡ fin false 1 (negsuc 0)
unfolding of_bits
half = refl

whole : (h : ℤ) → unsigned_abs h < 2 ^ 53 → HasValue (of_int binary64 h) (negative h) (unsigned_abs h) 1
unfolding of_int
whole (pos n) small = round_whole binary64 false n (le_of_lt small)
whole (negsuc n) small = round_whole binary64 true (suc n) (le_of_lt small)

rounded-once : (h : ℤ) → unsigned_abs h < 2 ^ 53 → halves_of h ≡ round binary64 (negative h) (unsigned_abs h) 2
unfolding halves_of
rounded-once h small = ap (mul binary64 (of_int binary64 h)) half ∙ times-half (of_int binary64 h) (negative h) (unsigned_abs h) (whole h small)

-- Theorem: its value is h / 2: finite, of h's sign, and |h| / 2 in size.
pub exact : (h : ℤ) → unsigned_abs h < 2 ^ 53 → HasValue (halves_of h) (negative h) (unsigned_abs h) 2
exact h small =
    subst⁻¹ (λ (x : Float). HasValue x (negative h) (unsigned_abs h) 2) (rounded-once h small)
    (round_exact binary64 (negative h) (unsigned_abs h) 2 (unsigned_abs h) 1073 (lit< tt) small
    (lt_of_lt_of_le (shl_lt 53 1073 small) (lit≤ tt))
    (sym (mul_assoc (unsigned_abs h) (2 ^ 1073) 2)))

-- ---- the float tells the count: two counts with one float are equal
signed-eq : (h k : ℤ) → negative h ≡ negative k → unsigned_abs h ≡ unsigned_abs k → h ≡ k
signed-eq (pos m) (pos n) s e = ap pos e
signed-eq (pos m) (negsuc n) s e = absurd (false≢true s)
signed-eq (negsuc m) (pos n) s e = absurd (true≢false s)
signed-eq (negsuc m) (negsuc n) s e = ap negsuc (omega arith)

same-value : (x : Float) (h k : ℤ) → HasValue x (negative h) (unsigned_abs h) 2 → HasValue x (negative k) (unsigned_abs k) 2 → h ≡ k
same-value nan h k v w = absurd v
same-value (inf t) h k v w = absurd v
same-value (fin t m e) h k v w =
    signed-eq h k (sym v.0 ∙ w.0) (eq_of_mul-eq-mul_right (down e) (down_pos e) (unsigned_abs h) (unsigned_abs k) (sym v.1 ∙ w.1))

-- Theorem: the float tells the count.
pub halves-injective : (h k : ℤ) → unsigned_abs h < 2 ^ 53 → unsigned_abs k < 2 ^ 53 → halves_of h ≡ halves_of k → h ≡ k
halves-injective h k p q e = same-value (halves_of k) h k (subst (λ (x : Float). HasValue x (negative h) (unsigned_abs h) 2) e (exact h p)) (exact k q)

-- ---- it is never -0
zero-size : (x d : ℕ) → 0 ≡ suc x * d → 0 < d → ⊥
zero-size x d e h = let q : 0 < suc x = omega arith in let p : 0 < suc x * d = mul-pos q h in omega arith

minus-zero : (h : ℤ) (e : ℤ) → HasValue (fin true 0 e) (negative h) (unsigned_abs h) 2 → ⊥
minus-zero (pos n) e v = true≢false v.0
minus-zero (negsuc n) e v = zero-size n (down e) (sym (ap (λ (x : ℕ). x * 2) (zero-mul (up e))) ∙ v.1) (down_pos e)

-- Theorem: no count of halves becomes -0.
pub not-minus-zero : (h : ℤ) → unsigned_abs h < 2 ^ 53 → (e : ℤ) → halves_of h ≢ fin true 0 e
not-minus-zero h small e p = minus-zero h e (subst (λ (x : Float). HasValue x (negative h) (unsigned_abs h) 2) p (exact h small))

-- ---- samples: -1.5, 0.5, 2.5, 0
samples : (halves_of (negsuc 2) ≡ fin true 3 (negsuc 0)) × (halves_of (pos 1) ≡ fin false 1 (negsuc 0)) × (halves_of (pos 5) ≡ fin false 5 (negsuc 0)) × (halves_of (pos 0) ≡ fin false 0 (pos 0))
unfolding round halves_of mul of_int of_bits
samples = (refl, refl, refl, refl)
