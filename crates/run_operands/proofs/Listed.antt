-- The operands by number: those of the rule itself, then the bits of the two lists.
-- Assumes nothing.
use mathlib.Core.Path.{◌≡◌, refl, sym, ap, ◌∙◌}
use mathlib.Core.List.{List, ◌++◌, map}
use Prim.Native.Nat.{ℕ, zero, suc, ◌+◌, ◌-◌, ◌≤◌, ◌<◌}
use native.Mathlib.Omega.{arith}
use lib.ListN.{length, get_or, take, length-append, get_or-append}
use lib.Seq.{get_or-append-add}
use Rattle.circuit.specs.File.{field}
use Rattle.run_rules.specs.declared.Few.{Few}
use Rattle.run_rules.specs.declared.Operands.{Operands}
use Rattle.run_rules.specs.Layout.{named}
use Rattle.run_rules.specs.Code.{name_in, three, few_at, bits_at, read, count_of}

pub length-named : (b qs : List ℕ) (n m : ℕ) → length (map (name_in qs) (named b n m)) ≡ m
unfolding named
length-named b qs n zero = refl
length-named b qs n (suc m) = ap suc (length-named b qs (suc n) m)

at_named : (b qs : List ℕ) (n m j : ℕ) → j < m → get_or (map (name_in qs) (named b n m)) j 0 ≡ name_in qs (field b (n + j) 1)
unfolding named
at_named b qs n zero j h = absurd (omega arith)
at_named b qs n (suc m) zero h = ap (λ (k : ℕ). name_in qs (field b k 1)) (omega arith)
at_named b qs n (suc m) (suc j) h = at_named b qs (suc n) m j (omega arith) ∙ ap (λ (k : ℕ). name_in qs (field b k 1)) (omega arith)

length-few : (f : Few) → f.n ≤ 3 → length (take f.n (three f)) ≡ f.n
length-few f h = go f.n h
  where
    go : (n : ℕ) → n ≤ 3 → length (take n (three f)) ≡ n
    go zero h = refl
    go (suc zero) h = refl
    go (suc (suc zero)) h = refl
    go (suc (suc (suc zero))) h = refl
    go (suc (suc (suc (suc n)))) h = absurd (omega arith)

at-few : (f : Few) (i : ℕ) → i < f.n → f.n ≤ 3 → get_or (take f.n (three f)) i 0 ≡ (few_at f i).0
at-few f i l h = go f.n i l h
  where
    go : (n i : ℕ) → i < n → n ≤ 3 → get_or (take n (three f)) i 0 ≡ (few_at f i).0
    go zero i l h = absurd (omega arith)
    go (suc n) zero l h = refl
    go (suc zero) (suc i) l h = absurd (omega arith)
    go (suc (suc n)) (suc zero) l h = refl
    go (suc (suc zero)) (suc (suc i)) l h = absurd (omega arith)
    go (suc (suc (suc n))) (suc (suc zero)) l h = refl
    go (suc (suc (suc zero))) (suc (suc (suc i))) l h = absurd (omega arith)
    go (suc (suc (suc (suc n)))) (suc (suc (suc i))) l h = absurd (omega arith)

pub length-read : (b qs : List ℕ) (o : Operands) → o.few.n ≤ 3 → length (read b qs o) ≡ count_of o
unfolding read
length-read b qs o h =
    simp length-append (omega (arith, length-few o.few h, length-named b qs o.first.from o.first.bits, length-named b qs o.second.from o.second.bits))

pub read-few : (b qs : List ℕ) (o : Operands) (i : ℕ) → o.few.n ≤ 3 → i < o.few.n → get_or (read b qs o) i 0 ≡ (few_at o.few i).0
unfolding read
read-few b qs o i h l =
    get_or-append (take o.few.n (three o.few)) _ 0 i (omega (arith, length-few o.few h)) ∙ at-few o.few i l h

module _ (b qs : List ℕ) (o : Operands) (h : o.few.n ≤ 3) where
  past-few : (j : ℕ) → get_or (read b qs o) (o.few.n + j) 0 ≡ get_or (bits_at b qs o.first ++ bits_at b qs o.second) j 0
  unfolding read
  past-few j =
      ap (λ (n : ℕ). get_or (read b qs o) (n + j) 0) (sym (length-few o.few h))
      ∙ get_or-append-add (take o.few.n (three o.few)) (bits_at b qs o.first ++ bits_at b qs o.second) j 0

  pub read_first : (i : ℕ) → o.few.n ≤ i → i - o.few.n < o.first.bits
      → get_or (read b qs o) i 0 ≡ name_in qs (field b (o.first.from + (i - o.few.n)) 1)
  read_first i l k =
      ap (λ (n : ℕ). get_or (read b qs o) n 0) (omega arith)
      ∙ past-few (i - o.few.n)
      ∙ get_or-append (bits_at b qs o.first) _ 0 (i - o.few.n) (omega (arith, length-named b qs o.first.from o.first.bits))
      ∙ at_named b qs o.first.from o.first.bits (i - o.few.n) k

  pub read-second : (i : ℕ) → o.few.n ≤ i → o.first.bits ≤ i - o.few.n → i < count_of o
      → get_or (read b qs o) i 0 ≡ name_in qs (field b (o.second.from + (i - o.few.n - o.first.bits)) 1)
  read-second i l k e =
      ap (λ (n : ℕ). get_or (read b qs o) n 0) (omega arith)
      ∙ past-few (i - o.few.n)
      ∙ ap (λ (n : ℕ). get_or (bits_at b qs o.first ++ bits_at b qs o.second) n 0) (omega (arith, length-named b qs o.first.from o.first.bits))
      ∙ get_or-append-add (bits_at b qs o.first) (bits_at b qs o.second) (i - o.few.n - o.first.bits) 0
      ∙ at_named b qs o.second.from o.second.bits (i - o.few.n - o.first.bits) (omega arith)
