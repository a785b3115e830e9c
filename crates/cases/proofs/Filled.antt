-- Values into a table, one after another. Assumes nothing.
use Prim.Native.Nat.{ℕ, suc, ◌+◌, ◌*◌, ◌/◌, ◌<◌, min}
use mathlib.Core.List.{List, [], ◌∷◌, ◌++◌, append_assoc, append-nil}
use mathlib.Core.Path.{◌≡◌, refl, ap, sym, ◌∙◌}
use native.Mathlib.Numerals.{add-one}
use native.Mathlib.Omega.{arith}
use lib.IntN.{ℤ, pos}
use lib.ListN.{length, take, drop, set, replicate, drop_of_length-le}
use lib.Seq.{drop-cons, set_at}
use Rattle.cases.specs.Values.{value_at, values_of, values_into, given_of, length-values}

pub none_filled : (s : List ℕ) (table : List ℤ) → table ≡ values_of s 0 ++ drop 0 table
unfolding values_of
none_filled s table = refl

more : (s : List ℕ) (table : List ℤ) (i : ℕ) → i < length table
    → set (values_of s i ++ drop i table) i (value_at s (8 * i)) ≡ values_of s (suc i) ++ drop (suc i) table
unfolding values_of
more s table i h =
    ap (λ (l : List ℤ). set (values_of s i ++ l) i (value_at s (8 * i))) (drop-cons table i (pos 0) h)
    ∙ set_at (values_of s i) _ _ _ i (length-values s i)
    ∙ sym (append_assoc (values_of s i) (value_at s (8 * i) ∷ []) (drop (suc i) table))

pub one_more : (s : List ℕ) (table now : List ℤ) (i : ℕ) (z : ℤ) → i < length table → now ≡ values_of s i ++ drop i table → z ≡ value_at s (8 * i)
    → set now i z ≡ values_of s (i + 1) ++ drop (i + 1) table
one_more s table now i z h e v =
    ap (λ (l : List ℤ). set l i z) e ∙ ap (set (values_of s i ++ drop i table) i) v ∙ more s table i h
    ∙ ap (λ (n : ℕ). values_of s n ++ drop n table) (sym (add-one i))

pub all_filled : (s : List ℕ) (table : List ℤ) (i : ℕ) (now : List ℤ) → i ≡ length table → now ≡ values_of s i ++ drop i table → now ≡ values_of s (length table)
all_filled s table i now e p =
    p ∙ ap (λ (k : ℕ). values_of s k ++ drop k table) e ∙ ap (λ (l : List ℤ). values_of s (length table) ++ l) (drop_of_length-le table (omega arith)) ∙ append-nil _

-- as many as there are
pub into : (s : List ℕ) (n : ℕ) (table : List ℤ) (here count : ℕ) → here ≡ min (length s / 8) (length table) → count ≡ min n here
    → values_of s count ++ drop count table ≡ values_into s n table
unfolding values_into
into s n table here count e f = ap (λ (k : ℕ). values_of s k ++ drop k table) (f ∙ ap (min n) e)

-- the values of a run, once read
pub given_is : (s : List ℕ) (count n : ℕ) (table : List ℤ) → n ≡ min count 65 → table ≡ values_into s n (replicate 65 (pos 0)) → given_of s count ≡ take n table
unfolding given_of
given_is s count n table e f = ap (λ (k : ℕ). take k (values_into s k (replicate 65 (pos 0)))) (sym e) ∙ ap (take n) (sym f)
