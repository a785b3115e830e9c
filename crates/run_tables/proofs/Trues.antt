-- Listing the true bad states: what is listed, with what is left, is the whole; entries after the last are 0.
-- Assumes nothing.
use mathlib.Core.Path.{◌≡◌, refl, sym, ap, ◌∙◌}
use mathlib.Core.Bool.{true, false}
use mathlib.Core.List.{List, [], ◌∷◌, ◌++◌, append_assoc, append-nil}
use Prim.Native.Nat.{ℕ, suc, ◌+◌, ◌-◌, ◌≤◌, ◌<◌}
use native.Mathlib.Omega.{arith}
use native.Mathlib.Numerals.{add-one}
use lib.ListN.{length, get_or, take, drop, set, replicate, length-set, take-append-drop}
use lib.Seq.{take-suc-set, drop-set-lt, drop-cons, length-take-le}
use Rattle.circuit.specs.File.{field, nid_at}
use Rattle.run_values.specs.Need.{is_true}
use Rattle.run_rules.specs.Code.{name_in}
use Rattle.run_tables.specs.Listed.{true_from, listed_as, listed_of}

pub record Listed (b qs t : List ℕ) (from total : ℕ) (ns : List ℕ) (count n : ℕ) : Type 0 where
  pub within : n ≤ from + total
  pub fewer : from + count ≤ n
  pub long : length ns ≡ 64
  pub same : take count ns ++ true_from b qs t n (from + total - n) ≡ true_from b qs t from total
  pub rest : drop count ns ≡ replicate (64 - count) 0

pub listed_start : (b qs t : List ℕ) (from total : ℕ) → Listed b qs t from total (replicate 64 0) 0 from
listed_start b qs t from total =
    let e : from + total - from ≡ total = omega arith in
    record { within = omega arith; fewer = omega arith; long = refl; same = rw e; rest = refl }

zeros-less : (ns : List ℕ) (count : ℕ) → count < 64 → length ns ≡ 64 → drop count ns ≡ replicate (64 - count) 0 → drop (count + 1) ns ≡ replicate (64 - (count + 1)) 0
zeros-less ns count h l e = rw (add-one count) (go (64 - count) (64 - suc count) (omega arith) (sym (drop-cons ns count 0 (omega arith)) ∙ e))
  where
    go : (m n : ℕ) → m ≡ suc n → get_or ns count 0 ∷ drop (suc count) ns ≡ replicate m 0 → drop (suc count) ns ≡ replicate n 0
    go m n em k = let k' : get_or ns count 0 ∷ drop (suc count) ns ≡ 0 ∷ replicate n 0 = rw em at k in cc

-- one bad state more
true-one : (b qs t : List ℕ) (n m k p : ℕ) → m ≡ suc k → p ≡ suc n → is_true t (name_in qs (field b n 0)) ≡ true → true_from b qs t n m ≡ nid_at b n ∷ true_from b qs t p k
unfolding true_from
true-one b qs t n m k p em ep e = rw (em, ep, e)

true-none : (b qs t : List ℕ) (n m k p : ℕ) → m ≡ suc k → p ≡ suc n → is_true t (name_in qs (field b n 0)) ≡ false → true_from b qs t n m ≡ true_from b qs t p k
unfolding true_from
true-none b qs t n m k p em ep e = rw (em, ep, e)

true-end : (b qs t : List ℕ) (n m : ℕ) → m ≡ 0 → true_from b qs t n m ≡ []
unfolding true_from
true-end b qs t n m e = rw e

module _ {b qs t : List ℕ} {from total : ℕ} {ns : List ℕ} {count n : ℕ} where
  pub listed-on : total ≤ 64 → n < from + total → Listed b qs t from total ns count n → is_true t (name_in qs (field b n 0)) ≡ true → {x : ℕ} → x ≡ nid_at b n
      → Listed b qs t from total (set ns count x) (count + 1) (n + 1)
  listed-on few h g e {x} ex =
      record {
        within = omega arith;
        fewer = omega (arith, g.fewer);
        long = simp length-set g.long;
        same =
            ap (λ (z : List ℕ). z ++ true_from b qs t (n + 1) (from + total - (n + 1))) (ap (λ (m : ℕ). take m (set ns count x)) (add-one count) ∙ take-suc-set ns count x (omega (arith, g.fewer, g.long)))
            ∙ append_assoc (take count ns) (x ∷ []) (true_from b qs t (n + 1) (from + total - (n + 1)))
            ∙ ap (λ (z : List ℕ). take count ns ++ z) (ap (λ (y : ℕ). y ∷ true_from b qs t (n + 1) (from + total - (n + 1))) ex ∙ sym (true-one b qs t n (from + total - n) (from + total - (n + 1)) (n + 1) (omega arith) (omega arith) e))
            ∙ g.same;
        rest = drop-set-lt (count + 1) ns count x (omega arith) ∙ zeros-less ns count (omega (arith, g.fewer)) g.long g.rest;
      }

  pub listed-skip : n < from + total → Listed b qs t from total ns count n → is_true t (name_in qs (field b n 0)) ≡ false → Listed b qs t from total ns count (n + 1)
  listed-skip h g e =
      record {
        within = omega arith;
        fewer = omega (arith, g.fewer);
        long = g.long;
        same = ap (λ (z : List ℕ). take count ns ++ z) (sym (true-none b qs t n (from + total - n) (from + total - (n + 1)) (n + 1) (omega arith) (omega arith) e)) ∙ g.same;
        rest = g.rest;
      }

  pub listed-end : total ≤ 64 → Listed b qs t from total ns count n → from + total ≤ n → record { nids = ns; count = count } ≡ listed_of b qs t from total
  listed-end few g h = shown (true_from b qs t from total) is
    where
      is : take count ns ≡ true_from b qs t from total
      is = sym (append-nil (take count ns)) ∙ ap (λ (z : List ℕ). take count ns ++ z) (sym (true-end b qs t n (from + total - n) (omega arith))) ∙ g.same

      size : length (take count ns) ≡ count
      size = length-take-le count ns (omega (arith, g.fewer, g.long, g.within))

      whole : ns ≡ take count ns ++ replicate (64 - length (take count ns)) 0
      whole = sym (take-append-drop count ns) ∙ ap (λ (z : List ℕ). take count ns ++ z) (g.rest ∙ ap (λ (m : ℕ). replicate (64 - m) 0) (sym size))

      shown : (l : List ℕ) → take count ns ≡ l → record { nids = ns; count = count } ≡ listed_as l
      shown l e = rw (← e) (λ k. record { nids = whole k; count = sym size k })
