-- The lines of the entries, one after another, as the loops over the tables meet them.
-- Assumes nothing.
use mathlib.Core.Path.{◌≡◌, refl, sym, ap, ap₂, ◌∙◌}
use mathlib.Core.Logic.{◌⊎◌, inl, inr}
use mathlib.Core.Bool.{cond}
use mathlib.Core.List.{List, [], ◌∷◌, ◌++◌, zip, zip_with}
use Prim.Native.Nat.{ℕ, zero, suc, ◌+◌, ◌≤◌, ◌<◌, zero-le, suc-le-suc}
use native.Mathlib.Nat.{not-suc-le-zero, le_of_suc-le-suc}
use native.Mathlib.Numerals.{add-one}
use native.Mathlib.Omega.{arith}
use lib.Dec.{eqb}
use lib.IntN.{ℤ, pos}
use lib.ListN.{length, get_or, take, drop, drop_of_length-le}
use lib.Seq.{drop-cons}
use borrow.Author.Tests.{eq-eqb, ne_eqb}
use Rattle.energy.specs.Model.{Entry}
use Rattle.text.specs.Text.{lines, linear_text, pair_text, entries}

-- a list from a place on
window : {A : Type 0} (xs : List A) (i : ℕ) (d : A) → i < length xs → drop i xs ≡ get_or xs i d ∷ drop (i + 1) xs
window xs i d h = drop-cons xs i d h ∙ ap (λ (k : ℕ). get_or xs i d ∷ drop k xs) (sym (add-one i))

-- the linear entries from the name q on
from-name : List ℕ → List ℤ → ℕ → List (ℕ × ℤ)
from-name hs cs q = entries q (drop q hs) (drop q cs)

-- the linear lines from the name q on
pub linear-from : List ℕ → List ℤ → ℕ → List ℕ
unfolding from-name
linear-from hs cs q = lines linear_text (from-name hs cs q)

module _ (hs : List ℕ) (cs : List ℤ) where
  pub linear-all : linear-from hs cs 0 ≡ lines linear_text (entries 0 hs cs)
  unfolding linear-from from-name
  linear-all = refl

  module _ (long : length hs ≤ length cs) where
    both : (q : ℕ) → q < length hs → from-name hs cs q ≡ cond (eqb (get_or hs q 0) 1) ((q, get_or cs q (pos 0)) ∷ from-name hs cs (q + 1)) (from-name hs cs (q + 1))
    unfolding from-name entries
    both q h = rw (window hs q 0 h, window cs q (pos 0) (omega (arith, long, h)), ← add-one q)

    pub linear-yes : (q : ℕ) → q < length hs → get_or hs q 0 ≡ 1 → linear-from hs cs q ≡ linear_text (q, get_or cs q (pos 0)) ++ linear-from hs cs (q + 1)
    unfolding linear-from
    linear-yes q h e =
        let more : from-name hs cs q ≡ (q, get_or cs q (pos 0)) ∷ from-name hs cs (q + 1) = both q h ∙ simp (eq-eqb (get_or hs q 0) 1 e) in
        ap (lines linear_text) more

    pub linear-no : (q : ℕ) → q < length hs → (get_or hs q 0 ≡ 1 → ⊥) → linear-from hs cs q ≡ linear-from hs cs (q + 1)
    unfolding linear-from
    linear-no q h e =
        let same : from-name hs cs q ≡ from-name hs cs (q + 1) = both q h ∙ simp (ne_eqb (get_or hs q 0) 1 e) in
        ap (lines linear_text) same

    pub linear-none : (q : ℕ) → length hs ≤ q → linear-from hs cs q ≡ []
    unfolding linear-from from-name entries
    linear-none q h = rw (drop_of_length-le hs {i = q} h)

-- ---- pairs

pub zip-long : (ks : List ℕ) (ws : List ℤ) (n : ℕ) → n ≤ length ks → n ≤ length ws → n ≤ length (zip ks ws)
unfolding zip zip_with
zip-long ks ws zero h k = zero-le
zip-long [] ws (suc n) h k = absurd (not-suc-le-zero h)
zip-long (x ∷ ks) [] (suc n) h k = absurd (not-suc-le-zero k)
zip-long (x ∷ ks) (w ∷ ws) (suc n) h k = suc-le-suc (zip-long ks ws n (le_of_suc-le-suc h) (le_of_suc-le-suc k))

pub zip-at : (ks : List ℕ) (ws : List ℤ) (i : ℕ) → i < length ks → i < length ws → get_or (zip ks ws) i (0, pos 0) ≡ (get_or ks i 0, get_or ws i (pos 0))
unfolding zip zip_with
zip-at [] ws i h k = absurd (not-suc-le-zero h)
zip-at (x ∷ ks) [] i h k = absurd (not-suc-le-zero k)
zip-at (x ∷ ks) (w ∷ ws) zero h k = refl
zip-at (x ∷ ks) (w ∷ ws) (suc i) h k = zip-at ks ws i (le_of_suc-le-suc h) (le_of_suc-le-suc k)

-- the front of each table
pub zip-take : (n : ℕ) (ks : List ℕ) (ws : List ℤ) → take n (zip ks ws) ≡ zip (take n ks) (take n ws)
unfolding zip zip_with
zip-take zero ks ws = refl
zip-take (suc n) [] ws = refl
zip-take (suc n) (k ∷ ks) [] = refl
zip-take (suc n) (k ∷ ks) (w ∷ ws) = ap (λ (l : List Entry). (k, w) ∷ l) (zip-take n ks ws)

-- the pair that comes next, and the end
pub pairs-next : {ks ls : List ℕ} {ws vs : List ℤ} {k : ℕ} {w : ℤ} → (ks ≡ k ∷ ls) × (ws ≡ w ∷ vs) → lines pair_text (zip ks ws) ≡ pair_text (k, w) ++ lines pair_text (zip ls vs)
unfolding zip zip_with
pairs-next e = ap₂ (λ (ks : List ℕ) (ws : List ℤ). lines pair_text (zip ks ws)) e.0 e.1

pub pairs-none : (ks : List ℕ) (ws : List ℤ) → (ks ≡ []) ⊎ (ws ≡ []) → lines pair_text (zip ks ws) ≡ []
unfolding zip zip_with
pairs-none [] ws e = refl
pairs-none (k ∷ ks) [] e = refl
pairs-none (k ∷ ks) (w ∷ ws) (inl h) = let e : length (k ∷ ks) ≡ 0 = ap length h in absurd (omega (arith, e))
pairs-none (k ∷ ks) (w ∷ ws) (inr h) = let e : length (w ∷ ws) ≡ 0 = ap length h in absurd (omega (arith, e))
