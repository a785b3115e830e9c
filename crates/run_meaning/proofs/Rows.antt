-- The walk over the rows: what is left at a row and a pair, and its first name.
-- Assumes nothing.
use mathlib.Core.Path.{◌≡◌, refl, ap, ◌∙◌}
use mathlib.Core.Bool.{Bool, true, false, cond}
use mathlib.Core.List.{List, [], ◌∷◌, ◌++◌}
use Prim.Native.Nat.{ℕ, suc, ◌+◌, ◌≤◌, ◌<◌}
use native.Mathlib.Omega.{arith}
use native.Mathlib.Numerals.{add-one}
use lib.Dec.{eqb, ltb}
use lib.ListN.{length, get_or, drop, drop_of_length-le}
use lib.Seq.{drop-cons}
use borrow.Author.Tests.{ne_eqb, lt-ltb, le-ltb}
use Rattle.laws.specs.Test.{by_eqb}
use Rattle.energy.specs.Model.{low, high}
use Rattle.run_meaning.specs.Ran.{marked, higher, with_higher}
use Rattle.run_meaning.specs.Layout.{Stacked}
use Rattle.run_meaning.proofs.Left.{marked-on, marked-skip, marked-done}

-- the higher qubits of the pairs whose lower one comes before q
unfoldable pub below : ℕ → List ℕ → List ℕ
below q [] = []
below q (k ∷ ks) = cond (ltb (low k) q) (high k ∷ below q ks) (below q ks)

-- what is left: the pairs of the rows before q, and the rows from q on
abbrev pub rest : List ℕ → ℕ → List ℕ → List ℕ
rest rows q ks = below q ks ++ with_higher ks (marked q (drop q rows))

-- a pair of an earlier row is no neighbour of a later one
later : (k : ℕ) (ks : List ℕ) (q : ℕ) (fs : List ℕ) → low k < q → with_higher (k ∷ ks) (marked q fs) ≡ with_higher ks (marked q fs)
unfolding marked with_higher higher
later k ks q [] h = refl
later k ks q (f ∷ fs) h = go (eqb f 1) (later k ks (suc q) fs (omega arith))
  where
    go : (t : Bool) → with_higher (k ∷ ks) (marked (suc q) fs) ≡ with_higher ks (marked (suc q) fs)
        → with_higher (k ∷ ks) (cond t (q ∷ marked (suc q) fs) (marked (suc q) fs)) ≡ with_higher ks (cond t (q ∷ marked (suc q) fs) (marked (suc q) fs))
    go true e = rw (ne_eqb (low k) q (λ e. omega arith)) (ap (λ (l : List ℕ). (q ∷ higher q ks) ++ l) e)
    go false e = e

module _ (n : ℕ) (rows : List ℕ) where
  pub stacked-down : (p q : ℕ) (ks : List ℕ) → p ≤ q → Stacked n rows q ks → Stacked n rows p ks
  stacked-down p q [] h a = tt
  stacked-down p q (k ∷ ks) h a = (omega arith, a.1, a.2, a.3)

  none_below : (q : ℕ) (ks : List ℕ) → Stacked n rows q ks → below q ks ≡ []
  unfolding below
  none_below q [] a = refl
  none_below q (k ∷ ks) a = rw (le-ltb (low k) q a.0) (none_below q ks (stacked-down q (low k) ks a.0 a.3))

  -- the higher neighbours of the row q
  row-higher : (q : ℕ) (ks : List ℕ) → Stacked n rows q ks → higher q ks ≡ below (q + 1) ks
  unfolding below higher
  row-higher q [] a = refl
  row-higher q (k ∷ ks) a = go (row-higher q ks (stacked-down q (low k) ks a.0 a.3))
    where
      go : higher q ks ≡ below (q + 1) ks
          → cond (eqb (low k) q) (high k ∷ higher q ks) (higher q ks) ≡ cond (ltb (low k) (q + 1)) (high k ∷ below (q + 1) ks) (below (q + 1) ks)
      go ih =
          by_eqb (low k) q (λ (t : Bool). cond t (high k ∷ higher q ks) (higher q ks) ≡ cond (ltb (low k) (q + 1)) (high k ∷ below (q + 1) ks) (below (q + 1) ks))
          (λ e. rw (lt-ltb (low k) (q + 1) (omega arith)) (ap (λ (l : List ℕ). high k ∷ l) ih))
          (λ f. rw (le-ltb (low k) (q + 1) (omega (arith, a.0))) ih)

  -- a row that there is not has no pair
  no-higher : (q : ℕ) (ks : List ℕ) → Stacked n rows q ks → (get_or rows q 0 ≡ 1 → ⊥) → below (q + 1) ks ≡ []
  unfolding below
  no-higher q [] a f = refl
  no-higher q (k ∷ ks) a f =
      rw (le-ltb (low k) (q + 1) past) (no-higher q ks (stacked-down q (low k) ks a.0 a.3) f)
    where
      differ : low k ≡ q → ⊥
      differ e = f (rw e at a.2)

      past : q + 1 ≤ low k
      past = omega (arith, a.0, differ)

  -- nor is its pair one of the rows before q + 1
  pub stacked-past : (q : ℕ) (ks : List ℕ) → Stacked n rows q ks → (get_or rows q 0 ≡ 1 → ⊥) → Stacked n rows (q + 1) ks
  stacked-past q [] a f = tt
  stacked-past q (k ∷ ks) a f =
      let differ : low k ≡ q → ⊥ = λ e. f (rw e at a.2) in
      (omega (arith, a.0, differ), a.1, a.2, a.3)

  pub rest-start : (ks : List ℕ) → Stacked n rows 0 ks → with_higher ks (marked 0 rows) ≡ rest rows 0 ks
  rest-start ks a = rw (none_below 0 ks a)

  -- ---- the steps

  pub pair_step : (q k : ℕ) (ks : List ℕ) → low k < q → rest rows q (k ∷ ks) ≡ high k ∷ rest rows q ks
  unfolding below
  pair_step q k ks h = rw (lt-ltb (low k) q h, later k ks q (drop q rows) h)

  pub row_step : (q : ℕ) (ks : List ℕ) → q < length rows → get_or rows q 0 ≡ 1 → Stacked n rows q ks → rest rows q ks ≡ q ∷ rest rows (q + 1) ks
  unfolding with_higher
  row_step q ks h e a =
      rw (none_below q ks a, marked-on rows q h e) (ap (λ (l : List ℕ). q ∷ (l ++ with_higher ks (marked (q + 1) (drop (q + 1) rows)))) (row-higher q ks a))

  pub row-pass : (q : ℕ) (ks : List ℕ) → q < length rows → (get_or rows q 0 ≡ 1 → ⊥) → Stacked n rows q ks → rest rows q ks ≡ rest rows (q + 1) ks
  row-pass q ks h f a = rw (none_below q ks a, no-higher q ks a f, marked-skip rows q h f)

  pub row-end : (q : ℕ) (ks : List ℕ) → length rows ≤ q → Stacked n rows q ks → rest rows q ks ≡ []
  unfolding with_higher
  row-end q ks h a = rw (none_below q ks a, marked-done rows q h)

  -- ---- the pairs by number: those of the row q, and past the last of them

  module _ (keys : List ℕ) (q k : ℕ) (st : Stacked n rows q (drop k keys)) where
    module _ (h : k < length keys) where
      there : drop k keys ≡ get_or keys k 0 ∷ drop (k + 1) keys
      there = drop-cons keys k 0 h ∙ rw (add-one k)

      here : Stacked n rows q (get_or keys k 0 ∷ drop (k + 1) keys)
      here = rw there at st

      pub pair-named : high (get_or keys k 0) < n
      pair-named = here.1

      module _ (e : low (get_or keys k 0) ≡ q) where
        pub pair-next : rest rows (q + 1) (drop k keys) ≡ high (get_or keys k 0) ∷ rest rows (q + 1) (drop (k + 1) keys)
        pair-next = ap (rest rows (q + 1)) there ∙ pair_step (q + 1) (get_or keys k 0) (drop (k + 1) keys) (omega arith)

        pub pair-stacked : Stacked n rows q (drop (k + 1) keys)
        pair-stacked = rw e at here.3

      pub pairs-past : (low (get_or keys k 0) ≡ q → ⊥) → Stacked n rows (q + 1) (drop k keys)
      pairs-past f = rw there (omega (arith, here.0, f), here.1, here.2, here.3)

    pub pairs-done : length keys ≤ k → Stacked n rows (q + 1) (drop k keys)
    pairs-done h = rw (drop_of_length-le keys h) tt
