-- One number of each list is enough for checks 4 and 5: one more than its largest gate, and 0 where it has no bits.
-- Assumes nothing.
use Rattle.std.specs.Prelude.{ℕ, zero, suc, ◌≤◌, ◌<◌, max, ◌≡◌, refl, Bool, true, false, ◌&&◌, ◌||◌, List, [], ◌∷◌, ◌++◌, map, leb, ltb, eqb, get_or, take, None}
use Rattle.std.proofs.Common.{sym, ap, ◌∙◌, arith, zero-add, ltb-true, ltb-false, leb-true, leb-false, lt-ltb, le-ltb, ne_eqb, lit<}
use Rattle.std.proofs.Math.Bool.{or_assoc, or-false}
use Rattle.circuit.specs.File.{either}
use Rattle.circuit.specs.Count.{by-test, range, length-range, get_or-range, get_d_of}
use Rattle.circuit.specs.Meaning.{list_of}
use Rattle.circuit.specs.Form.{first_broken}
use Rattle.circuit.specs.Numbers.{lists-numbered}
use Rattle.circuit.specs.Starts.{no_bits}
use Rattle.circuit.specs.Earlier.{not_below}
use Rattle.circuit.specs.Partner.{is_empty}

unfoldable pub top_of : List ℕ → ℕ
top_of [] = 0
top_of (g ∷ gs) = max (suc g) (top_of gs)

-- of every number that a list can have
unfoldable pub tops_of : List ℕ → List ℕ
tops_of c = map (λ (k : ℕ). top_of (list_of c k)) (range 0 64)

-- of any number
abbrev pub top_at : List ℕ → ℕ → ℕ
top_at tops k = either (ltb k 64) (get_or tops k 0) 0

past_top : (c : List ℕ) → first_broken c ≡ None → (k : ℕ) → 64 ≤ k → top_of (list_of c k) ≡ 0
unfolding list_of top_of
past_top c form k l = rw (no_bits c form 20 (lit< tt) (lists-numbered c form) k l)

-- what the table has of list k is right for every k
pub top-at : (c : List ℕ) → first_broken c ≡ None → (k : ℕ) → top_at (tops_of c) k ≡ top_of (list_of c k)
unfolding tops_of
top-at c form k = by-test (ltb k 64) inside outside
  where
    inside : ltb k 64 ≡ true → top_at (map (λ (j : ℕ). top_of (list_of c j)) (range 0 64)) k ≡ top_of (list_of c k)
    inside e =
        let l : k < 64 = ltb-true k 64 e in
        rw e (get_d_of (λ (j : ℕ). top_of (list_of c j)) (range 0 64) k 0 0 (rw (length-range 64 0) l) ∙ ap (λ (j : ℕ). top_of (list_of c j)) (get_or-range 64 0 k 0 l ∙ zero-add k))

    outside : ltb k 64 ≡ false → top_at (map (λ (j : ℕ). top_of (list_of c j)) (range 0 64)) k ≡ top_of (list_of c k)
    outside e = rw e (sym (past_top c form k (ltb-false k 64 e)))

-- a list holds a gate that is not below n
pub below_top : (n : ℕ) (gs : List ℕ) → not_below n gs ≡ ltb n (top_of gs)
unfolding not_below top_of
below_top n [] = sym (le-ltb n 0 (omega arith))
below_top n (g ∷ gs) = rw (below_top n gs) (both (top_of gs))
  where
    both : (t : ℕ) → (leb n g || ltb n t) ≡ ltb n (max (suc g) t)
    both t =
        by-test (leb n g)
        (λ e. let h : n < max (suc g) t = omega (arith, leb-true n g e) in rw (e, lt-ltb n (max (suc g) t) h))
        (λ e.
        by-test (ltb n t)
        (λ f. let h : n < max (suc g) t = omega (arith, ltb-true n t f) in rw (e, f, lt-ltb n (max (suc g) t) h))
        (λ f. let h : max (suc g) t ≤ n = omega (arith, leb-false n g e, ltb-false n t f) in rw (e, f, le-ltb n (max (suc g) t) h)))

-- a list has no bits
pub empty-top : (gs : List ℕ) → is_empty gs ≡ eqb (top_of gs) 0
unfolding top_of
empty-top [] = refl
empty-top (g ∷ gs) = sym (ne_eqb (max (suc g) (top_of gs)) 0 (λ z. omega arith))

pub below-append : (n : ℕ) (gs hs : List ℕ) → not_below n (gs ++ hs) ≡ (not_below n gs || not_below n hs)
unfolding not_below
below-append n [] hs = refl
below-append n (g ∷ gs) hs = rw (below-append n gs hs) (sym (or_assoc (leb n g) (not_below n gs) (not_below n hs)))

none_below : (n u : ℕ) → not_below n (take u []) ≡ false
unfolding not_below
none_below n zero = refl
none_below n (suc u) = refl

-- the operands, field by field
pub below-fields : (n u x y z : ℕ) → not_below n (take u (x ∷ y ∷ z ∷ [])) ≡ (ltb 0 u && leb n x || ltb 1 u && leb n y || ltb 2 u && leb n z)
unfolding not_below
below-fields n zero x y z = refl
below-fields n (suc zero) x y z = sym (or-false (leb n x || false))
below-fields n (suc (suc zero)) x y z = sym (or_assoc (leb n x) (leb n y) false)
below-fields n (suc (suc (suc u))) x y z =
    rw (lt-ltb 0 (suc (suc (suc u))) (omega arith), lt-ltb 1 (suc (suc (suc u))) (omega arith), lt-ltb 2 (suc (suc (suc u))) (omega arith))
    (ap (λ (t : Bool). leb n x || (leb n y || (leb n z || t))) (none_below n u) ∙ rw or-false (sym (or_assoc (leb n x) (leb n y) (leb n z))))
