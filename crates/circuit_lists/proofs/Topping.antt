-- The loop that finds the largest gate of each list: what holds of its table before record n. Assumes nothing.
use Rattle.std.specs.Prelude.{None}
use Prim.Native.Nat.{ℕ, suc, ◌+◌, ◌-◌, ◌≤◌, ◌<◌, max}
use mathlib.Core.Path.{◌≡◌, refl, sym, ap, ◌∙◌}
use mathlib.Core.Bool.{true, false}
use mathlib.Core.List.{List, ◌∷◌, map}
use native.Mathlib.Omega.{arith}
use native.Mathlib.Nat.{zero-add}
use native.Mathlib.Decide.{ℕ_discrete}
use borrow.Author.Tests.{eq-eqb, ne_eqb}
use lib.ListN.{length, get_or, set, replicate, length-set, length-replicate, get_or-replicate, length-map}
use lib.Seq.{get_or-set_same, get_or-set_other, ext_get_or}
use Rattle.circuit.specs.File.{records, kind_byte, field, those, is_bit_of}
use Rattle.circuit.specs.Search.{those-step, those-end}
use Rattle.circuit.specs.Count.{range, length-range, get_or-range, get_d_of}
use Rattle.circuit.specs.Meaning.{list_of}
use Rattle.circuit.specs.Form.{first_broken}
use Rattle.circuit.specs.Numbers.{lists-numbered}
use Rattle.circuit.specs.Tops.{top_of, tops_of}

-- the gates of list k from record n on
abbrev rest : List ℕ → ℕ → ℕ → List ℕ
rest c k n = map (λ (m : ℕ). field c m 1) (those (is_bit_of c 20 k) n (records c - n))

rest-bit : (c : List ℕ) (k n : ℕ) → n < records c → is_bit_of c 20 k n ≡ true → rest c k n ≡ field c n 1 ∷ rest c k (n + 1)
rest-bit c k n l e = ap (map (λ (m : ℕ). field c m 1)) (rw e at (those-step (is_bit_of c 20 k) n (records c) l))

rest-other : (c : List ℕ) (k n : ℕ) → n < records c → is_bit_of c 20 k n ≡ false → rest c k n ≡ rest c k (n + 1)
rest-other c k n l e = ap (map (λ (m : ℕ). field c m 1)) (rw e at (those-step (is_bit_of c 20 k) n (records c) l))

pub record Topping (c : List ℕ) (n : ℕ) (tops : List ℕ) : Type 0 where
  pub long : length tops ≡ 64
  pub left : (k : ℕ) → k < 64 → max (get_or tops k 0) (top_of (rest c k n)) ≡ top_of (list_of c k)

pub topping-start : (c : List ℕ) → Topping c 0 (replicate 64 0)
unfolding list_of
topping-start c =
    record {
      long = length-replicate {A = ℕ} 64 0;
      left = λ k l. ap (λ (x : ℕ). max x (top_of (rest c k 0))) (get_or-replicate 64 k 0 0 l) ∙ none (top_of (rest c k 0)) ∙ ap (λ (x : ℕ). top_of (map (λ (m : ℕ). field c m 1) (those (is_bit_of c 20 k) 0 x))) all;
    }
  where
    none : (x : ℕ) → max 0 x ≡ x
    none x = omega arith

    all : records c - 0 ≡ records c
    all = omega arith

top-cons : (g : ℕ) (gs : List ℕ) → top_of (g ∷ gs) ≡ max (suc g) (top_of gs)
unfolding top_of
top-cons g gs = refl

pub list-small : (c : List ℕ) → first_broken c ≡ None → {n kind k : ℕ} → n < records c → kind ≡ kind_byte c n → kind ≡ 20 → k ≡ field c n 0 → k < 64
list-small c form {n} u i e j = omega (arith, (lists-numbered c form).small n u (sym i ∙ e))

module _ (c : List ℕ) (form : first_broken c ≡ None) {n : ℕ} {tops : List ℕ} (t : Topping c n tops) (u : n < records c) {kind : ℕ} (i : kind ≡ kind_byte c n) where
  pub turn-bit : kind ≡ 20 → {k gate new : ℕ} → k ≡ field c n 0 → gate ≡ field c n 1 → new ≡ max (get_or tops k 0) (gate + 1) → Topping c (n + 1) (set tops k new)
  turn-bit e {k} {gate} {new} j g h = record { long = length-set tops k new ∙ t.long; left = λ m l. go m l (ℕ_discrete m k) }
    where
      go : (m : ℕ) → m < 64 → Dec (m ≡ k) → max (get_or (set tops k new) m 0) (top_of (rest c m (n + 1))) ≡ top_of (list_of c m)
      go m l (yes d) =
          let same : get_or (set tops k new) m 0 ≡ new = rw d (get_or-set_same tops k new 0 (omega (arith, t.long))) in
          let bit : is_bit_of c 20 m n ≡ true = rw (eq-eqb (kind_byte c n) 20 (sym i ∙ e), eq-eqb (field c n 0) m (sym j ∙ sym d)) in
          let this : top_of (rest c m n) ≡ max (suc (field c n 1)) (top_of (rest c m (n + 1))) = ap top_of (rest-bit c m n u bit) ∙ top-cons (field c n 1) (rest c m (n + 1)) in
          let old : max (get_or tops k 0) (top_of (rest c m n)) ≡ top_of (list_of c m) = ap (λ (x : ℕ). max (get_or tops x 0) (top_of (rest c m n))) (sym d) ∙ t.left m l in
          rw same (omega arith)
      go m l (no d) =
          let other : is_bit_of c 20 m n ≡ false = rw (eq-eqb (kind_byte c n) 20 (sym i ∙ e), ne_eqb (field c n 0) m (λ z. d (sym z ∙ sym j))) in
          rw (get_or-set_other tops k m new 0 d, ← rest-other c m n u other) (t.left m l)

  pub turn-other : (kind ≡ 20 → ⊥) → Topping c (n + 1) tops
  turn-other e =
      record {
        long = t.long;
        left = λ m l.
            let other : is_bit_of c 20 m n ≡ false = rw (ne_eqb (kind_byte c n) 20 (λ z. e (i ∙ z))) in
            rw (← rest-other c m n u other) (t.left m l);
      }

pub topping-done : (c : List ℕ) {n : ℕ} {tops : List ℕ} → records c ≤ n → Topping c n tops → tops ≡ tops_of c
unfolding tops_of top_of
topping-done c {n} {tops} u t =
    ext_get_or 0 tops (map (λ (k : ℕ). top_of (list_of c k)) (range 0 64)) (t.long ∙ sym (length-map (range 0 64) (λ (k : ℕ). top_of (list_of c k)) ∙ length-range 64 0)) (λ k l. at k (omega (arith, t.long)))
  where
    at : (k : ℕ) → k < 64 → get_or tops k 0 ≡ get_or (map (λ (j : ℕ). top_of (list_of c j)) (range 0 64)) k 0
    at k l =
        let nothing : top_of (rest c k n) ≡ 0 = rw (those-end (is_bit_of c 20 k) n (records c) u) in
        let spec : get_or (map (λ (j : ℕ). top_of (list_of c j)) (range 0 64)) k 0 ≡ top_of (list_of c k) = get_d_of (λ (j : ℕ). top_of (list_of c j)) (range 0 64) k 0 0 (rw (length-range 64 0) l) ∙ ap (λ (j : ℕ). top_of (list_of c j)) (get_or-range 64 0 k 0 l ∙ zero-add k) in
        omega (arith, t.left k l)
