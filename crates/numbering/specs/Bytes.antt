-- An accepted file is ready to be numbered: its circuit is well formed, and its gates, lists and roots lie in the bytes where the code reads them.
-- Assumes nothing.
use Rattle.std.specs.Prelude.{◌≡◌, Bool, ◌&&◌, ◌||◌, ℕ, zero, suc, ◌+◌, ◌*◌, ◌≤◌, ◌<◌, eqb, ltb, get_or}
use Rattle.std.proofs.Math.Path.{refl, sym, ap, ap₂}
use Rattle.std.proofs.Common.{◌∙◌, subst, arith, add-one, ltb-true, lt-ltb, lit<}
use Rattle.std.proofs.Math.Bool.{true, false}
use mathlib.Core.List.{List, [], ◌∷◌, ◌++◌, map}
use Rattle.std.proofs.Math.Decide.{dec_lt}
use Rattle.std.proofs.Math.ListN.{length}
use Rattle.energy.specs.Circuit.{ConstFalse, Bad, Constraint, AllBelow}
use Rattle.circuit.specs.declared.GateKind.{GateKind}
use Rattle.circuit.specs.declared.GateKind.TheVariants as kind
use Rattle.circuit.specs.File.{records, kind_byte, field, kind_at, count_of}
use Rattle.circuit.specs.Count.{range, length-range, get_or-range, get_d_of, length-those, count-le, count-weaker}
use Rattle.circuit.specs.Meaning.{list_of, gate_of, gate_at, bad_at, constraint_at, circuit_of}
use Rattle.circuit.specs.Ordered.{bads-stand, constraints-stand, all-stand}
use Rattle.circuit.specs.Numbers.{lists-numbered}
use Rattle.circuit.specs.Starts.{comes_before, start_of, starts_of, no_bits, list-stands}
use Rattle.circuit.specs.Marks.{gates-within}
use Rattle.circuit.specs.Accepted.{Sound, gate-at, gate-count, bad-count, ListsFit, DivisionFits, WellFormed, well-formed}
use Rattle.energy.specs.Numbering.{Numbering}
use Rattle.numbering.specs.State.{State}
use Rattle.numbering.specs.Numbered.{numbered, number, named_of}
use Rattle.numbering.specs.Finished.{Formed, finished, numbering}
use Rattle.numbering.specs.Read.{act_of, is_division, gates_from, gates_in, ListAt, Laid, RootsAt, Prepared}

below-join : (n : ℕ) (xs ys : List ℕ) → AllBelow n xs → AllBelow n ys → AllBelow n (xs ++ ys)
below-join n [] ys a b = b
below-join n (x ∷ xs) ys a b = (a.0, below-join n xs ys a.1 b)

range-join : (n m a : ℕ) → range a (n + m) ≡ range a n ++ range (a + n) m
unfolding range
range-join zero m a = let x : 0 + m ≡ m = omega arith in let y : a + 0 ≡ a = omega arith in rw (x, y)
range-join (suc n) m a =
    let x : suc n + m ≡ suc (n + m) = omega arith in
    let y : a + suc n ≡ suc a + n = omega arith in
    rw (x, y) (ap (λ (l : List ℕ). a ∷ l) (range-join n m (suc a)))

map-join : (f : ℕ → ℕ) (xs ys : List ℕ) → map f (xs ++ ys) ≡ map f xs ++ map f ys
map-join f [] ys = refl
map-join f (x ∷ xs) ys = ap (λ (l : List ℕ). f x ∷ l) (map-join f xs ys)

map-map : {A : Type 0} (h : A → ℕ) (f : ℕ → A) (xs : List ℕ) → map h (map f xs) ≡ map (λ (x : ℕ). h (f x)) xs
map-map h f [] = refl
map-map h f (x ∷ xs) = ap (λ (l : List ℕ). h (f x) ∷ l) (map-map h f xs)

-- the lists of a division, by its kind
lists_of : (b : List ℕ) (g : ℕ) (k : GateKind) → is_division (act_of k) ≡ true → DivisionFits (gate_of b k g)
    → ListsFit (list_of b (field b g 0)) (list_of b (field b g 1))
lists_of b g kind.ConstFalse d f = let z : ◌≡◌ {A = ℕ} 0 1 = cc in absurd (omega arith)
lists_of b g kind.ConstTrue d f = let z : ◌≡◌ {A = ℕ} 0 1 = cc in absurd (omega arith)
lists_of b g kind.InputBit d f = let z : ◌≡◌ {A = ℕ} 0 1 = cc in absurd (omega arith)
lists_of b g kind.Not d f = let z : ◌≡◌ {A = ℕ} 0 1 = cc in absurd (omega arith)
lists_of b g kind.And d f = let z : ◌≡◌ {A = ℕ} 0 1 = cc in absurd (omega arith)
lists_of b g kind.Nand d f = let z : ◌≡◌ {A = ℕ} 0 1 = cc in absurd (omega arith)
lists_of b g kind.Or d f = let z : ◌≡◌ {A = ℕ} 0 1 = cc in absurd (omega arith)
lists_of b g kind.Matriarch1 d f = let z : ◌≡◌ {A = ℕ} 0 1 = cc in absurd (omega arith)
lists_of b g kind.CarryHalfAdder d f = let z : ◌≡◌ {A = ℕ} 0 1 = cc in absurd (omega arith)
lists_of b g kind.ResultHalfAdder d f = let z : ◌≡◌ {A = ℕ} 0 1 = cc in absurd (omega arith)
lists_of b g kind.CarryFullAdder d f = let z : ◌≡◌ {A = ℕ} 0 1 = cc in absurd (omega arith)
lists_of b g kind.ResultFullAdder d f = let z : ◌≡◌ {A = ℕ} 0 1 = cc in absurd (omega arith)
lists_of b g kind.Quotient d f = f
lists_of b g kind.Remainder d f = f

module _ (b : List ℕ) (s : Sound b) where
  abbrev G : ℕ
  G = count_of b 0 13

  abbrev L : ℕ
  L = count_of b 20 20

  abbrev B : ℕ
  B = count_of b 21 21

  abbrev C : ℕ
  C = count_of b 22 22

  whole : 16 * records b ≤ length b
  whole = omega arith

  -- ---- lists

  start-at : (k : ℕ) → k < 65 → get_or (starts_of b 20) k 0 ≡ start_of b 20 k
  unfolding starts_of
  start-at k l =
      get_d_of (start_of b 20) (range 0 65) k 0 0 (omega (arith, length-range 65 0)) ∙ ap (start_of b 20) (get_or-range 65 0 k 0 l ∙ omega arith)

  start-most : (k : ℕ) → start_of b 20 k ≤ records b
  unfolding start_of
  start-most k = omega (arith, length-those (comes_before b 20 k) (records b), count-le (comes_before b 20 k) (records b))

  start-rises : (k : ℕ) → start_of b 20 k ≤ start_of b 20 (suc k)
  unfolding start_of
  start-rises k =
      omega (arith, length-those (comes_before b 20 k) (records b), length-those (comes_before b 20 (suc k)) (records b), count-weaker (comes_before b 20 k) (comes_before b 20 (suc k)) (records b) (λ n l e. before_more n e))
    where
      more : (x y z w : Bool) → (z ≡ true → w ≡ true) → (x || y && z) ≡ true → (x || y && w) ≡ true
      more true y z w f e = refl
      more false true z w f e = f e
      more false false z w f e = e

      before_more : (n : ℕ) → comes_before b 20 k n ≡ true → comes_before b 20 (suc k) n ≡ true
      before_more n e =
          more (ltb (kind_byte b n) 20) (eqb (kind_byte b n) 20) (ltb (field b n 0) k) (ltb (field b n 0) (suc k))
          (λ f. lt-ltb (field b n 0) (suc k) (omega (arith, ltb-true (field b n 0) k f)))
          e

  -- a list that has bits has a number below 64, and lies where `starts` says
  list_at : (k : ℕ) → 0 < length (list_of b k) → ListAt b (starts_of b 20) k
  unfolding gates_from list_of
  list_at k some = go (dec_lt k 64)
    where
      empty : 64 ≤ k → length (list_of b k) ≡ 0
      empty l = rw (no_bits b s.timely.regular.form 20 (lit< tt) (lists-numbered b s.timely.regular.form) k l)

      go : Dec (k < 64) → ListAt b (starts_of b 20) k
      go (no n) = absurd (omega (arith, empty (omega arith)))
      go (yes l) =
          let x : get_or (starts_of b 20) k 0 ≡ start_of b 20 k = start-at k (omega arith) in
          let y : get_or (starts_of b 20) (k + 1) 0 ≡ start_of b 20 (suc k) = start-at (k + 1) (omega arith) ∙ ap (start_of b 20) (add-one k) in
          record {
            small = l;
            rises = rw (x, y) (start-rises k);
            whole = rw y (omega (arith, start-most (suc k)));
            bits = rw (x, y) (list-stands b s.timely.regular.form k l);
          }

  -- ---- gates

  gate-is : (g : ℕ) → g < length (gates_in b) → get_or (gates_in b) g ConstFalse ≡ gate_at b g
  gate-is g l = gate-at b s.timely.regular g (omega (arith, gate-count b))

  division-lists : (g : ℕ) → g < length (gates_in b) → is_division (act_of (kind_at b g)) ≡ true → ListsFit (list_of b (field b g 0)) (list_of b (field b g 1))
  unfolding gate_at
  division-lists g l d = lists_of b g (kind_at b g) d (subst DivisionFits (gate-is g l) ((well-formed b s).divisions g l))

  laid : Laid b (starts_of b 20)
  laid =
      record {
        whole = omega (arith, gate-count b, gates-within b s.timely.regular, whole);
        gates = gate-is;
        dividend = λ g l d. list_at (field b g 0) (division-lists g l d).dividend.0;
        divisor = λ g l d. list_at (field b g 1) (division-lists g l d).divisor.0;
      }

  -- ---- roots

  formed : Formed (circuit_of b)
  formed =
      let w : WellFormed (circuit_of b) = well-formed b s in
      record {
        ordered = w.in_order;
        in_range = below-join (length (circuit_of b).gates) (map (λ (x : Bad). x.gate) (circuit_of b).bads) (map (λ (x : Constraint). x.gate) (circuit_of b).constraints) w.bad_gates w.constraint_gates;
        some = w.some_bad;
      }

  bads-at : map (λ (x : Bad). x.gate) (circuit_of b).bads ≡ map (λ (r : ℕ). field b r 0) (range (G + L) B)
  unfolding circuit_of
  bads-at =
      ap (λ (l : List ℕ). map (λ (x : Bad). x.gate) (map (bad_at b) l)) (bads-stand b s.timely.regular.form)
      ∙ (map-map (λ (x : Bad). x.gate) (bad_at b) (range (G + L) B))

  constraints-at : map (λ (x : Constraint). x.gate) (circuit_of b).constraints ≡ map (λ (r : ℕ). field b r 0) (range (G + L + B) C)
  unfolding circuit_of
  constraints-at =
      ap (λ (l : List ℕ). map (λ (x : Constraint). x.gate) (map (constraint_at b) l)) (constraints-stand b s.timely.regular.form)
      ∙ (map-map (λ (x : Constraint). x.gate) (constraint_at b) (range (G + L + B) C))

  roots-at : RootsAt b (G + L) B C
  unfolding gates_from
  roots-at =
      record {
        whole = omega (arith, all-stand b s.timely.regular.form, whole);
        roots =
            ap₂ ◌++◌ bads-at constraints-at
            ∙ sym (ap (map (λ (r : ℕ). field b r 0)) (range-join B C (G + L)) ∙ map-join (λ (r : ℕ). field b r 0) (range (G + L) B) (range (G + L + B) C));
        counted = bad-count b;
        few = omega (arith, s.timely.regular.bads);
      }

  -- What `number` asks of the bytes holds of every accepted file, with the starts that `list_starts` gives.
  pub prepared : Prepared b (starts_of b 20) (G + L) B C
  prepared = record { laid = laid; formed = formed; small = omega (arith, (well-formed b s).few_gates); roots_at = roots-at }

  -- What the tables say after a numbering that is not refused is what demand 3 asks.
  pub accepted-numbering : (t : State) → number (circuit_of b) ≡ numbered t → Numbering (named_of (circuit_of b) t)
  accepted-numbering t e = numbering (circuit_of b) formed t (finished (circuit_of b) formed t e)
