-- What acceptance gives: of a file that the checks accept, the circuit is well formed, so that no later layer has to look at bytes again.
-- The theorems that an edit of a definition breaks are in proofs/Accepted.antt.
-- Assumes nothing.
use Prim.Native.Nat.{ℕ, zero, suc, ◌+◌, ◌*◌, ◌≤◌, ◌<◌}
use Rattle.std.specs.Prelude.{◌≡◌, Bool, true, false, ◌&&◌, ◌||◌, List, [], ◌∷◌, ◌++◌, map, leb, eqb, length, get_or, None}
use Rattle.std.proofs.Math.Path.{refl, subst}
use Rattle.std.proofs.Common.{sym, ap, ◌∙◌, arith, zero-add, leb-true, leb-false, eqb-true, le-leb}
use Rattle.std.proofs.Math.Decide.{dec_le}
use Rattle.std.proofs.lemmas.Bool.{not-false}
use Rattle.std.proofs.Math.ListN.{length-map, get_or-eq_default}
use Rattle.energy.specs.Circuit.{Gate, Bad, Constraint, Input, Circuit, Node, node, nodes_of, Before, AllBelow, IsAdder}
use Rattle.energy.specs.Circuit.{ConstFalse, ConstTrue, InputBit, Not, And, Nand, Or, Matriarch1, CarryHalfAdder, CarryFullAdder, ResultHalfAdder, ResultFullAdder, Quotient, Remainder}
use Rattle.circuit.specs.declared.Counts.{Counts}
use Rattle.circuit.specs.File.{records, kind_byte, field, kind_of, kind_at, those, is_kind, places_of, count_of, is_bit_of, bits_of}
use Rattle.circuit.specs.Search.{found_nowhere}
use Rattle.circuit.specs.Count.{by-test, all_of, range, length-range, get_or-range, get_d_of}
use Rattle.circuit.specs.Meaning.{list_of, gate_of, gate_at, bad_at, constraint_at, input_of, numbers_to, how_many, first_numbers, circuit_of}
use Rattle.circuit.specs.Form.{used_fields, times}
use Rattle.circuit.specs.Passing.{neither}
use Rattle.circuit.specs.Ordered.{gates-stand, gate-kinds}
use Rattle.circuit.specs.Numbers.{Numbered, lists-numbered, inputs-numbered, bits-count}
use Rattle.circuit.specs.Starts.{Regular}
use Rattle.circuit.specs.Earlier.{named_by, not_below}
use Rattle.circuit.specs.Partner.{is_empty, wrong_adder, empty_list, wrong_input, wrong, first_wrong}
use Rattle.circuit.specs.Marks.{Timely, early-at, gates-within, input-gate}
use Rattle.circuit.specs.Check.{counts_of}

-- A file that passed all checks but the last, 7.
pub record Sound (c : List ℕ) : Type 0 where
  pub timely : Timely c
  pub partnered : first_wrong c ≡ None
  pub some_bad : 0 < count_of c 21 21

-- ---- the gates of the circuit

-- gate n is record n
pub gate-at : (c : List ℕ) → Regular c → (n : ℕ) → n < count_of c 0 13 → get_or (circuit_of c).gates n ConstFalse ≡ gate_at c n
unfolding circuit_of
gate-at c h n l =
    rw (gates-stand c h.form)
    (get_d_of (gate_at c) (range 0 (count_of c 0 13)) n 0 ConstFalse (rw (length-range (count_of c 0 13) 0) l) ∙ ap (gate_at c) (get_or-range (count_of c 0 13) 0 n 0 l ∙ zero-add n))

pub gate-count : (c : List ℕ) → length (circuit_of c).gates ≡ count_of c 0 13
unfolding circuit_of
gate-count c = length-map (places_of c 0 13) (gate_at c)

-- what a gate's kind can be
gate-cases {ℓ} : {A : Type ℓ} (k : ℕ) → k ≤ 13 → (k ≡ 0 → A) → (k ≡ 1 → A) → (k ≡ 2 → A) → (k ≡ 3 → A) → (k ≡ 4 → A) → (k ≡ 5 → A) → (k ≡ 6 → A) → (k ≡ 7 → A) → (k ≡ 8 → A) → (k ≡ 9 → A) → (k ≡ 10 → A) → (k ≡ 11 → A) → (k ≡ 12 → A) → (k ≡ 13 → A) → A
gate-cases k l f0 f1 f2 f3 f4 f5 f6 f7 f8 f9 f10 f11 f12 f13 =
    by-test (leb k 0) (λ e. f0 (omega (arith, leb-true k 0 e))) (λ e0. by-test (leb k 1) (λ e. f1 (omega (arith, leb-true k 1 e, leb-false k 0 e0))) (λ e1. by-test (leb k 2) (λ e. f2 (omega (arith, leb-true k 2 e, leb-false k 1 e1))) (λ e2. by-test (leb k 3) (λ e. f3 (omega (arith, leb-true k 3 e, leb-false k 2 e2))) (λ e3. by-test (leb k 4) (λ e. f4 (omega (arith, leb-true k 4 e, leb-false k 3 e3))) (λ e4. by-test (leb k 5) (λ e. f5 (omega (arith, leb-true k 5 e, leb-false k 4 e4))) (λ e5. by-test (leb k 6) (λ e. f6 (omega (arith, leb-true k 6 e, leb-false k 5 e5))) (λ e6. by-test (leb k 7) (λ e. f7 (omega (arith, leb-true k 7 e, leb-false k 6 e6))) (λ e7. by-test (leb k 8) (λ e. f8 (omega (arith, leb-true k 8 e, leb-false k 7 e7))) (λ e8. by-test (leb k 9) (λ e. f9 (omega (arith, leb-true k 9 e, leb-false k 8 e8))) (λ e9. by-test (leb k 10) (λ e. f10 (omega (arith, leb-true k 10 e, leb-false k 9 e9))) (λ e10. by-test (leb k 11) (λ e. f11 (omega (arith, leb-true k 11 e, leb-false k 10 e10))) (λ e11. by-test (leb k 12) (λ e. f12 (omega (arith, leb-true k 12 e, leb-false k 11 e11))) (λ e12. f13 (omega (arith, leb-false k 12 e12)))))))))))))))

-- none that is not below is all below
all-below : (n : ℕ) (gs : List ℕ) → not_below n gs ≡ false → AllBelow n gs
unfolding not_below
all-below n [] e = tt
all-below n (g ∷ gs) e =
    let both : (leb n g ≡ false) × (not_below n gs ≡ false) = neither (leb n g) (not_below n gs) e in
    (leb-false n g both.0, all-below n gs both.1)

module _ (c : List ℕ) (t : Timely c) where
  -- every gate names only earlier ones
  pub names-below : (n : ℕ) → n < count_of c 0 13 → AllBelow n (named_by c n)
  names-below n l =
      let u : n < records c = omega (arith, gates-within c t.regular) in
      all-below n (named_by c n) (rw (le-leb (kind_byte c n) 13 (gate-kinds c t.regular.form n l)) at (early-at c t n u).gate)

  module _ (n : ℕ) (l : n < count_of c 0 13) where
    -- the gates that a gate of one, two or three operands names
    below-1 : (k : ℕ) → kind_byte c n ≡ k → leb 12 k ≡ false → used_fields k ≡ 1 → field c n 0 < n
    unfolding named_by
    below-1 k e f g =
        let h : AllBelow n (field c n 0 ∷ []) = rw (e, f, g) at (names-below n l) in
        h.0

    below-2 : (k : ℕ) → kind_byte c n ≡ k → leb 12 k ≡ false → used_fields k ≡ 2 → (field c n 0 < n) × (field c n 1 < n)
    unfolding named_by
    below-2 k e f g =
        let h : AllBelow n (field c n 0 ∷ field c n 1 ∷ []) = rw (e, f, g) at (names-below n l) in
        (h.0, h.1.0)

    below-3 : (k : ℕ) → kind_byte c n ≡ k → leb 12 k ≡ false → used_fields k ≡ 3 → (field c n 0 < n) × (field c n 1 < n) × (field c n 2 < n)
    unfolding named_by
    below-3 k e f g =
        let h : AllBelow n (field c n 0 ∷ field c n 1 ∷ field c n 2 ∷ []) = rw (e, f, g) at (names-below n l) in
        (h.0, h.1.0, h.1.1.0)

    below-lists : (k : ℕ) → kind_byte c n ≡ k → leb 12 k ≡ true → AllBelow n (list_of c (field c n 0) ++ list_of c (field c n 1))
    unfolding named_by
    below-lists k e f = rw (e, f) at (names-below n l)

-- ---- what check 5 gives of record n

pub record Partnered (c : List ℕ) (n : ℕ) : Type 0 where
  pub adder : wrong_adder c n ≡ false
  pub lists : empty_list c n ≡ false
  pub input : wrong_input c n ≡ false

pub partnered-at : (c : List ℕ) → Sound c → (n : ℕ) → n < records c → Partnered c n
unfolding wrong first_wrong
partnered-at c s n l =
    let t1 = neither _ _ (found_nowhere (wrong c) (records c) 0 s.partnered n (omega arith) (omega arith)) in
    let t0 = neither _ _ t1.0 in
    record { adder = t0.0; lists = t0.1; input = t1.1 }

module _ (c : List ℕ) (s : Sound c) (n : ℕ) (u : n < records c) where
  pub half-adder : kind_byte c n ≡ 8 → kind_byte c (field c n 0) ≡ 9
  half-adder e =
      let t = neither _ _ (rw e at (partnered-at c s n u).adder) in
      eqb-true (kind_byte c (field c n 0)) 9 (not-false (eqb (kind_byte c (field c n 0)) 9) t.0)

  pub full-adder : kind_byte c n ≡ 10 → kind_byte c (field c n 0) ≡ 11
  full-adder e =
      eqb-true (kind_byte c (field c n 0)) 11 (not-false (eqb (kind_byte c (field c n 0)) 11) (rw e at (partnered-at c s n u).adder))

  pub input-bit : kind_byte c n ≡ 23 → kind_byte c (field c n 1) ≡ 2
  input-bit e =
      let t = neither _ _ (rw e at (partnered-at c s n u).input) in
      eqb-true (kind_byte c (field c n 1)) 2 (not-false (eqb (kind_byte c (field c n 1)) 2) t.0)

-- ---- the gates are in order

-- a gate, by its kind
gate-of : (c : List ℕ) (n k : ℕ) → kind_byte c n ≡ k → gate_at c n ≡ gate_of c (kind_of k) n
unfolding gate_at kind_at
gate-of c n k e = ap (λ (x : ℕ). gate_of c (kind_of x) n) e

module _ (c : List ℕ) (s : Sound c) where
  abbrev gates : List Gate
  gates = (circuit_of c).gates

  regular-of : Regular c
  regular-of = s.timely.regular

  node_at : (n : ℕ) → n < count_of c 0 13 → (g : Gate) → gate_at c n ≡ g → nodes_of (circuit_of c).gates n ≡ node g
  node_at n l g e = ap node (gate-at c regular-of n l ∙ e)

  before_at : (n : ℕ) → n < count_of c 0 13 → (g : Gate) → gate_at c n ≡ g → Before (nodes_of (circuit_of c).gates) n (node g) → Before (nodes_of (circuit_of c).gates) n (nodes_of (circuit_of c).gates n)
  before_at n l g e h = subst (λ (x : Node). Before (nodes_of (circuit_of c).gates) n x) (sym (node_at n l g e)) h

  is-half : (a : ℕ) → a < count_of c 0 13 → kind_byte c a ≡ 9 → IsAdder (nodes_of (circuit_of c).gates a)
  unfolding kind_of
  is-half a l e = subst IsAdder (sym (node_at a l (ResultHalfAdder (field c a 0) (field c a 1)) (gate-of c a 9 e))) refl

  is-full : (a : ℕ) → a < count_of c 0 13 → kind_byte c a ≡ 11 → IsAdder (nodes_of (circuit_of c).gates a)
  unfolding kind_of
  is-full a l e = subst IsAdder (sym (node_at a l (ResultFullAdder (field c a 0) (field c a 1) (field c a 2)) (gate-of c a 11 e))) refl

  -- a gate's operands come earlier, and a carry's adder is an adder
  in_order : (n : ℕ) → n < count_of c 0 13 → Before (nodes_of (circuit_of c).gates) n (nodes_of (circuit_of c).gates n)
  unfolding kind_of used_fields
  in_order n l =
      let u : n < records c = omega (arith, gates-within c regular-of) in
      gate-cases (kind_byte c n) (gate-kinds c regular-of.form n l)
      (λ e. before_at n l _ (gate-of c n 0 e) tt)
      (λ e. before_at n l _ (gate-of c n 1 e) tt)
      (λ e. before_at n l _ (gate-of c n 2 e) tt)
      (λ e. let a = below-1 c s.timely n l 3 e refl refl in before_at n l _ (gate-of c n 3 e) (a, a, a))
      (λ e. let a = below-2 c s.timely n l 4 e refl refl in before_at n l _ (gate-of c n 4 e) (a.0, a.1, a.0))
      (λ e. let a = below-2 c s.timely n l 5 e refl refl in before_at n l _ (gate-of c n 5 e) (a.0, a.1, a.0))
      (λ e. let a = below-2 c s.timely n l 6 e refl refl in before_at n l _ (gate-of c n 6 e) (a.0, a.1, a.0))
      (λ e. let a = below-2 c s.timely n l 7 e refl refl in before_at n l _ (gate-of c n 7 e) (a.0, a.1, a.0))
      (λ e. let a = below-1 c s.timely n l 8 e refl refl in before_at n l _ (gate-of c n 8 e) (a, is-half (field c n 0) (omega arith) (half-adder c s n u e)))
      (λ e. let a = below-2 c s.timely n l 9 e refl refl in before_at n l _ (gate-of c n 9 e) (a.0, a.1, a.0))
      (λ e. let a = below-1 c s.timely n l 10 e refl refl in before_at n l _ (gate-of c n 10 e) (a, is-full (field c n 0) (omega arith) (full-adder c s n u e)))
      (λ e. let a = below-3 c s.timely n l 11 e refl refl in before_at n l _ (gate-of c n 11 e) a)
      (λ e. before_at n l _ (gate-of c n 12 e) (below-lists c s.timely n l 12 e refl))
      (λ e. before_at n l _ (gate-of c n 13 e) (below-lists c s.timely n l 13 e refl))

  -- The gates are in order, so that the circuit has its own run (energy, `value-step`).
  pub ordered : (n : ℕ) → Before (nodes_of (circuit_of c).gates) n (nodes_of (circuit_of c).gates n)
  ordered n = go (dec_le (suc n) (count_of c 0 13))
    where
      go : Dec (suc n ≤ count_of c 0 13) → Before (nodes_of (circuit_of c).gates) n (nodes_of (circuit_of c).gates n)
      go (yes d) = in_order n d
      go (no d) =
          let e : nodes_of (circuit_of c).gates n ≡ node ConstFalse = ap node (get_or-eq_default (circuit_of c).gates ConstFalse {n = n} (omega (arith, gate-count c))) in
          subst (λ (x : Node). Before (nodes_of (circuit_of c).gates) n x) (sym e) tt

-- ---- bad states, constraints and inputs

module _ {A : Type 0} (h : A → ℕ) (f : ℕ → A) (p : ℕ → Bool) (g : ℕ) where
  -- what holds of each that passes holds of all of them
  those-below : (m n : ℕ) → ((k : ℕ) → k < n + m → p k ≡ true → h (f k) < g) → AllBelow g (map h (map f (those p n m)))
  unfolding those
  those-below zero n q = tt
  those-below (suc m) n q = by-test (p n) (λ e. rw e (q n (omega arith) e, those-below m (suc n) (λ k l. q k (omega arith)))) (λ e. rw e (those-below m (suc n) (λ k l. q k (omega arith))))

module _ (f : ℕ → ℕ) (p : ℕ → Bool) (g : ℕ) where
  each_below : (m n : ℕ) → ((k : ℕ) → k < n + m → p k ≡ true → f k < g) → AllBelow g (map f (those p n m))
  unfolding those
  each_below zero n q = tt
  each_below (suc m) n q = by-test (p n) (λ e. rw e (q n (omega arith) e, each_below m (suc n) (λ k l. q k (omega arith)))) (λ e. rw e (each_below m (suc n) (λ k l. q k (omega arith))))

-- every one of these gates is an InputBit
abbrev pub AllBits : List Gate → List ℕ → Type 0
AllBits gs [] = Unit
AllBits gs (g ∷ bs) = (get_or gs g ConstFalse ≡ InputBit) × AllBits gs bs

module _ (gs : List Gate) (f : ℕ → ℕ) (p : ℕ → Bool) where
  each-bit : (m n : ℕ) → ((k : ℕ) → k < n + m → p k ≡ true → get_or gs (f k) ConstFalse ≡ InputBit) → AllBits gs (map f (those p n m))
  unfolding those
  each-bit zero n q = tt
  each-bit (suc m) n q = by-test (p n) (λ e. rw e (q n (omega arith) e, each-bit m (suc n) (λ k l. q k (omega arith)))) (λ e. rw e (each-bit m (suc n) (λ k l. q k (omega arith))))

both_true : (a b : Bool) → (a && b) ≡ true → (a ≡ true) × (b ≡ true)
both_true true b e = (refl, e)
both_true false b e = let z : ◌≡◌ {A = ℕ} 0 1 = cc in absurd (omega arith)

is-kind : (c : List ℕ) (k n : ℕ) → is_kind c k k n ≡ true → kind_byte c n ≡ k
is-kind c k n e =
    let t = both_true (leb k (kind_byte c n)) (leb (kind_byte c n) k) e in
    omega (arith, leb-true k (kind_byte c n) t.0, leb-true (kind_byte c n) k t.1)

is-bit : (c : List ℕ) (kind k n : ℕ) → is_bit_of c kind k n ≡ true → kind_byte c n ≡ kind
is-bit c kind k n e = eqb-true (kind_byte c n) kind (both_true (eqb (kind_byte c n) kind) (eqb (field c n 0) k) e).0

pub bad-count : (c : List ℕ) → length (circuit_of c).bads ≡ count_of c 21 21
unfolding circuit_of
bad-count c = length-map (places_of c 21 21) (bad_at c)

pub constraint-count : (c : List ℕ) → length (circuit_of c).constraints ≡ count_of c 22 22
unfolding circuit_of
constraint-count c = length-map (places_of c 22 22) (constraint_at c)

numbers-range : (n : ℕ) → first_numbers n ≡ range 0 n
unfolding first_numbers
numbers-range n = all_of (λ (k : ℕ). true) n 0 (λ k l u. refl)

pub input-count : (c : List ℕ) → length (circuit_of c).inputs ≡ how_many (numbers_to c 23 (records c))
unfolding circuit_of
input-count c =
    rw (numbers-range (how_many (numbers_to c 23 (records c))))
    (length-map (range 0 (how_many (numbers_to c 23 (records c)))) (input_of c) ∙ length-range (how_many (numbers_to c 23 (records c))) 0)

-- input k of the circuit
pub input-at : (c : List ℕ) (k : ℕ) (d : Input) → k < how_many (numbers_to c 23 (records c)) → get_or (circuit_of c).inputs k d ≡ input_of c k
unfolding circuit_of
input-at c k d l =
    rw (numbers-range (how_many (numbers_to c 23 (records c))))
    (get_d_of (input_of c) (range 0 (how_many (numbers_to c 23 (records c)))) k 0 d (rw (length-range (how_many (numbers_to c 23 (records c))) 0) l) ∙ ap (input_of c) (get_or-range (how_many (numbers_to c 23 (records c))) 0 k 0 l ∙ zero-add k))

module _ (c : List ℕ) (t : Timely c) where
  bad-gate : (n : ℕ) → n < records c → kind_byte c n ≡ 21 → field c n 0 < count_of c 0 13
  bad-gate n l e = leb-false (count_of c 0 13) (field c n 0) (rw e at (early-at c t n l).in_a)

  constraint-gate : (n : ℕ) → n < records c → kind_byte c n ≡ 22 → field c n 0 < count_of c 0 13
  constraint-gate n l e = leb-false (count_of c 0 13) (field c n 0) (rw e at (early-at c t n l).in_a)

  pub bads-below : AllBelow (count_of c 0 13) (map (λ (b : Bad). b.gate) (circuit_of c).bads)
  unfolding circuit_of
  bads-below =
      those-below (λ (b : Bad). b.gate) (bad_at c) (is_kind c 21 21) (count_of c 0 13) (records c) 0 (λ k l e. bad-gate k (omega arith) (is-kind c 21 k e))

  pub constraints-below : AllBelow (count_of c 0 13) (map (λ (b : Constraint). b.gate) (circuit_of c).constraints)
  unfolding circuit_of
  constraints-below =
      those-below (λ (b : Constraint). b.gate) (constraint_at c) (is_kind c 22 22) (count_of c 0 13) (records c) 0 (λ k l e. constraint-gate k (omega arith) (is-kind c 22 k e))

-- what is right of an input: its bits are gates, InputBits, and 1 to 64 of them
pub record GoodInput (gs : List Gate) (i : Input) : Type 0 where
  pub below : AllBelow (length gs) i.bits
  pub are_bits : AllBits gs i.bits
  pub some : 0 < length i.bits
  pub most : length i.bits ≤ 64

module _ (c : List ℕ) (s : Sound c) where
  an-input-bit : (n : ℕ) → n < records c → kind_byte c n ≡ 23 → get_or (circuit_of c).gates (field c n 1) ConstFalse ≡ InputBit
  unfolding kind_of
  an-input-bit n l e =
      gate-at c s.timely.regular (field c n 1) (input-gate c s.timely n l e) ∙ gate-of c (field c n 1) 2 (input-bit c s n l e)

  pub input-good : (k : ℕ) → k < how_many (numbers_to c 23 (records c)) → GoodInput (circuit_of c).gates (input_of c k)
  input-good k l =
      let num : Numbered c 23 = inputs-numbered c s.timely.regular.form in
      let long : length (map (λ (n : ℕ). field c n 1) (bits_of c 23 k)) ≡ times k (numbers_to c 23 (records c)) = length-map (bits_of c 23 k) (λ (n : ℕ). field c n 1) ∙ bits-count c 23 k in
      record {
        below = rw (gate-count c) (each_below (λ (n : ℕ). field c n 1) (is_bit_of c 23 k) (count_of c 0 13) (records c) 0 (λ n i e. input-gate c s.timely n (omega arith) (is-bit c 23 k n e)));
        are_bits = each-bit (circuit_of c).gates (λ (n : ℕ). field c n 1) (is_bit_of c 23 k) (records c) 0 (λ n i e. an-input-bit n (omega arith) (is-bit c 23 k n e));
        some = omega (arith, num.some k l);
        most = omega (arith, num.most k);
      }

-- a division's two lists have 1 to 64 bits each
pub record ListsFit (n d : List ℕ) : Type 0 where
  pub dividend : (0 < length n) × (length n ≤ 64)
  pub divisor : (0 < length d) × (length d ≤ 64)

abbrev pub DivisionFits : Gate → Type 0
DivisionFits ConstFalse = Unit
DivisionFits ConstTrue = Unit
DivisionFits InputBit = Unit
DivisionFits (Not a) = Unit
DivisionFits (And a b) = Unit
DivisionFits (Nand a b) = Unit
DivisionFits (Or a b) = Unit
DivisionFits (Matriarch1 a b) = Unit
DivisionFits (CarryHalfAdder a) = Unit
DivisionFits (CarryFullAdder a) = Unit
DivisionFits (ResultHalfAdder a b) = Unit
DivisionFits (ResultFullAdder a b d) = Unit
DivisionFits (Quotient i n d) = ListsFit n d
DivisionFits (Remainder i n d) = ListsFit n d

module _ (c : List ℕ) (s : Sound c) where
  list-most : (k : ℕ) → length (list_of c k) ≤ 64
  unfolding list_of
  list-most k =
      omega (arith, length-map (bits_of c 20 k) (λ (n : ℕ). field c n 1), bits-count c 20 k, (lists-numbered c s.timely.regular.form).most k)

  not-empty : (l : List ℕ) → is_empty l ≡ false → 0 < length l
  not-empty [] e = let z : ◌≡◌ {A = ℕ} 0 1 = cc in absurd (omega arith)
  not-empty (x ∷ l) e = omega arith

  lists-fit : (n : ℕ) → n < records c → (eqb (kind_byte c n) 12 || eqb (kind_byte c n) 13) ≡ true → ListsFit (list_of c (field c n 0)) (list_of c (field c n 1))
  lists-fit n u e =
      let t = neither _ _ (rw e at (partnered-at c s n u).lists) in
      record {
        dividend = (not-empty (list_of c (field c n 0)) t.0, list-most (field c n 0));
        divisor = (not-empty (list_of c (field c n 1)) t.1, list-most (field c n 1));
      }

  fits-as : (n : ℕ) → n < count_of c 0 13 → (g : Gate) → gate_at c n ≡ g → DivisionFits g → DivisionFits (get_or (circuit_of c).gates n ConstFalse)
  fits-as n l g e h = subst DivisionFits (sym (gate-at c s.timely.regular n l ∙ e)) h

  division-fits : (n : ℕ) → n < count_of c 0 13 → DivisionFits (get_or (circuit_of c).gates n ConstFalse)
  unfolding kind_of
  division-fits n l =
      let u : n < records c = omega (arith, gates-within c s.timely.regular) in
      gate-cases (kind_byte c n) (gate-kinds c s.timely.regular.form n l)
      (λ e. fits-as n l _ (gate-of c n 0 e) tt)
      (λ e. fits-as n l _ (gate-of c n 1 e) tt)
      (λ e. fits-as n l _ (gate-of c n 2 e) tt)
      (λ e. fits-as n l _ (gate-of c n 3 e) tt)
      (λ e. fits-as n l _ (gate-of c n 4 e) tt)
      (λ e. fits-as n l _ (gate-of c n 5 e) tt)
      (λ e. fits-as n l _ (gate-of c n 6 e) tt)
      (λ e. fits-as n l _ (gate-of c n 7 e) tt)
      (λ e. fits-as n l _ (gate-of c n 8 e) tt)
      (λ e. fits-as n l _ (gate-of c n 9 e) tt)
      (λ e. fits-as n l _ (gate-of c n 10 e) tt)
      (λ e. fits-as n l _ (gate-of c n 11 e) tt)
      (λ e. fits-as n l _ (gate-of c n 12 e) (lists-fit n u (rw e)))
      (λ e. fits-as n l _ (gate-of c n 13 e) (lists-fit n u (rw e)))

-- ---- all of it, of the circuit alone

-- A well-formed circuit. Nothing here speaks of bytes.
pub record WellFormed (k : Circuit) : Type 0 where
  -- operands and lists come earlier, and a carry's adder is an adder
  pub in_order : (g : ℕ) → Before (nodes_of k.gates) g (nodes_of k.gates g)
  pub divisions : (g : ℕ) → g < length k.gates → DivisionFits (get_or k.gates g ConstFalse)
  -- bad states and constraints name gates
  pub bad_gates : AllBelow (length k.gates) (map (λ (b : Bad). b.gate) k.bads)
  pub constraint_gates : AllBelow (length k.gates) (map (λ (b : Constraint). b.gate) k.constraints)
  pub good_inputs : (i : ℕ) (d : Input) → i < length k.inputs → GoodInput k.gates (get_or k.inputs i d)
  pub some_bad : 0 < length k.bads
  -- the limits
  pub few_gates : length k.gates ≤ 1000
  pub few_bads : length k.bads ≤ 64
  pub few_constraints : length k.constraints ≤ 256
  pub few_inputs : length k.inputs ≤ 64

-- The circuit of a sound file is well formed.
pub well-formed : (c : List ℕ) → Sound c → WellFormed (circuit_of c)
well-formed c s =
    let h : Regular c = s.timely.regular in
    record {
      in_order = ordered c s;
      divisions = λ g l. division-fits c s g (omega (arith, gate-count c));
      bad_gates = rw (gate-count c) (bads-below c s.timely);
      constraint_gates = rw (gate-count c) (constraints-below c s.timely);
      good_inputs = λ i d l. let m : i < how_many (numbers_to c 23 (records c)) = omega (arith, input-count c) in rw (input-at c i d m) (input-good c s i m);
      some_bad = omega (arith, bad-count c, s.some_bad);
      few_gates = omega (arith, gate-count c, h.gates);
      few_bads = omega (arith, bad-count c, h.bads);
      few_constraints = omega (arith, constraint-count c, h.constraints);
      few_inputs = omega (arith, input-count c, (inputs-numbered c h.form).few);
    }

-- The counts are the lengths of the circuit's lists.
pub record CountsAre (n : Counts) (k : Circuit) : Type 0 where
  pub gates : n.gates ≡ length k.gates
  pub bads : n.bad_states ≡ length k.bads
  pub constraints : n.constraints ≡ length k.constraints
  pub inputs : n.inputs ≡ length k.inputs

pub counts-are : (c : List ℕ) → CountsAre (counts_of c) (circuit_of c)
unfolding counts_of
counts-are c = record { gates = sym (gate-count c); bads = sym (bad-count c); constraints = sym (constraint-count c); inputs = sym (input-count c) }

-- ---- what the answer `Accepted` says

-- The file is sound, the counts are its own, and the tables have room.
pub record Accepts (c : List ℕ) (gates qubits pairs : ℕ) (n : Counts) : Type 0 where
  pub sound : Sound c
  pub counts : n ≡ counts_of c
  pub enough_gates : n.gates ≤ gates
  pub enough_qubits : 3 * n.gates + n.bad_states + 1 ≤ qubits
  pub enough_pairs : 10 * n.gates + 3 * n.bad_states ≤ pairs
