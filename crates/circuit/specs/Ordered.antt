-- What check 3 gives of a file whose form is right: each section stands in one stretch, after the sections before it, and so does each list.
-- Assumes nothing.
use Rattle.std.specs.Prelude.{ℕ, zero, suc, ◌+◌, ◌-◌, ◌≤◌, ◌<◌, ◌≡◌, Bool, false, ◌&&◌, List, leb, eqb, length, None}
use Rattle.std.proofs.Common.{sym, ap, ◌∙◌, arith, add-one}
use borrow.Author.Tests.{ltb-true, ltb-false, leb-true, leb-false, eqb-true, eqb-false, lt-ltb, le-ltb, le-leb, lt-leb, eq-eqb, ne_eqb}
use Rattle.std.proofs.Math.Dec.{ltb}
use Rattle.circuit.specs.declared.Section.{Section}
use Rattle.circuit.specs.declared.Section.TheVariants.{Gates, ListBits, BadStates, Constraints, InputBits, Unknown}
use Rattle.circuit.specs.declared.Passed.{Passed}
use Rattle.circuit.specs.File.{records, kind_byte, section_of, section_at, those, places_of, count_of}
use Rattle.circuit.specs.Search.{any_before, found_nowhere}
use Rattle.circuit.specs.Count.{by-test, range, count-all, count_none, Rising, under, under-mono, boundary, together, length-range, those-same}
use Rattle.circuit.specs.Form.{order_of, order_at, misplaced, unused_set, bad_value, misnumbered_as, other_nid, breaks, first_broken}
use Rattle.circuit.specs.Passing.{neither, after, start, Holds, holds-start, holds_after, breaks-by}

-- ---- kinds and the order of sections

-- what a kind can be
pub kind-cases {ℓ} : {A : Type ℓ} (k : ℕ) → (k ≤ 13 → order_of (section_of k) ≡ 0 → A) → (k ≡ 20 → order_of (section_of k) ≡ 1 → A) → (k ≡ 21 → order_of (section_of k) ≡ 2 → A) → (k ≡ 22 → order_of (section_of k) ≡ 3 → A) → (k ≡ 23 → order_of (section_of k) ≡ 4 → A) → (13 < k → (k ≡ 20 → ⊥) → (k ≡ 21 → ⊥) → (k ≡ 22 → ⊥) → (k ≡ 23 → ⊥) → order_of (section_of k) ≡ 5 → A) → A
unfolding section_of
kind-cases k g l b c i u =
    by-test (leb k 13) (λ e. g (leb-true k 13 e) (rw e)) (λ e. by-test (eqb k 20) (λ f. l (eqb-true k 20 f) (rw (e, f))) (λ f. by-test (eqb k 21) (λ f2. b (eqb-true k 21 f2) (rw (e, f, f2))) (λ f2. by-test (eqb k 22) (λ f3. c (eqb-true k 22 f3) (rw (e, f, f2, f3))) (λ f3. by-test (eqb k 23) (λ f4. i (eqb-true k 23 f4) (rw (e, f, f2, f3, f4))) (λ f4. u (leb-false k 13 e) (eqb-false k 20 f) (eqb-false k 21 f2) (eqb-false k 22 f3) (eqb-false k 23 f4) (rw (e, f, f2, f3, f4)))))))

-- the two kinds of test agree: by number, and by place in the order
pub gate-kind : (k : ℕ) → (leb 0 k && leb k 13) ≡ eqb (order_of (section_of k)) 0
gate-kind k =
    kind-cases k
    (λ l e. rw (e, le-leb 0 k (omega arith), le-leb k 13 l))
    (λ l e. rw (e, l))
    (λ l e. rw (e, l))
    (λ l e. rw (e, l))
    (λ l e. rw (e, l))
    (λ l f1 f2 f3 f4 e. rw (e, le-leb 0 k (omega arith), lt-leb k 13 l))

pub list-kind : (k : ℕ) → eqb k 20 ≡ eqb (order_of (section_of k)) 1
list-kind k =
    kind-cases k
    (λ l e. rw (e, ne_eqb k 20 (λ z. omega arith)))
    (λ l e. rw (e, l))
    (λ l e. rw (e, l))
    (λ l e. rw (e, l))
    (λ l e. rw (e, l))
    (λ l f1 f2 f3 f4 e. rw (e, ne_eqb k 20 f1))

pub bad_kind : (k : ℕ) → eqb k 21 ≡ eqb (order_of (section_of k)) 2
bad_kind k =
    kind-cases k
    (λ l e. rw (e, ne_eqb k 21 (λ z. omega arith)))
    (λ l e. rw (e, l))
    (λ l e. rw (e, l))
    (λ l e. rw (e, l))
    (λ l e. rw (e, l))
    (λ l f1 f2 f3 f4 e. rw (e, ne_eqb k 21 f2))

pub constraint-kind : (k : ℕ) → eqb k 22 ≡ eqb (order_of (section_of k)) 3
constraint-kind k =
    kind-cases k
    (λ l e. rw (e, ne_eqb k 22 (λ z. omega arith)))
    (λ l e. rw (e, l))
    (λ l e. rw (e, l))
    (λ l e. rw (e, l))
    (λ l e. rw (e, l))
    (λ l f1 f2 f3 f4 e. rw (e, ne_eqb k 22 f3))

pub input-kind : (k : ℕ) → eqb k 23 ≡ eqb (order_of (section_of k)) 4
input-kind k =
    kind-cases k
    (λ l e. rw (e, ne_eqb k 23 (λ z. omega arith)))
    (λ l e. rw (e, l))
    (λ l e. rw (e, l))
    (λ l e. rw (e, l))
    (λ l e. rw (e, l))
    (λ l f1 f2 f3 f4 e. rw (e, ne_eqb k 23 f4))

one-kind : (x k : ℕ) → (leb x k && leb k x) ≡ eqb k x
one-kind x k =
    by-test (leb x k)
    (λ e. by-test (leb k x) (λ f. rw (e, f, eq-eqb k x (omega (arith, leb-true x k e, leb-true k x f)))) (λ f. rw (e, f, ne_eqb k x (λ z. omega (arith, leb-false k x f)))))
    (λ e. rw (e, ne_eqb k x (λ z. omega (arith, leb-false x k e))))

-- ---- a file whose form is right, record by record

any_none : (p : ℕ → Bool) (n : ℕ) → any_before p n ≡ false → (k : ℕ) → k < n → p k ≡ false
unfolding any_before
any_none p zero e k l = absurd (omega arith)
any_none p (suc n) e k l = go (native.Mathlib.Decide.dec_le (suc k) n) (neither (any_before p n) (p n) e) (λ f d. any_none p n f k d)
  where
    go : Dec (suc k ≤ n) → (any_before p n ≡ false) × (p n ≡ false) → (any_before p n ≡ false → k < n → p k ≡ false) → p k ≡ false
    go (yes d) both next = next both.0 d
    go (no d) both next = ap p (omega arith) ∙ both.1

order-most : (s : Section) → order_of s ≤ 5
order-most Gates = omega arith
order-most ListBits = omega arith
order-most BadStates = omega arith
order-most Constraints = omega arith
order-most InputBits = omega arith
order-most Unknown = omega arith

-- what the form says of record n
pub record Formed (c : List ℕ) (n : ℕ) : Type 0 where
  pub known : eqb (order_at c n) 5 ≡ false
  pub placed : misplaced c n ≡ false
  pub unused : unused_set c n ≡ false
  pub list : misnumbered_as 20 c n ≡ false
  pub input : misnumbered_as 23 c n ≡ false
  pub value : bad_value c n ≡ false
  pub nid : other_nid c n ≡ false

module _ (c : List ℕ) (form : first_broken c ≡ None) where
  pub unbroken : (n : ℕ) → n < records c → breaks c n ≡ false
  unfolding first_broken
  unbroken n l = found_nowhere (breaks c) (records c) 0 form n (omega arith) (omega arith)

  pub formed : (n : ℕ) → n < records c → Formed c n
  unfolding breaks
  formed n l =
      let t6 = neither _ _ (unbroken n l) in
      let t5 = neither _ _ t6.0 in
      let t4 = neither _ _ t5.0 in
      let t3 = neither _ _ t4.0 in
      let t2 = neither _ _ t3.0 in
      let t1 = neither _ _ t2.0 in
      record { known = t1.0; placed = t1.1; unused = t2.1; list = t3.1; input = t4.1; value = t5.1; nid = t6.1 }

  pub known-order : (n : ℕ) → n < records c → order_at c n < 5
  unfolding order_at
  known-order n l = omega (arith, order-most (section_at c n), eqb-false (order_at c n) 5 (formed n l).known)

  -- sections only rise
  pub order-rising : Rising (order_at c) (records c)
  unfolding misplaced
  order-rising m n l u =
      ltb-false (order_at c n) (order_at c m) (any_none (λ (k : ℕ). ltb (order_at c n) (order_at c k)) n (formed n u).placed m l)

  -- what has passed before each record
  pub passed-at : (n : ℕ) → n ≤ records c → (p : Passed) × Holds c n p
  passed-at zero l = (start, holds-start c)
  passed-at (suc n) l =
      let before = passed-at n (omega arith) in
      (after c n before.0, rw (← add-one) (holds_after c n before.0 before.1 (sym (breaks-by c n before.0 before.1) ∙ unbroken n (omega arith))))

-- ---- each section stands in one stretch

-- where section s starts
abbrev sec : List ℕ → ℕ → ℕ
sec c s = under (order_at c) (records c) s

gates-by : (c : List ℕ) → places_of c 0 13 ≡ those (λ (n : ℕ). eqb (order_at c n) 0) 0 (records c)
unfolding order_at section_at
gates-by c = those-same _ _ 0 (records c) (λ n. gate-kind (kind_byte c n))

kind-by : (c : List ℕ) (x s : ℕ) → ((k : ℕ) → eqb k x ≡ eqb (order_of (section_of k)) s) → places_of c x x ≡ those (λ (n : ℕ). eqb (order_at c n) s) 0 (records c)
unfolding order_at section_at
kind-by c x s h = those-same _ _ 0 (records c) (λ n. one-kind x (kind_byte c n) ∙ h (kind_byte c n))

module _ (c : List ℕ) (form : first_broken c ≡ None) where
  stretch : (s : ℕ) (l : List ℕ) → l ≡ those (λ (n : ℕ). eqb (order_at c n) s) 0 (records c) → (l ≡ range (sec c s) (length l)) × (sec c (suc s) ≡ sec c s + length l)
  stretch s l e =
      let t : l ≡ range (sec c s) (sec c (suc s) - sec c s) = e ∙ together (order_at c) s (records c) (order-rising c form) in
      let m : length l ≡ sec c (suc s) - sec c s = ap length t ∙ length-range (sec c (suc s) - sec c s) (sec c s) in
      (t ∙ ap (range (sec c s)) (sym m), omega (arith, under-mono (order_at c) (records c) s))

  first-at : sec c 0 ≡ 0
  first-at = count_none (λ (n : ℕ). ltb (order_at c n) 0) (records c) (λ m l. le-ltb (order_at c m) 0 (omega arith))

  -- where the gates end
  pub lists_at : under (order_at c) (records c) 1 ≡ count_of c 0 13
  lists_at = (stretch 0 (places_of c 0 13) (gates-by c)).1 ∙ ap (λ (x : ℕ). x + count_of c 0 13) first-at ∙ omega arith

  -- where the bad states start
  pub bads-at : under (order_at c) (records c) 2 ≡ count_of c 0 13 + count_of c 20 20
  bads-at = (stretch 1 (places_of c 20 20) (kind-by c 20 1 list-kind)).1 ∙ ap (λ (x : ℕ). x + count_of c 20 20) lists_at

  -- where the constraints start
  pub constraints-at : under (order_at c) (records c) 3 ≡ count_of c 0 13 + count_of c 20 20 + count_of c 21 21
  constraints-at = (stretch 2 (places_of c 21 21) (kind-by c 21 2 bad_kind)).1 ∙ ap (λ (x : ℕ). x + count_of c 21 21) bads-at

  -- where the input bits start
  pub inputs-at : under (order_at c) (records c) 4 ≡ count_of c 0 13 + count_of c 20 20 + count_of c 21 21 + count_of c 22 22
  inputs-at = (stretch 3 (places_of c 22 22) (kind-by c 22 3 constraint-kind)).1 ∙ ap (λ (x : ℕ). x + count_of c 22 22) constraints-at

  end-at : sec c 5 ≡ count_of c 0 13 + count_of c 20 20 + count_of c 21 21 + count_of c 22 22 + count_of c 23 23
  end-at = (stretch 4 (places_of c 23 23) (kind-by c 23 4 input-kind)).1 ∙ ap (λ (x : ℕ). x + count_of c 23 23) inputs-at

  -- the gates are the first records: record n is gate n
  pub gates-stand : places_of c 0 13 ≡ range 0 (count_of c 0 13)
  gates-stand = (stretch 0 (places_of c 0 13) (gates-by c)).0 ∙ ap (λ (x : ℕ). range x (count_of c 0 13)) first-at

  -- the bits of lists come next
  pub list-bits-stand : places_of c 20 20 ≡ range (count_of c 0 13) (count_of c 20 20)
  list-bits-stand = (stretch 1 (places_of c 20 20) (kind-by c 20 1 list-kind)).0 ∙ ap (λ (x : ℕ). range x (count_of c 20 20)) lists_at

  -- the bad states
  pub bads-stand : places_of c 21 21 ≡ range (count_of c 0 13 + count_of c 20 20) (count_of c 21 21)
  bads-stand = (stretch 2 (places_of c 21 21) (kind-by c 21 2 bad_kind)).0 ∙ ap (λ (x : ℕ). range x (count_of c 21 21)) bads-at

  -- the constraints
  pub constraints-stand : places_of c 22 22 ≡ range (count_of c 0 13 + count_of c 20 20 + count_of c 21 21) (count_of c 22 22)
  constraints-stand = (stretch 3 (places_of c 22 22) (kind-by c 22 3 constraint-kind)).0 ∙ ap (λ (x : ℕ). range x (count_of c 22 22)) constraints-at

  -- the bits of inputs
  pub input-bits-stand : places_of c 23 23 ≡ range (count_of c 0 13 + count_of c 20 20 + count_of c 21 21 + count_of c 22 22) (count_of c 23 23)
  input-bits-stand = (stretch 4 (places_of c 23 23) (kind-by c 23 4 input-kind)).0 ∙ ap (λ (x : ℕ). range x (count_of c 23 23)) inputs-at

  -- and there are no other records
  pub all-stand : records c ≡ count_of c 0 13 + count_of c 20 20 + count_of c 21 21 + count_of c 22 22 + count_of c 23 23
  all-stand = sym (count-all (λ (n : ℕ). ltb (order_at c n) 5) (records c) (λ m l. lt-ltb (order_at c m) 5 (known-order c form m l))) ∙ end-at

  -- a record is a gate exactly when its number is below the number of gates
  pub gate-kinds : (n : ℕ) → n < count_of c 0 13 → kind_byte c n ≤ 13
  unfolding order_at section_at
  gate-kinds n l =
      let u : n < records c = omega (arith, all-stand) in
      let low : order_of (section_of (kind_byte c n)) < 1 = ltb-true (order_at c n) 1 (boundary (order_at c) 1 (records c) (order-rising c form) n u ∙ lt-ltb n (sec c 1) (omega (arith, lists_at))) in
      kind-cases (kind_byte c n) (λ i e. i) (λ i e. absurd (omega arith)) (λ i e. absurd (omega arith)) (λ i e. absurd (omega arith)) (λ i e. absurd (omega arith)) (λ i f1 f2 f3 f4 e. absurd (omega arith))
