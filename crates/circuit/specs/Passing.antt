-- One pass over the records is enough to see the form: what has to be kept of the records passed, and that it says what Form.antt asks of all of them.
-- Assumes nothing.
use Rattle.std.specs.Prelude.{ℕ, zero, suc, ◌+◌, ◌≤◌, ◌<◌, max, ◌≡◌, refl, Bool, true, false, ◌&&◌, ◌||◌, List, [], ◌∷◌, leb}
use Rattle.std.proofs.Common.{sym, ap, ◌∙◌, arith, add-one}
use Rattle.std.proofs.Math.Bool.{not, or-false, or_comm, or_self}
use borrow.Author.Tests.{ltb-true, ltb-false, eqb-true, eqb-false, lt-ltb, le-ltb, eq-eqb, ne_eqb}
use Rattle.std.proofs.Math.Dec.{ltb, eqb, eqb-suc-suc}
use Rattle.circuit.specs.declared.Run.{Run}
use Rattle.circuit.specs.declared.Passed.{Passed}
use Rattle.circuit.specs.File.{kind_byte, field, nid_at, either, cons_if, is_bit_of}
use Rattle.circuit.specs.Count.{by-test}
use Rattle.circuit.specs.Search.{any_before}
use Rattle.circuit.specs.Meaning.{numbers_to, how_many}
use Rattle.circuit.specs.Form.{order_at, misplaced, unused_set, follows, times, bad_number, bad_value, nid_before, breaks}

-- number k does not follow
abbrev pub bad_in : Run → ℕ → Bool
bad_in r k = not (eqb k r.begun || eqb (k + 1) r.begun) || ltb 63 k || eqb (k + 1) r.begun && leb 64 r.bits

-- number k is passed
abbrev pub run_after : Run → ℕ → Run
run_after r k = either (eqb k r.begun) (record { begun = r.begun + 1; bits = 1 }) (record { begun = r.begun; bits = r.bits + 1 })

-- record n breaks the form after what has passed
unfoldable pub breaks_by : List ℕ → ℕ → Passed → Bool
breaks_by c n p =
    eqb (order_at c n) 5 || ltb (order_at c n) p.order || unused_set c n || eqb (kind_byte c n) 20 && bad_in p.lists (field c n 0) || eqb (kind_byte c n) 23 && bad_in p.inputs (field c n 0) || bad_value c n || eqb (kind_byte c n) 23 && (eqb (field c n 0 + 1) p.inputs.begun && not (eqb p.nid (nid_at c n)))

-- record n is passed
unfoldable pub after : List ℕ → ℕ → Passed → Passed
after c n p =
    record {
      order = order_at c n;
      lists = either (eqb (kind_byte c n) 20) (run_after p.lists (field c n 0)) p.lists;
      inputs = either (eqb (kind_byte c n) 23) (run_after p.inputs (field c n 0)) p.inputs;
      nid = either (eqb (kind_byte c n) 23) (nid_at c n) p.nid;
    }

-- before the first record
abbrev pub start : Passed
start = record { order = 0; lists = record { begun = 0; bits = 0 }; inputs = record { begun = 0; bits = 0 }; nid = 0 }

-- ---- laws of tests

-- neither part of a false `or` is true
pub neither : (a b : Bool) → (a || b) ≡ false → (a ≡ false) × (b ≡ false)
neither true b e = let z : ◌≡◌ {A = ℕ} 0 1 = cc in absurd (omega arith)
neither false b e = (refl, e)

ltb-max : (x t o : ℕ) → (ltb x t || ltb x o) ≡ ltb x (max t o)
ltb-max x t o = by-test (ltb x t) first second
  where
    first : ltb x t ≡ true → (ltb x t || ltb x o) ≡ ltb x (max t o)
    first e = let h : x < max t o = omega (arith, ltb-true x t e) in rw (e, lt-ltb x (max t o) h)

    second : ltb x t ≡ false → (ltb x t || ltb x o) ≡ ltb x (max t o)
    second e =
        by-test (ltb x o)
        (λ f. let h : x < max t o = omega (arith, ltb-true x o f) in rw (e, f, lt-ltb x (max t o) h))
        (λ f. let h : max t o ≤ x = omega (arith, ltb-false x t e, ltb-false x o f) in rw (e, f, le-ltb x (max t o) h))

-- ---- numbers

-- r says of the numbers ks, the last first, what has to be kept of them
pub record Runs (ks : List ℕ) (r : Run) : Type 0 where
  pub begun : how_many ks ≡ r.begun
  pub bits : (k : ℕ) → k + 1 ≡ r.begun → times k ks ≡ r.bits
  pub none : (k : ℕ) → r.begun ≤ k → times k ks ≡ 0

follows_by : (ks : List ℕ) (b k : ℕ) → how_many ks ≡ b → follows ks k ≡ (eqb k b || eqb (k + 1) b)
follows_by [] b k e = rw (← e, ne_eqb (k + 1) 0 (λ z. omega arith), or-false)
follows_by (j ∷ js) b k e = rw (← e, add-one, eqb-suc-suc) (or_comm (eqb k j) (eqb k (suc j)))

bad-by : (ks : List ℕ) (r : Run) → Runs ks r → (k : ℕ) → bad_number ks k ≡ bad_in r k
unfolding bad_number
bad-by ks r h k = rw (follows_by ks r.begun k h.begun) (by-test (eqb k r.begun) new (λ e. by-test (eqb (k + 1) r.begun) (old e) (neither-of e)))
  where
    new : eqb k r.begun ≡ true → (not (eqb k r.begun || eqb (k + 1) r.begun) || ltb 63 k || leb 64 (times k ks)) ≡ bad_in r k
    new e =
        let same : k ≡ r.begun = eqb-true k r.begun e in
        rw (e, h.none k (omega arith), ne_eqb (k + 1) r.begun (λ z. omega arith))

    old : eqb k r.begun ≡ false → eqb (k + 1) r.begun ≡ true → (not (eqb k r.begun || eqb (k + 1) r.begun) || ltb 63 k || leb 64 (times k ks)) ≡ bad_in r k
    old e f = rw (e, f, h.bits k (eqb-true (k + 1) r.begun f))

    neither-of : eqb k r.begun ≡ false → eqb (k + 1) r.begun ≡ false → (not (eqb k r.begun || eqb (k + 1) r.begun) || ltb 63 k || leb 64 (times k ks)) ≡ bad_in r k
    neither-of e f = rw (e, f)

-- a number that follows is the next one or the last one
pub next-or-last : (r : Run) (k : ℕ) → bad_in r k ≡ false → eqb k r.begun ≡ false → (k + 1 ≡ r.begun) × (r.bits < 64)
next-or-last r k e f = by-test (eqb (k + 1) r.begun) last (λ g. absurd (never g))
  where
    last : eqb (k + 1) r.begun ≡ true → (k + 1 ≡ r.begun) × (r.bits < 64)
    last g =
        let parts : ((not (eqb k r.begun || eqb (k + 1) r.begun) || ltb 63 k) ≡ false) × ((eqb (k + 1) r.begun && leb 64 r.bits) ≡ false) = neither (not (eqb k r.begun || eqb (k + 1) r.begun) || ltb 63 k) (eqb (k + 1) r.begun && leb 64 r.bits) e in
        (eqb-true (k + 1) r.begun g, borrow.Author.Tests.leb-false 64 r.bits (rw g at parts.1))

    never : eqb (k + 1) r.begun ≡ false → ⊥
    never g = let z : ◌≡◌ true false = rw (f, g) at e in let w : ◌≡◌ {A = ℕ} 0 1 = cc in omega arith

pub small-number : (r : Run) (k : ℕ) → bad_in r k ≡ false → k < 64
small-number r k e =
    let parts : ((not (eqb k r.begun || eqb (k + 1) r.begun) || ltb 63 k) ≡ false) × ((eqb (k + 1) r.begun && leb 64 r.bits) ≡ false) = neither (not (eqb k r.begun || eqb (k + 1) r.begun) || ltb 63 k) (eqb (k + 1) r.begun && leb 64 r.bits) e in
    let more : (not (eqb k r.begun || eqb (k + 1) r.begun) ≡ false) × (ltb 63 k ≡ false) = neither (not (eqb k r.begun || eqb (k + 1) r.begun)) (ltb 63 k) parts.0 in
    omega (arith, ltb-false 63 k more.1)

runs_after : (ks : List ℕ) (r : Run) → Runs ks r → (k : ℕ) → bad_in r k ≡ false → Runs (k ∷ ks) (run_after r k)
unfolding times
runs_after ks r h k e = by-test (eqb k r.begun) new old
  where
    new : eqb k r.begun ≡ true → Runs (k ∷ ks) (run_after r k)
    new f = rw f (record {
      begun = rw add-one (ap suc (eqb-true k r.begun f));
      bits = λ j g. let same : k ≡ r.begun = eqb-true k r.begun f in rw (eq-eqb k j (omega arith), h.none j (omega arith));
      none = λ j g. let same : k ≡ r.begun = eqb-true k r.begun f in rw (ne_eqb k j (λ z. omega arith), h.none j (omega arith));
    })

    old : eqb k r.begun ≡ false → Runs (k ∷ ks) (run_after r k)
    old f = rw f (record {
      begun = rw (← add-one) (next-or-last r k e f).0;
      bits = λ j g. let last : k + 1 ≡ r.begun = (next-or-last r k e f).0 in rw (eq-eqb k j (omega arith), h.bits j g, add-one);
      none = λ j g. let last : k + 1 ≡ r.begun = (next-or-last r k e f).0 in rw (ne_eqb k j (λ z. omega arith), h.none j g);
    })

-- ---- order

-- the latest section among the records before n
unfoldable pub top_order : List ℕ → ℕ → ℕ
top_order c zero = 0
top_order c (suc n) = max (top_order c n) (order_at c n)

before-top : (c : List ℕ) (x n : ℕ) → any_before (λ (m : ℕ). ltb x (order_at c m)) n ≡ ltb x (top_order c n)
unfolding any_before top_order
before-top c x zero = sym (le-ltb x 0 (omega arith))
before-top c x (suc n) = rw (before-top c x n) (ltb-max x (top_order c n) (order_at c n))

-- ---- what has to be kept, all of it

-- p says of the records before n what has to be kept of them
pub record Holds (c : List ℕ) (n : ℕ) (p : Passed) : Type 0 where
  pub order : p.order ≡ top_order c n
  pub lists : Runs (numbers_to c 20 n) p.lists
  pub inputs : Runs (numbers_to c 23 n) p.inputs
  pub nid : (k x : ℕ) → k + 1 ≡ p.inputs.begun → nid_before c k x n ≡ not (eqb p.nid x)
  pub none : (k x : ℕ) → p.inputs.begun ≤ k → nid_before c k x n ≡ false

pub holds-start : (c : List ℕ) → Holds c 0 start
unfolding top_order numbers_to nid_before any_before times
holds-start c =
    record {
      order = refl;
      lists = record { begun = refl; bits = λ k e. refl; none = λ k e. refl };
      inputs = record { begun = refl; bits = λ k e. refl; none = λ k e. refl };
      nid = λ k x e. absurd (omega arith);
      none = λ k x e. refl;
    }

-- where a number follows, a later test may use that it does
under : (x k b v n m : Bool) → (k ≡ true → b ≡ false → n ≡ m) → (x || k && b || v || k && n) ≡ (x || k && b || v || k && m)
under x false b v n m h = refl
under true true true v n m h = refl
under false true true v n m h = refl
under x true false v n m h = rw (h refl refl)

module _ (c : List ℕ) (n : ℕ) (p : Passed) (h : Holds c n p) where
  nid-by : bad_in p.inputs (field c n 0) ≡ false → nid_before c (field c n 0) (nid_at c n) n ≡ (eqb (field c n 0 + 1) p.inputs.begun && not (eqb p.nid (nid_at c n)))
  nid-by e = by-test (eqb (field c n 0 + 1) p.inputs.begun) last other
    where
      last : eqb (field c n 0 + 1) p.inputs.begun ≡ true → nid_before c (field c n 0) (nid_at c n) n ≡ (eqb (field c n 0 + 1) p.inputs.begun && not (eqb p.nid (nid_at c n)))
      last f = rw (f, h.nid (field c n 0) (nid_at c n) (eqb-true (field c n 0 + 1) p.inputs.begun f))

      other : eqb (field c n 0 + 1) p.inputs.begun ≡ false → nid_before c (field c n 0) (nid_at c n) n ≡ (eqb (field c n 0 + 1) p.inputs.begun && not (eqb p.nid (nid_at c n)))
      other f =
          rw (f, h.none (field c n 0) (nid_at c n) (by-test (eqb (field c n 0) p.inputs.begun) (λ g. omega (arith, eqb-true (field c n 0) p.inputs.begun g)) (λ g. absurd (eqb-false (field c n 0 + 1) p.inputs.begun f (next-or-last p.inputs (field c n 0) e g).0))))

  -- what is kept decides whether the next record breaks the form
  pub breaks-by : breaks c n ≡ breaks_by c n p
  unfolding breaks breaks_by misplaced
  breaks-by =
      rw (before-top c (order_at c n) n, ← h.order, bad-by (numbers_to c 20 n) p.lists h.lists, bad-by (numbers_to c 23 n) p.inputs h.inputs)
      (under (eqb (order_at c n) 5 || ltb (order_at c n) p.order || unused_set c n || eqb (kind_byte c n) 20 && bad_in p.lists (field c n 0)) (eqb (kind_byte c n) 23) (bad_in p.inputs (field c n 0)) (bad_value c n) (nid_before c (field c n 0) (nid_at c n) n) (eqb (field c n 0 + 1) p.inputs.begun && not (eqb p.nid (nid_at c n))) (λ e f. nid-by f))

-- a record that does not break the form, part by part
pub record Fits (c : List ℕ) (n : ℕ) (p : Passed) : Type 0 where
  pub known : eqb (order_at c n) 5 ≡ false
  pub placed : ltb (order_at c n) p.order ≡ false
  pub unused : unused_set c n ≡ false
  pub list : (eqb (kind_byte c n) 20 && bad_in p.lists (field c n 0)) ≡ false
  pub input : (eqb (kind_byte c n) 23 && bad_in p.inputs (field c n 0)) ≡ false
  pub value : bad_value c n ≡ false
  pub nid : (eqb (kind_byte c n) 23 && (eqb (field c n 0 + 1) p.inputs.begun && not (eqb p.nid (nid_at c n)))) ≡ false

pub parts : (c : List ℕ) (n : ℕ) (p : Passed) → breaks_by c n p ≡ false → Fits c n p
unfolding breaks_by
parts c n p e =
    let t6 = neither _ _ e in
    let t5 = neither _ _ t6.0 in
    let t4 = neither _ _ t5.0 in
    let t3 = neither _ _ t4.0 in
    let t2 = neither _ _ t3.0 in
    let t1 = neither _ _ t2.0 in
    record { known = t1.0; placed = t1.1; unused = t2.1; list = t3.1; input = t4.1; value = t5.1; nid = t6.1 }

list-after : (k a : ℕ) (ks : List ℕ) (kind : ℕ) (r : Run) → Runs ks r → (eqb k kind && bad_in r a) ≡ false → Runs (cons_if (eqb k kind) a ks) (either (eqb k kind) (run_after r a) r)
list-after k a ks kind r h e = by-test (eqb k kind) one other
  where
    one : eqb k kind ≡ true → Runs (cons_if (eqb k kind) a ks) (either (eqb k kind) (run_after r a) r)
    one f = rw f (runs_after ks r h a (rw f at e))

    other : eqb k kind ≡ false → Runs (cons_if (eqb k kind) a ks) (either (eqb k kind) (run_after r a) r)
    other f = rw f h

-- the nids of the input bits before n: the last input's are all x, and no later input has begun
pub record Nids (c : List ℕ) (n : ℕ) (r : Run) (x : ℕ) : Type 0 where
  pub nid : (k y : ℕ) → k + 1 ≡ r.begun → nid_before c k y n ≡ not (eqb x y)
  pub none : (k y : ℕ) → r.begun ≤ k → nid_before c k y n ≡ false

nid-step : (c : List ℕ) (k y n : ℕ) → nid_before c k y (suc n) ≡ (nid_before c k y n || is_bit_of c 23 k n && not (eqb (nid_at c n) y))
unfolding nid_before any_before
nid-step c k y n = refl

module _ (c : List ℕ) (n : ℕ) (r : Run) (x : ℕ) (h : Nids c n r x) where
  nids-other : eqb (kind_byte c n) 23 ≡ false → Nids c (suc n) r x
  nids-other e =
      record {
        nid = λ k y l. rw (nid-step, e, or-false) (h.nid k y l);
        none = λ k y l. rw (nid-step, e, or-false) (h.none k y l);
      }

  nids-new : eqb (kind_byte c n) 23 ≡ true → eqb (field c n 0) r.begun ≡ true → Nids c (suc n) (run_after r (field c n 0)) (nid_at c n)
  nids-new e f =
      let same : field c n 0 ≡ r.begun = eqb-true (field c n 0) r.begun f in
      rw f (record {
        nid = λ k y l. rw (nid-step, e, eq-eqb (field c n 0) k (omega arith), h.none k y (omega arith));
        none = λ k y l. rw (nid-step, e, ne_eqb (field c n 0) k (λ z. omega arith), h.none k y (omega arith));
      })

  nids-old : eqb (kind_byte c n) 23 ≡ true → eqb (field c n 0) r.begun ≡ false → field c n 0 + 1 ≡ r.begun → x ≡ nid_at c n → Nids c (suc n) (run_after r (field c n 0)) (nid_at c n)
  nids-old e f g same =
      rw f (record {
        nid = λ k y l. rw (nid-step, e, eq-eqb (field c n 0) k (omega arith), h.nid k y l, same, or_self);
        none = λ k y l. rw (nid-step, e, ne_eqb (field c n 0) k (λ z. omega arith), h.none k y l);
      })

  -- what is kept of the nids, after record n
  nids-after : (eqb (kind_byte c n) 23 && bad_in r (field c n 0)) ≡ false → (eqb (kind_byte c n) 23 && (eqb (field c n 0 + 1) r.begun && not (eqb x (nid_at c n)))) ≡ false → Nids c (suc n) (either (eqb (kind_byte c n) 23) (run_after r (field c n 0)) r) (either (eqb (kind_byte c n) 23) (nid_at c n) x)
  nids-after e g = by-test (eqb (kind_byte c n) 23) one (λ f. rw f (nids-other f))
    where
      one : eqb (kind_byte c n) 23 ≡ true → Nids c (suc n) (either (eqb (kind_byte c n) 23) (run_after r (field c n 0)) r) (either (eqb (kind_byte c n) 23) (nid_at c n) x)
      one f =
          rw f
          (by-test (eqb (field c n 0) r.begun)
          (nids-new f)
          (λ k.
          let last : field c n 0 + 1 ≡ r.begun = (next-or-last r (field c n 0) (rw f at e) k).0 in
          let other : not (eqb x (nid_at c n)) ≡ false = rw (f, eq-eqb (field c n 0 + 1) r.begun last) at g in
          nids-old f k last (eqb-true x (nid_at c n) (borrow.Author.Tests.not-false (eqb x (nid_at c n)) other))))

-- what is kept stays right
pub holds_after : (c : List ℕ) (n : ℕ) (p : Passed) → Holds c n p → breaks_by c n p ≡ false → Holds c (n + 1) (after c n p)
unfolding after top_order numbers_to
holds_after c n p h e =
    let f : Fits c n p = parts c n p e in
    let low : p.order ≤ order_at c n = ltb-false (order_at c n) p.order f.placed in
    let ns : Nids c (suc n) (after c n p).inputs (after c n p).nid = nids-after c n p.inputs p.nid (record { nid = h.nid; none = h.none }) f.input f.nid in
    rw add-one (record {
      order = omega (arith, h.order);
      lists = list-after (kind_byte c n) (field c n 0) (numbers_to c 20 n) 20 p.lists h.lists f.list;
      inputs = list-after (kind_byte c n) (field c n 0) (numbers_to c 23 n) 23 p.inputs h.inputs f.input;
      nid = ns.nid;
      none = ns.none;
    })

-- ---- what is kept after record n, by its kind

module _ (c : List ℕ) (n : ℕ) (p : Passed) where
  -- a list bit's number follows
  pub list-follows : breaks_by c n p ≡ false → {k a : ℕ} → k ≡ kind_byte c n → k ≡ 20 → a ≡ field c n 0 → bad_in p.lists a ≡ false
  list-follows e k l f = rw f (rw (eq-eqb (kind_byte c n) 20 (sym k ∙ l)) at (parts c n p e).list)

  -- an input bit's number follows
  pub input-follows : breaks_by c n p ≡ false → {k a : ℕ} → k ≡ kind_byte c n → k ≡ 23 → a ≡ field c n 0 → bad_in p.inputs a ≡ false
  input-follows e k l f = rw f (rw (eq-eqb (kind_byte c n) 23 (sym k ∙ l)) at (parts c n p e).input)

  pub after_list : {k o a : ℕ} {r : Run} → k ≡ kind_byte c n → k ≡ 20 → o ≡ order_at c n → a ≡ field c n 0 → r ≡ run_after p.lists a → ◌≡◌ {A = Passed} (record { order = o; lists = r; inputs = p.inputs; nid = p.nid }) (after c n p)
  unfolding after
  after_list k l o f r = rw (r, f, o, ← k, l)

  pub after-input : {k o a x : ℕ} {r : Run} → k ≡ kind_byte c n → k ≡ 23 → o ≡ order_at c n → a ≡ field c n 0 → r ≡ run_after p.inputs a → x ≡ nid_at c n → ◌≡◌ {A = Passed} (record { order = o; lists = p.lists; inputs = r; nid = x }) (after c n p)
  unfolding after
  after-input k l o f r x = rw (r, f, o, x, ← k, l)

  pub after-other : {k o : ℕ} → k ≡ kind_byte c n → (k ≡ 20 → ⊥) → (k ≡ 23 → ⊥) → o ≡ order_at c n → ◌≡◌ {A = Passed} (record { order = o; lists = p.lists; inputs = p.inputs; nid = p.nid }) (after c n p)
  unfolding after
  after-other k l m o = rw (o, ← k, ne_eqb _ _ l, ne_eqb _ _ m)
