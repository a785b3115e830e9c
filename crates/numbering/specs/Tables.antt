-- Tables that keep the laws are a `Numbering`: what demand 3 asks, read off the tables alone.
--     name-is        a gate's name in `Named` is its qubit in the table
--     numbering-of   the laws of `Numbering`
-- Assumes nothing.
use Rattle.std.specs.Prelude.{◌≡◌, ◌⊎◌, Bool, ◌&&◌, cond, List, [], ◌∷◌, ◌++◌, map, length}
use Rattle.std.proofs.Math.Path.{refl, sym, subst⁻¹}
use Rattle.std.proofs.Common.{ap, ◌∙◌, subst, inl, inr, append-nil}
use Rattle.std.proofs.Math.Bool.{true, false}
use Prim.Native.Nat.{ℕ, zero, suc, ◌+◌, ◌-◌, ◌≤◌, ◌<◌}
use native.Mathlib.Omega.{arith}
use Rattle.std.proofs.Math.Decide.{ℕ_discrete, dec_lt}
use Rattle.std.proofs.Math.Dec.{eqb, ltb}
use Rattle.std.proofs.Math.ListN.{get_or, get_or-eq_default}
use borrow.Author.Tests.{eqb-true, eq-eqb, ltb-true, lt-ltb}
use Rattle.penalty.specs.declared.Kind.{Kind}
use Rattle.penalty.specs.Rule.{is_adder}
use Rattle.energy.specs.Plain.{Row, more, Sorted, Free, free-below}
use Rattle.energy.specs.Circuit.{Gate, Nodes, Node, fixed, free, op, carry_of, nodes_of, Before, AllBelow, IsAdder, IsFree}
use Rattle.energy.specs.Numbering.{In, in_left, AllIn, Operands, name, name_by, row_by, gate_rows, joins, reads, Numbering}
use Rattle.numbering.specs.State.{State, slot, origin, role}
use Rattle.numbering.specs.Numbered.{size, cons_if, results_from, sharers_from, base_of, named_by}
use Rattle.numbering.specs.Laws.{AllHave, Took, Placed, Taken, Inv, adder-took}
use Rattle.numbering.specs.Rows.{sorted-append, free-append, free-left, free-right, free-gate, free-gates, gate_rows-append, in_right, in_either, joins-sorted, joins-taken}

-- ---- the lists of reached gates

in-cons : (b : Bool) (g y : ℕ) (xs : List ℕ) → In g xs → In g (cons_if b y xs)
in-cons true g y xs i = inr i
in-cons false g y xs i = i

cons-in : (b : Bool) (g y : ℕ) (xs : List ℕ) → In g (cons_if b y xs) → ((b ≡ true) × (g ≡ y)) ⊎ In g xs
cons-in true g y xs (inl e) = inl (refl, e)
cons-in true g y xs (inr i) = inr i
cons-in false g y xs i = inr i

both : (a b : Bool) → (a && b) ≡ true → (a ≡ true) × (b ≡ true)
both true b e = (refl, e)
both false b e = (e, cc)

module _ (o r : List ℕ) where
  -- a result's gate is listed
  in-results : (m q x : ℕ) → q ≤ x → x < q + m → get_or r x 0 ≡ 1 → In (get_or o x 0) (results_from o r q m)
  unfolding results_from
  in-results zero q x l h e = absurd (omega arith)
  in-results (suc m) q x l h e = go (ℕ_discrete x q) (λ a. in-results m (suc q) x a (omega arith) e)
    where
      go : Dec (x ≡ q) → (suc q ≤ x → In (get_or o x 0) (results_from o r (suc q) m))
          → In (get_or o x 0) (cons_if (eqb (get_or r q 0) 1) (get_or o q 0) (results_from o r (suc q) m))
      go (yes f) rest =
          let t : eqb (get_or r q 0) 1 ≡ true = eq-eqb (get_or r q 0) 1 (ap (λ (x : ℕ). get_or r x 0) (sym f) ∙ e) in
          rw t (inl (ap (λ (x : ℕ). get_or o x 0) f))
      go (no n) rest =
          in-cons (eqb (get_or r q 0) 1) (get_or o x 0) (get_or o q 0) (results_from o r (suc q) m) (rest (omega arith))

  -- and only such
  results-in : (m q g : ℕ) → In g (results_from o r q m) → (x : ℕ) × (q ≤ x) × (x < q + m) × (get_or r x 0 ≡ 1) × (get_or o x 0 ≡ g)
  unfolding results_from
  results-in zero q g i = absurd i
  results-in (suc m) q g i = go (cons-in (eqb (get_or r q 0) 1) g (get_or o q 0) (results_from o r (suc q) m) i) (results-in m (suc q) g)
    where
      go : ((eqb (get_or r q 0) 1 ≡ true) × (g ≡ get_or o q 0)) ⊎ In g (results_from o r (suc q) m)
          → (In g (results_from o r (suc q) m) → (x : ℕ) × (suc q ≤ x) × (x < suc q + m) × (get_or r x 0 ≡ 1) × (get_or o x 0 ≡ g))
          → (x : ℕ) × (q ≤ x) × (x < q + suc m) × (get_or r x 0 ≡ 1) × (get_or o x 0 ≡ g)
      go (inl (t, e)) rest = (q, omega arith, omega arith, eqb-true (get_or r q 0) 1 t, sym e)
      go (inr i) rest = let (x, a, b, c, d) = rest i in (x, omega arith, omega arith, c, d)

module _ (gs : List Gate) (t : List ℕ) where
  in-sharers : (m g h : ℕ) → g ≤ h → h < g + m → 1 ≤ get_or t h 0 → size (nodes_of gs h) ≡ 0 → In h (sharers_from gs t g m)
  unfolding sharers_from
  in-sharers zero g h a b has e = absurd (omega arith)
  in-sharers (suc m) g h a b has e = go (ℕ_discrete h g) (λ c. in-sharers m (suc g) h c (omega arith) has e)
    where
      go : Dec (h ≡ g) → (suc g ≤ h → In h (sharers_from gs t (suc g) m))
          → In h (cons_if (ltb 0 (get_or t g 0) && eqb (size (nodes_of gs g)) 0) g (sharers_from gs t (suc g) m))
      go (yes f) rest =
          let x : ltb 0 (get_or t g 0) ≡ true = lt-ltb 0 (get_or t g 0) (rw f at has) in
          let y : eqb (size (nodes_of gs g)) 0 ≡ true = eq-eqb (size (nodes_of gs g)) 0 (ap (λ (h : ℕ). size (nodes_of gs h)) (sym f) ∙ e) in
          rw (x, y) (inl f)
      go (no n) rest =
          in-cons (ltb 0 (get_or t g 0) && eqb (size (nodes_of gs g)) 0) h g (sharers_from gs t (suc g) m) (rest (omega arith))

  sharers-in : (m g h : ℕ) → In h (sharers_from gs t g m) → (1 ≤ get_or t h 0) × (size (nodes_of gs h) ≡ 0)
  unfolding sharers_from
  sharers-in zero g h i = absurd i
  sharers-in (suc m) g h i =
      go (cons-in (ltb 0 (get_or t g 0) && eqb (size (nodes_of gs g)) 0) h g (sharers_from gs t (suc g) m) i) (sharers-in m (suc g) h)
    where
      go : (((ltb 0 (get_or t g 0) && eqb (size (nodes_of gs g)) 0) ≡ true) × (h ≡ g)) ⊎ In h (sharers_from gs t (suc g) m)
          → (In h (sharers_from gs t (suc g) m) → (1 ≤ get_or t h 0) × (size (nodes_of gs h) ≡ 0)) → (1 ≤ get_or t h 0) × (size (nodes_of gs h) ≡ 0)
      go (inl (w, e)) rest =
          let (x, y) = both (ltb 0 (get_or t g 0)) (eqb (size (nodes_of gs g)) 0) w in
          rw e (ltb-true 0 (get_or t g 0) x, eqb-true (size (nodes_of gs g)) 0 y)
      go (inr i) rest = rest i

-- gates that took no name have no row
no_row : (N : Nodes) (base : ℕ → ℕ) (g : ℕ) (d : Node) → size d ≡ 0 → row_by N base g d ≡ []
no_row N base g (fixed b) e = refl
no_row N base g (free src) e = absurd (omega arith)
no_row N base g (op k a b d) e = absurd (omega arith)
no_row N base g (carry_of a) e = refl

no_rows : (N : Nodes) (base : ℕ → ℕ) (hs : List ℕ) → ((h : ℕ) → In h hs → size (N h) ≡ 0) → gate_rows N base hs ≡ []
no_rows N base [] f = refl
no_rows N base (h ∷ hs) f = rw (no_row N base h (N h) (f h (inl refl))) (no_rows N base hs (λ g i. f g (inr i)))

adder-size : (d : Node) → IsAdder d → size d ≡ 3
adder-size (fixed b) h = absurd h
adder-size (free src) h = absurd h
adder-size (op k a b d) h = ap (λ (x : Bool). suc (cond x 2 0)) h
adder-size (carry_of a) h = absurd h

-- ---- tables that keep the laws

module _ (gs : List Gate) (ordered : (g : ℕ) → Before (nodes_of gs) g (nodes_of gs g)) (s : State) (inv : Inv gs s) where
  abbrev N : Nodes
  N = nodes_of gs

  abbrev base : ℕ → ℕ
  base = base_of gs s

  abbrev results : List ℕ
  results = results_from s.origins s.roles 2 (s.next - 2)

  abbrev sharers : List ℕ
  sharers = sharers_from gs s.qubits 0 (length gs)

  abbrev reached : List ℕ
  reached = results ++ sharers

  inside : (g : ℕ) → 1 ≤ slot s g → g < length gs
  inside g has = go (dec_lt g (length gs))
    where
      go : Dec (g < length gs) → g < length gs
      go (yes l) = l
      go (no n) =
          let z : slot s g ≡ 0 = get_or-eq_default s.qubits 0 (omega (arith, inv.gates)) in
          absurd (omega arith)

  name-at : (g : ℕ) (d : Node) → N g ≡ d → Before N g d → Placed s g d → name_by base g d ≡ slot s g - 1
  name-at g (fixed true) e bf p = omega (arith, p)
  name-at g (fixed false) e bf p = omega (arith, p)
  name-at g (free src) e bf p = rw e
  name-at g (op k a b d) e bf p = rw e (omega (arith, p.0.new))
  name-at g (carry_of a) e bf p =
      let t : Took s a 3 = adder-took s a (N a) bf.1 (inv.placed a p.0) in
      let z : size (N a) ≡ 3 = adder-size (N a) bf.1 in
      rw z (omega (arith, t.new, p.1))

  -- a gate's name is its qubit in the table
  pub name-is : (g : ℕ) → 1 ≤ slot s g → name N base g ≡ slot s g - 1
  unfolding name
  name-is g has = name-at g (N g) refl (ordered g) (inv.placed g has)

  -- reached is what has a qubit
  results-have : (g : ℕ) → In g results → 1 ≤ slot s g
  results-have g i =
      let (x, a, b, c, d) = results-in s.origins s.roles (s.next - 2) 2 g i in
      let e = (inv.taken x a (omega (arith, inv.first))).entry in
      subst (λ (g : ℕ). 1 ≤ slot s g) d (omega (arith, e))

  pub reached-have : (g : ℕ) → In g reached → 1 ≤ slot s g
  reached-have g i = go (in_either g results sharers i)
    where
      go : In g results ⊎ In g sharers → 1 ≤ slot s g
      go (inl i) = results-have g i
      go (inr i) = (sharers-in gs s.qubits (length gs) 0 g i).0

  took-results : (g m : ℕ) → 1 ≤ m → Took s g m → In g results
  took-results g m l t =
      let o = t.names 1 (omega arith) l in
      subst (λ (g : ℕ). In g results) o.from
      (in-results s.origins s.roles (s.next - 2) 2 (slot s g - 1) (omega (arith, t.new)) (omega (arith, t.new, inv.below g, inv.first)) o.what)

  have-at : (g : ℕ) (d : Node) → N g ≡ d → Placed s g d → 1 ≤ slot s g → In g reached
  have-at g (fixed b) e p has =
      in_right g results sharers (in-sharers gs s.qubits (length gs) 0 g (omega arith) (omega (arith, inside g has)) has (rw e))
  have-at g (free src) e p has = in_left g results sharers (took-results g 1 (omega arith) p)
  have-at g (op k a b d) e p has = in_left g results sharers (took-results g (suc (more k)) (omega arith) p.0)
  have-at g (carry_of a) e p has =
      in_right g results sharers (in-sharers gs s.qubits (length gs) 0 g (omega arith) (omega (arith, inside g has)) has (rw e))

  pub have-reached : (g : ℕ) → 1 ≤ slot s g → In g reached
  have-reached g has = have-at g (N g) refl (inv.placed g has) has

  pub all-reached : (xs : List ℕ) → AllHave s xs → AllIn xs reached
  all-reached [] a = tt
  all-reached (x ∷ xs) a = (have-reached x a.0, all-reached xs a.1)

  closed_at : (g : ℕ) (d : Node) → Placed s g d → Operands reached d
  closed_at g (fixed b) p = tt
  closed_at g (free src) p = tt
  closed_at g (op k a b d) p = (have-reached a p.1.has, have-reached b p.2.has, have-reached d p.3.has)
  closed_at g (carry_of a) p = have-reached a p.0

  -- the rows are those of the results
  pub own-rows : gate_rows N base reached ≡ gate_rows N base results
  own-rows =
      gate_rows-append N base results sharers
      ∙ ap (λ (rs : List Row). gate_rows N base results ++ rs) (no_rows N base sharers (λ h i. (sharers-in gs s.qubits (length gs) 0 h i).1))
      ∙ append-nil (gate_rows N base results)

  -- ---- sorted

  -- a lower bound for the next row: the first name of all, or the one after a result
  abbrev Edge : ℕ → Type 0
  Edge lo = (2 ≤ lo) × ((lo ≡ 2) ⊎ (role s (lo - 1) ≡ 1))

  -- an adder's first name is past the last result
  past-edge : (lo g k : ℕ) → Edge lo → Took s g (suc k) → k ≤ 2 → lo < slot s g → lo ≤ slot s g - suc k
  past-edge lo g k e t small l = go e.1
    where
      -- what stands r before the entry is no result where r is 2 or 3
      clash : (r : ℕ) → 2 ≤ r → r ≤ suc k → lo - 1 ≡ slot s g - r → role s (lo - 1) ≡ 1 → ⊥
      clash r a b f w = let x = (t.names r (omega arith) b).what in omega (arith, sym (ap (role s) f) ∙ w, x)

      go : (lo ≡ 2) ⊎ (role s (lo - 1) ≡ 1) → lo ≤ slot s g - suc k
      go (inl f) = omega (arith, t.new)
      go (inr w) = by (dec_lt (slot s g - suc k) lo)
        where
          by : Dec (slot s g - suc k < lo) → lo ≤ slot s g - suc k
          by (no n) = omega arith
          by (yes h) = absurd (clash (slot s g - (lo - 1)) (omega (arith, t.new, e.0)) (omega (arith, t.new, e.0)) (omega (arith, t.new, e.0)) w)

  more-small : (k : Kind) → more k ≤ 2
  more-small k = go (is_adder k)
    where
      go : (b : Bool) → cond b 2 0 ≤ 2
      go true = omega arith
      go false = omega arith

  -- the row of a gate whose result is q, and what follows
  row-sorted : (q lo m g : ℕ) (rest : List Row) (d : Node) → N g ≡ d → Placed s g d → Edge lo → lo ≤ q → slot s g ≡ q + 1 → role s q ≡ 1
      → 1 ≤ size d
      → ((lo : ℕ) → Edge lo → lo ≤ suc q → Sorted lo rest s.next) → Sorted lo (row_by N base g d ++ rest) s.next
  row-sorted q lo m g rest (fixed b) e p ed l f w sz rec = absurd (omega arith)
  row-sorted q lo m g rest (free src) e p ed l f w sz rec = rec lo ed (omega arith)
  row-sorted q lo m g rest (op k a b d) e p ed l f w sz rec =
      let z : base g ≡ slot s g - suc (more k) = rw e in
      let big : suc (more k) + 2 ≤ slot s g = p.0.new in
      let y : suc (base g + more k) ≡ suc q = omega arith in (
        rw z (past-edge lo g (more k) ed p.0 (more-small k) (omega arith)),
        omega (arith, name-is a p.1.has, p.1.before, p.1.has),
        omega (arith, name-is b p.2.has, p.2.before, p.2.has),
        omega (arith, name-is d p.3.has, p.3.before, p.3.has),
        rw y (rec (suc q) (omega arith, inr (rw sucless w)) (omega arith)),
      )
    where
      sucless : suc q - 1 ≡ q
      sucless = omega arith
  row-sorted q lo m g rest (carry_of a) e p ed l f w sz rec = absurd (omega arith)

  results-sorted : (m q lo : ℕ) → 2 ≤ q → q + m ≡ s.next → Edge lo → lo ≤ q
      → Sorted lo (gate_rows N base (results_from s.origins s.roles q m)) s.next
  unfolding results_from
  results-sorted zero q lo a e ed l = omega arith
  results-sorted (suc m) q lo a e ed l =
      go (eqb (role s q) 1) refl (λ lo ed l. results-sorted m (suc q) lo (omega arith) (omega arith) ed l)
    where
      go : (b : Bool) → eqb (role s q) 1 ≡ b
          → ((lo : ℕ) → Edge lo → lo ≤ suc q → Sorted lo (gate_rows N base (results_from s.origins s.roles (suc q) m)) s.next)
          → Sorted lo (gate_rows N base (cons_if b (origin s q) (results_from s.origins s.roles (suc q) m))) s.next
      go false f rec = rec lo ed (omega arith)
      go true f rec =
          let t : Taken gs s q = inv.taken q a (omega arith) in
          let w : role s q ≡ 1 = eqb-true (role s q) 1 f in
          let en : slot s (origin s q) ≡ q + 1 = rw w at t.entry in
          row-sorted q lo m (origin s q) (gate_rows N base (results_from s.origins s.roles (suc q) m)) (N (origin s q)) refl
          (inv.placed (origin s q) (omega arith)) ed l en w (omega (arith, t.most)) rec

  pub own-sorted : Sorted 2 (gate_rows N base reached) s.next
  own-sorted = rw own-rows (results-sorted (s.next - 2) 2 2 (omega arith) (omega (arith, inv.first)) (omega arith, inl refl) (omega arith))

  -- ---- free

  -- a name that g took is in no other gate's row
  other-free : (g h : ℕ) (d : Node) → N h ≡ d → Placed s h d → (q : ℕ) → origin s q ≡ g → (h ≡ g → ⊥) → Free (row_by N base h d) q
  other-free g h (fixed b) e p q f ne = tt
  other-free g h (free src) e p q f ne = tt
  other-free g h (op k a b d) e p q f ne = (go (dec_lt q (base h)) (dec_lt (base h + more k) q), tt)
    where
      z : base h ≡ slot s h - suc (more k)
      z = rw e

      go : Dec (q < base h) → Dec (base h + more k < q) → (q < base h) ⊎ (base h + more k < q)
      go (yes l) y = inl l
      go (no l) (yes y) = inr y
      go (no l) (no y) =
          let i : slot s h - (slot s h - q) ≡ q = omega (arith, z, p.0.new) in
          let o = (p.0.names (slot s h - q) (omega (arith, z, p.0.new)) (omega (arith, z, p.0.new))).from in
          absurd (ne (sym (rw i at o) ∙ f))
  other-free g h (carry_of a) e p q f ne = tt

  free-row : (N : Nodes) (base : ℕ → ℕ) (g : ℕ) (d : Node) (q : ℕ) → IsFree d → Free (row_by N base g d) q
  free-row N base g (fixed b) q f = absurd f
  free-row N base g (free src) q f = tt
  free-row N base g (op k a b d) q f = absurd f
  free-row N base g (carry_of a) q f = absurd f

  own-free : (g : ℕ) → IsFree (N g) → (q : ℕ) → origin s q ≡ g → Free (gate_rows N base reached) q
  own-free g f q e = free-gates N base reached q (λ h i. go h i (ℕ_discrete h g))
    where
      go : (h : ℕ) → In h reached → Dec (h ≡ g) → Free (row_by N base h (N h)) q
      go h i (yes y) = free-row N base h (N h) q (subst⁻¹ (λ (h : ℕ). IsFree (N h)) y f)
      go h i (no n) = other-free g h (N h) refl (inv.placed h (reached-have h i)) q e n

  -- what a free gate took
  free-took : (g : ℕ) (d : Node) → N g ≡ d → IsFree d → Placed s g d → Took s g 1 × (base g ≡ slot s g - 1)
  free-took g (fixed b) e f p = absurd f
  free-took g (free src) e f p = (p, rw e)
  free-took g (op k a b d) e f p = absurd f
  free-took g (carry_of a) e f p = absurd f

  -- a name that no row has belongs to a free gate
  covered-at : (q g r : ℕ) (d : Node) → N g ≡ d → slot s g ≡ q + r → 1 ≤ r → r ≤ size d → Free (row_by N base g d) q → IsFree d × (base g ≡ q)
  covered-at q g r (fixed b) e f l u fr = absurd (omega arith)
  covered-at q g r (free src) e f l u fr = (tt, rw e (omega arith))
  covered-at q g r (op k a b d) e f l u fr = absurd (go fr.0)
    where
      z : base g ≡ slot s g - suc (more k)
      z = rw e

      go : (q < base g) ⊎ (base g + more k < q) → ⊥
      go (inl x) = omega (arith, z)
      go (inr x) = omega (arith, z)
  covered-at q g r (carry_of a) e f l u fr = absurd (omega arith)

  own-covered : (q : ℕ) → 2 ≤ q → q < s.next → Free (gate_rows N base reached) q
      → (g : ℕ) × In g reached × IsFree (N g) × (base g ≡ q)
  own-covered q l h f =
      let t : Taken gs s q = inv.taken q l h in
      let g : ℕ = origin s q in
      let i : In (origin s q) reached = have-reached (origin s q) (omega (arith, t.entry, t.some)) in
      let (x, y) = covered-at q (origin s q) (role s q) (N (origin s q)) refl t.entry t.some t.most (free-gate N base reached q (origin s q) f i) in
      (origin s q, i, x, y)

  names-below : (xs : List ℕ) → AllHave s xs → AllBelow s.next (map (name N base) xs)
  names-below [] a = tt
  names-below (x ∷ xs) a = (omega (arith, name-is x a.0, inv.below x, a.0), names-below xs a.1)

  length-map : (f : ℕ → ℕ) (xs : List ℕ) → length (map f xs) ≡ length xs
  length-map f [] = refl
  length-map f (x ∷ xs) = ap suc (length-map f xs)

  module _ (full : (h : ℕ) → 1 ≤ slot s h → AllHave s (reads (N h))) (bad : ℕ) (bads : List ℕ) (count : ℕ)
      (hb : 1 ≤ slot s bad) (hbs : AllHave s bads) (ends : count ≡ s.next + length bads) where
    abbrev ps : List ℕ
    ps = map (name N base) bads

    abbrev joint : List Row
    joint = joins (name N base bad) s.next ps

    abbrev own : List Row
    own = gate_rows N base reached

    long : s.next + length ps ≡ count
    long = omega (arith, length-map (name N base) bads)

    joint-sorted : Sorted s.next joint count
    joint-sorted =
        rw long at (joins-sorted (name N base bad) s.next ps (omega (arith, name-is bad hb, inv.below bad)) (names-below bads hbs))

    all-covered : (q : ℕ) → 2 ≤ q → q < count → Free (own ++ joint) q → Dec (q < s.next)
        → (g : ℕ) × In g reached × IsFree (N g) × (base g ≡ q)
    all-covered q l h f (yes a) = own-covered q l a (free-left own joint q f)
    all-covered q l h f (no a) =
        absurd (joins-taken (name N base bad) s.next ps q (omega arith) (omega (arith, long)) (free-right own joint q f))

    all-frees : (g : ℕ) → In g reached → IsFree (N g)
        → (2 ≤ base g) × (base g < count) × (origin s (base g) ≡ g) × Free (own ++ joint) (base g)
    all-frees g i f =
        let (t, e) = free-took g (N g) refl f (inv.placed g (reached-have g i)) in
        let lt : base g < s.next = omega (arith, t.new, inv.below g) in
        let o : origin s (base g) ≡ g = rw e (t.names 1 (omega arith) (omega arith)).from in (
          omega (arith, t.new),
          omega (arith, ends),
          o,
          free-append own joint (base g) (own-free g f (base g) o) (free-below s.next joint count joint-sorted (base g) lt),
        )

    -- Tables that keep the laws, with the bad states reached and as many names more as there are joins, are a numbering.
    pub numbering-of : Numbering (named_by gs bad bads s s.next count)
    numbering-of =
        record {
          ordered = ordered;
          closed = λ g i. closed_at g (N g) (inv.placed g (reached-have g i));
          divisions = λ g i. all-reached (reads (N g)) (full g (reached-have g i));
          bad-in = have-reached bad hb;
          bads-in = all-reached bads hbs;
          sorted = sorted-append 2 s.next count own joint own-sorted joint-sorted;
          frees = all-frees;
          covered = λ q l h f. all-covered q l h f (dec_lt q s.next);
        }
