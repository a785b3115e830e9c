-- What a run asks of the build holds of every circuit that was numbered: the names lead to gates and join steps, and a rule's operands are less deep.
-- Assumes nothing.
use Rattle.std.specs.Prelude.{◌≡◌, Bool, true, false, cond, List, [], ◌∷◌, ◌++◌, map, ℕ, zero, suc, ◌+◌, ◌*◌, ◌-◌, ◌≤◌, ◌<◌, eqb, length}
use Rattle.std.proofs.Math.Path.{refl}
use Rattle.std.proofs.Common.{inl, arith, eq-eqb, ne_eqb}
use Rattle.std.proofs.Math.Decide.{dec_lt}
use Rattle.std.proofs.Math.ListN.{get_or, get_or-eq_default}
use Rattle.penalty.specs.Rule.{is_adder}
use Rattle.energy.specs.Circuit as gate
use Rattle.energy.specs.Circuit.{Circuit, Gate, ConstFalse, Bad, Node, fixed, free, op, carry_of, node, nodes_of, Before, AllBelow}
use Rattle.energy.specs.Numbering.{reads}
use Rattle.numbering.specs.State.{State, slot, qubit_of, origin, role}
use Rattle.numbering.specs.Numbered.{bad_gates, joins_of, first_join, size}
use Rattle.numbering.specs.Laws.{AllHave, Placed, adder-took}
use Rattle.numbering.specs.Finished as num
use Rattle.numbering.specs.Finished.{Finished}
use Rattle.run_rules.specs.Rules.{Law, result_law, carry_law, aux_law, join_law, law_of, operands, depth}
use Rattle.run_rules.specs.Layout.{AllLess, Formed}

-- a node takes at most three names
size-three : (n : Node) → size n ≤ 3
size-three (fixed b) = omega arith
size-three (free src) = omega arith
size-three (op k a b d) = go (is_adder k)
  where
    go : (z : Bool) → suc (cond z 2 0) ≤ 3
    go true = omega arith
    go false = omega arith
size-three (carry_of a) = omega arith

-- where a name stands
pub data Place (c : Circuit) (t : State) (q : ℕ) : Type 0 where
  constant : role t q ≡ 0 → origin t q ≡ 0 → Place c t q
  of-gate : 2 ≤ q → q < first_join c t → Place c t q
  of-join : (i : ℕ) → i < joins_of c → q ≡ first_join c t + i → Place c t q

module _ (c : Circuit) (formed : num.Formed c) (t : State) (fin : Finished c t) where
  place_of : (q : ℕ) → q < t.next → Place c t q
  place_of q h = go (dec_lt q 2) (dec_lt q (first_join c t))
    where
      go : Dec (q < 2) → Dec (q < first_join c t) → Place c t q
      go (yes l) d = let o = fin.unused q (inl l) in constant o.what o.from
      go (no l) (yes k) = of-gate (omega arith) k
      go (no l) (no k) = of-join (q - first_join c t) (omega (arith, fin.last)) (omega arith)

  abbrev N : gate.Nodes
  N = nodes_of c.gates

  -- a gate that took a name is one of the circuit's
  has-gate : (q : ℕ) → 2 ≤ q → q < first_join c t → origin t q < length c.gates
  has-gate q a b = go (dec_lt (origin t q) (length t.qubits))
    where
      go : Dec (origin t q < length t.qubits) → origin t q < length c.gates
      go (yes l) = omega (arith, fin.gates)
      go (no l) = absurd (omega (arith, (fin.taken q a b).entry, (fin.taken q a b).some, get_or-eq_default t.qubits 0 {n = origin t q} (omega arith)))

  low-role : (q : ℕ) → 2 ≤ q → q < first_join c t → (1 ≤ role t q) × (role t q ≤ 3)
  low-role q a b = let k = fin.taken q a b in (k.some, omega (arith, k.most, size-three (N (origin t q))))

  depth-gate : (q : ℕ) → (role t q ≡ 4 → ⊥) → depth c t q ≡ origin t q
  unfolding depth
  depth-gate q f = rw (ne_eqb (role t q) 4 f)

  depth-join : (q : ℕ) → role t q ≡ 4 → depth c t q ≡ length c.gates + origin t q
  unfolding depth
  depth-join q e = rw (eq-eqb (role t q) 4 e)

  -- a name before the joins is no join's
  no_join : (q : ℕ) → q < first_join c t → role t q ≡ 4 → ⊥
  no_join q h e = go (dec_lt q 2)
    where
      go : Dec (q < 2) → ⊥
      go (yes l) = omega (arith, (fin.unused q (inl l)).what)
      go (no l) = omega (arith, (low-role q (omega arith) h).1)

  -- the name of a gate comes from it, or from an earlier gate
  origin-le : (a : ℕ) → 1 ≤ slot t a → origin t (qubit_of t a) ≤ a
  origin-le a h = go (N a) (formed.ordered a) (fin.placed a h)
    where
      go : (n : Node) → Before N a n → Placed t a n → origin t (qubit_of t a) ≤ a
      go (fixed true) bf p = let o = fin.unused (qubit_of t a) (inl (omega (arith, p))) in omega (arith, o.from)
      go (fixed false) bf p = let o = fin.unused (qubit_of t a) (inl (omega (arith, p))) in omega (arith, o.from)
      go (free src) bf p = omega (arith, (p.names 1 (omega arith) (omega arith)).from)
      go (op k x y z) bf p = omega (arith, (p.0.names 1 (omega arith) (omega arith)).from)
      go (carry_of x) bf p =
          let k : qubit_of t a ≡ slot t x - 2 = omega (arith, p.1) in
          rw k (omega (arith, ((adder-took t x (N x) bf.1 (fin.placed x p.0)).names 2 (omega arith) (omega arith)).from, bf.0))

  -- so the qubit of a gate before g is less deep than what comes from g
  less : (g d a : ℕ) → g ≤ d → a < g → 1 ≤ slot t a → (qubit_of t a < t.next) × (depth c t (qubit_of t a) < d)
  less g d a l h has =
      let x : qubit_of t a < first_join c t = omega (arith, fin.below a) in
      (omega (arith, fin.last), omega (arith, depth-gate (qubit_of t a) (no_join (qubit_of t a) x), origin-le a has))

  module _ (g d : ℕ) (l : g ≤ d) where
    less_one : (a : ℕ) → a < g → 1 ≤ slot t a → AllLess c t t.next d (qubit_of t a ∷ [])
    less_one a h has = let x = less g d a l h has in (x.0, x.1, tt)

    less_two : (a b : ℕ) → a < g → b < g → 1 ≤ slot t a → 1 ≤ slot t b → AllLess c t t.next d (qubit_of t a ∷ qubit_of t b ∷ [])
    less_two a b h k u v = let x = less g d a l h u in (x.0, x.1, less_one b k v)

    less-three : (a b e : ℕ) → a < g → b < g → e < g → 1 ≤ slot t a → 1 ≤ slot t b → 1 ≤ slot t e → AllLess c t t.next d (qubit_of t a ∷ qubit_of t b ∷ qubit_of t e ∷ [])
    less-three a b e h k m u v w = let x = less g d a l h u in (x.0, x.1, less_two b e k m v w)

    less-lists : (xs ys : List ℕ) → AllBelow g (xs ++ ys) → AllHave t (xs ++ ys) → AllLess c t t.next d (map (qubit_of t) xs ++ map (qubit_of t) ys)
    less-lists [] [] b h = tt
    less-lists [] (y ∷ ys) b h = let x = less g d y l b.0 h.0 in (x.0, x.1, less-lists [] ys b.1 h.1)
    less-lists (x ∷ xs) ys b h = let z = less g d x l b.0 h.0 in (z.0, z.1, less-lists xs ys b.1 h.1)

    -- what a gate's rules read
    result-less : (k : Gate) → Before N g (node k) → Placed t g (node k) → AllHave t (reads (node k)) → AllLess c t t.next d (operands (result_law (qubit_of t) k))
    result-less gate.ConstFalse b p h = tt
    result-less gate.ConstTrue b p h = tt
    result-less gate.InputBit b p h = tt
    result-less (gate.Not x) b p h = less_one x b.0 p.1.has
    result-less (gate.And x y) b p h = less_two x y b.0 b.1 p.1.has p.2.has
    result-less (gate.Nand x y) b p h = less_two x y b.0 b.1 p.1.has p.2.has
    result-less (gate.Or x y) b p h = less_two x y b.0 b.1 p.1.has p.2.has
    result-less (gate.Matriarch1 x y) b p h = less_two x y b.0 b.1 p.1.has p.2.has
    result-less (gate.CarryHalfAdder x) b p h = tt
    result-less (gate.CarryFullAdder x) b p h = tt
    result-less (gate.ResultHalfAdder x y) b p h = less_two x y b.0 b.1 p.1.has p.2.has
    result-less (gate.ResultFullAdder x y z) b p h = less-three x y z b.0 b.1 b.2 p.1.has p.2.has p.3.has
    result-less (gate.Quotient i n e) b p h = less-lists n e b h
    result-less (gate.Remainder i n e) b p h = less-lists n e b h

    carry-less : (k : Gate) → Before N g (node k) → Placed t g (node k) → AllLess c t t.next d (operands (carry_law (qubit_of t) k))
    carry-less gate.ConstFalse b p = tt
    carry-less gate.ConstTrue b p = tt
    carry-less gate.InputBit b p = tt
    carry-less (gate.Not x) b p = tt
    carry-less (gate.And x y) b p = tt
    carry-less (gate.Nand x y) b p = tt
    carry-less (gate.Or x y) b p = tt
    carry-less (gate.Matriarch1 x y) b p = tt
    carry-less (gate.CarryHalfAdder x) b p = tt
    carry-less (gate.CarryFullAdder x) b p = tt
    carry-less (gate.ResultHalfAdder x y) b p = less_two x y b.0 b.1 p.1.has p.2.has
    carry-less (gate.ResultFullAdder x y z) b p = less-three x y z b.0 b.1 b.2 p.1.has p.2.has p.3.has
    carry-less (gate.Quotient i n e) b p = tt
    carry-less (gate.Remainder i n e) b p = tt

    aux-less : (k : Gate) → Before N g (node k) → Placed t g (node k) → AllLess c t t.next d (operands (aux_law (qubit_of t) k))
    aux-less gate.ConstFalse b p = tt
    aux-less gate.ConstTrue b p = tt
    aux-less gate.InputBit b p = tt
    aux-less (gate.Not x) b p = tt
    aux-less (gate.And x y) b p = tt
    aux-less (gate.Nand x y) b p = tt
    aux-less (gate.Or x y) b p = tt
    aux-less (gate.Matriarch1 x y) b p = tt
    aux-less (gate.CarryHalfAdder x) b p = tt
    aux-less (gate.CarryFullAdder x) b p = tt
    aux-less (gate.ResultHalfAdder x y) b p = less_two x y b.0 b.1 p.1.has p.2.has
    aux-less (gate.ResultFullAdder x y z) b p = less-three x y z b.0 b.1 b.2 p.1.has p.2.has p.3.has
    aux-less (gate.Quotient i n e) b p = tt
    aux-less (gate.Remainder i n e) b p = tt

  -- the bad states
  bad-at : (i : ℕ) → i < length c.bads → (get_or (bad_gates c) i 0 < length c.gates) × (1 ≤ slot t (get_or (bad_gates c) i 0))
  bad-at i h = go c.bads formed.in_range fin.reached i h
    where
      go : (l : List Bad) → AllBelow (length c.gates) (map (λ (b : Bad). b.gate) l ++ map (λ (k : gate.Constraint). k.gate) c.constraints)
          → AllHave t (map (λ (b : Bad). b.gate) l ++ map (λ (k : gate.Constraint). k.gate) c.constraints) → (i : ℕ) → i < length l
          → (get_or (map (λ (b : Bad). b.gate) l) i 0 < length c.gates) × (1 ≤ slot t (get_or (map (λ (b : Bad). b.gate) l) i 0))
      go [] b a i h = absurd (omega arith)
      go (x ∷ l) b a zero h = (b.0, a.0)
      go (x ∷ l) b a (suc i) h = go l b.1 a.1 i (omega arith)

  -- what a join reads
  join-less : (i : ℕ) → i < joins_of c → AllLess c t t.next (length c.gates + (1 + i)) (operands (join_law c t (first_join c t + i) (1 + i)))
  join-less zero h =
      let x = bad-at 0 (omega arith) in
      let y = bad-at 1 (omega arith) in
      less_two (length c.gates) (length c.gates + 1) (omega arith) (get_or (bad_gates c) 0 0) (get_or (bad_gates c) 1 0) x.0 y.0 x.1 y.1
  join-less (suc i) h =
      let y = bad-at (1 + suc i) (omega arith) in
      let q : first_join c t + suc i - 1 ≡ first_join c t + i = omega arith in
      let o = fin.steps i (omega arith) in
      let deep : depth c t (first_join c t + i) ≡ length c.gates + origin t (first_join c t + i) = depth-join (first_join c t + i) o.what in
      rw (ne_eqb (1 + suc i) 1 (λ e. omega arith), q)
      (omega (arith, fin.last), omega (arith, o.from), less_one (length c.gates) (length c.gates + (1 + suc i)) (omega arith) (get_or (bad_gates c) (1 + suc i) 0) y.0 y.1)

  -- a rule by its role
  law_by : (q r : ℕ) → role t q ≡ r → Law
  law_by q r e =
      cond (eqb r 1) (result_law (qubit_of t) (get_or c.gates (origin t q) ConstFalse))
      (cond (eqb r 2) (carry_law (qubit_of t) (get_or c.gates (origin t q) ConstFalse))
      (cond (eqb r 3) (aux_law (qubit_of t) (get_or c.gates (origin t q) ConstFalse))
      (cond (eqb r 4) (join_law c t q (origin t q)) Law.Invalid)))

  gate-falls : (q : ℕ) → 2 ≤ q → q < first_join c t → (r : ℕ) (e : role t q ≡ r) → AllLess c t t.next (depth c t q) (operands (law_by q r e))
  unfolding law_by
  gate-falls q a b r e = go r (omega (arith, (low-role q a b).0)) (omega (arith, (low-role q a b).1))
    where
      k : Gate
      k = get_or c.gates (origin t q) ConstFalse

      deep : origin t q ≤ depth c t q
      deep = omega (arith, depth-gate q (no_join q b))

      has : 1 ≤ slot t (origin t q)
      has = omega (arith, (fin.taken q a b).entry, (fin.taken q a b).some)

      go : (r : ℕ) → 1 ≤ r → r ≤ 3
          → AllLess c t t.next (depth c t q) (operands (cond (eqb r 1) (result_law (qubit_of t) k) (cond (eqb r 2) (carry_law (qubit_of t) k) (cond (eqb r 3) (aux_law (qubit_of t) k) (cond (eqb r 4) (join_law c t q (origin t q)) Law.Invalid)))))
      go zero l h = absurd (omega arith)
      go (suc zero) l h = result-less (origin t q) (depth c t q) deep k (formed.ordered (origin t q)) (fin.placed (origin t q) has) (fin.full (origin t q) has)
      go (suc (suc zero)) l h = carry-less (origin t q) (depth c t q) deep k (formed.ordered (origin t q)) (fin.placed (origin t q) has)
      go (suc (suc (suc zero))) l h = aux-less (origin t q) (depth c t q) deep k (formed.ordered (origin t q)) (fin.placed (origin t q) has)
      go (suc (suc (suc (suc r)))) l h = absurd (omega arith)

  falls : (q : ℕ) → q < t.next → AllLess c t t.next (depth c t q) (operands (law_of c t q))
  unfolding law_of law_by
  falls q h = go (place_of q h)
    where
      go : Place c t q → AllLess c t t.next (depth c t q) (operands (law_of c t q))
      go (constant r o) = rw r tt
      go (of-gate a b) = gate-falls q a b (role t q) refl
      go (of-join i l e) =
          let o = fin.steps i l in
          let w : role t q ≡ 4 = rw e o.what in
          let f : origin t q ≡ 1 + i = rw e o.from in
          rw (depth-join q w, w, f) (rw e (join-less i l))

  -- What a run asks of the names holds after every numbering that is not refused.
  pub formed-names : 3 * length c.gates + length c.bads + 1 ≤ 65536 → Formed c t
  formed-names small =
      record {
        of-gate = gate;
        of-join = join;
        falls = falls;
        origins = omega (arith, fin.origins, fin.at_most);
        roles = omega (arith, fin.roles, fin.at_most);
        names = omega (arith, fin.at_most);
        bad-named = λ i h. omega (arith, fin.below (get_or (bad_gates c) i 0), fin.last, (bad-at i h).1);
        slots = λ g. omega (arith, fin.below g, fin.last);
        constants = omega (arith, fin.first, fin.last);
        new = late;
      }
    where
      gate : (q : ℕ) → q < t.next → 1 ≤ role t q → role t q ≤ 3 → origin t q < length c.gates
      gate q h a b = go (place_of q h)
        where
          go : Place c t q → origin t q < length c.gates
          go (constant r o) = absurd (omega arith)
          go (of-gate x y) = has-gate q x y
          go (of-join i l e) = absurd (let w : role t q ≡ 4 = rw e (fin.steps i l).what in omega arith)

      join : (q : ℕ) → q < t.next → role t q ≡ 4 → origin t q < length c.bads
      join q h a = go (place_of q h)
        where
          go : Place c t q → origin t q < length c.bads
          go (constant r o) = absurd (omega arith)
          go (of-gate x y) = absurd (no_join q y a)
          go (of-join i l e) = let f : origin t q ≡ 1 + i = rw e (fin.steps i l).from in omega arith

      late : (q : ℕ) → role t q ≡ 4 → 2 ≤ q
      late q e = go (dec_lt q 2)
        where
          go : Dec (q < 2) → 2 ≤ q
          go (yes l) = absurd (omega (arith, (fin.unused q (inl l)).what))
          go (no l) = omega arith
