-- What reading a name's row asks, and that the tables of a numbered circuit give it.
-- Assumes nothing.
use Rattle.std.specs.Prelude.{◌≡◌, ◌⊎◌, Option, Some, None, cond, List, [], ◌∷◌, ◌++◌, ℕ, zero, suc, ◌+◌, ◌-◌, ◌*◌, ◌≤◌, ◌<◌, eqb, length, get_or}
use Rattle.std.proofs.Common.{sym, ◌∙◌, inl, inr, arith, eq-eqb, ne_eqb}
use Rattle.std.proofs.Math.Path.{ap}
use Rattle.std.proofs.Math.Decide.{dec_lt}
use Rattle.std.proofs.lemmas.List.{length-map}
use Rattle.penalty.specs.declared.Kind.{Kind}
use Rattle.penalty.specs.declared.Kind.TheVariants as row
use Rattle.energy.specs.Plain.{Row}
use Rattle.energy.specs.Circuit.{Circuit, Bad, node, nodes_of}
use Rattle.circuit.specs.declared.GateKind.{GateKind}
use Rattle.circuit.specs.declared.GateKind.TheVariants as kind
use Rattle.circuit.specs.File.{field, kind_at}
use Rattle.circuit.specs.Meaning.{gate_of, gate_at, circuit_of}
use Rattle.numbering.specs.State.{State, slot, origin, role}
use Rattle.numbering.specs.Laws.{AllHave, Placed}
use Rattle.numbering.specs.Numbered.{bad_gates, gate_row, row_of, first_join, joins_of}
use Rattle.numbering.specs.Finished.{Finished, finished, gate-role}
use Rattle.model_rows.specs.Found.{ruled_by, second, third, rows_by, join_at, gate-rows}
use Rattle.model_rows.specs.Laid.{Good}

-- field i of record n names a gate that has a qubit
pub record Has (b qubits : List ℕ) (n i : ℕ) : Type 0 where
  pub whole : 16 * (n + 1) ≤ length b
  pub part : i < 3
  pub inside : field b n i < length qubits
  pub some : 1 ≤ get_or qubits (field b n i) 0

-- the operands of gate g's row of this kind have qubits
pub record Operands (b qubits : List ℕ) (g : ℕ) (k : Kind) : Type 0 where
  pub first : Has b qubits g 0
  pub other : Has b qubits g (second k)
  pub last : Has b qubits g (third k)

abbrev pub OperandsBy : List ℕ → List ℕ → ℕ → Option Kind → Type 0
OperandsBy b qs g (Some k) = Operands b qs g k
OperandsBy b qs g None = Unit {0}

pub record Ruling (b qubits : List ℕ) (g q : ℕ) : Type 0 where
  pub whole : 16 * (g + 1) ≤ length b
  pub operands : OperandsBy b qubits g (ruled_by (kind_at b g))
  pub high : 2 ≤ q

pub record Joining (b : List ℕ) (bads : ℕ) (qubits : List ℕ) (j q : ℕ) : Type 0 where
  pub first : Has b qubits bads 0
  pub other : Has b qubits (bads + j) 0
  pub high : 2 ≤ q

-- ---- the tables of a numbered circuit give that

-- an entry that is not 0 is in the table
pub inside : (l : List ℕ) (g : ℕ) → 1 ≤ get_or l g 0 → g < length l
inside [] g h = absurd (omega arith)
inside (x ∷ l) zero h = omega arith
inside (x ∷ l) (suc g) h = let r = inside l g h in omega arith

pub has : (b qs : List ℕ) (n i : ℕ) → 16 * (n + 1) ≤ length b → i < 3 → 1 ≤ get_or qs (field b n i) 0 → Has b qs n i
has b qs n i w p h = record { whole = w; part = p; inside = inside qs (field b n i) h; some = h }

operands_of : (b : List ℕ) (s : State) (g : ℕ) → 16 * (g + 1) ≤ length b → (k : GateKind) → Placed s g (node (gate_of b k g)) → OperandsBy b s.qubits g (ruled_by k)
operands_of b s g w kind.ConstFalse p = tt
operands_of b s g w kind.ConstTrue p = tt
operands_of b s g w kind.InputBit p = tt
operands_of b s g w kind.Not p = record { first = has b _ g 0 w (omega arith) p.1.has; other = has b _ g 0 w (omega arith) p.1.has; last = has b _ g 0 w (omega arith) p.1.has }
operands_of b s g w kind.And p = record { first = has b _ g 0 w (omega arith) p.1.has; other = has b _ g 1 w (omega arith) p.2.has; last = has b _ g 0 w (omega arith) p.1.has }
operands_of b s g w kind.Nand p = record { first = has b _ g 0 w (omega arith) p.1.has; other = has b _ g 1 w (omega arith) p.2.has; last = has b _ g 0 w (omega arith) p.1.has }
operands_of b s g w kind.Or p = record { first = has b _ g 0 w (omega arith) p.1.has; other = has b _ g 1 w (omega arith) p.2.has; last = has b _ g 0 w (omega arith) p.1.has }
operands_of b s g w kind.Matriarch1 p = record { first = has b _ g 0 w (omega arith) p.1.has; other = has b _ g 1 w (omega arith) p.2.has; last = has b _ g 0 w (omega arith) p.1.has }
operands_of b s g w kind.CarryHalfAdder p = tt
operands_of b s g w kind.ResultHalfAdder p = record { first = has b _ g 0 w (omega arith) p.1.has; other = has b _ g 1 w (omega arith) p.2.has; last = has b _ g 0 w (omega arith) p.1.has }
operands_of b s g w kind.CarryFullAdder p = tt
operands_of b s g w kind.ResultFullAdder p = record { first = has b _ g 0 w (omega arith) p.1.has; other = has b _ g 1 w (omega arith) p.2.has; last = has b _ g 2 w (omega arith) p.3.has }
operands_of b s g w kind.Quotient p = tt
operands_of b s g w kind.Remainder p = tt

-- all of these gates have a qubit
have-at : (s : State) (xs ys : List ℕ) (k : ℕ) → AllHave s (xs ++ ys) → k < length xs → 1 ≤ slot s (get_or xs k 0)
have-at s [] ys k a h = absurd (omega arith)
have-at s (x ∷ xs) ys zero a h = a.0
have-at s (x ∷ xs) ys (suc k) a h = have-at s xs ys k a.1 (omega arith)

pub have-past : (s : State) (xs ys : List ℕ) (k : ℕ) → AllHave s (xs ++ ys) → k < length ys → 1 ≤ slot s (get_or ys k 0)
have-past s [] [] k a h = absurd (omega arith)
have-past s [] (y ∷ ys) zero a h = a.0
have-past s [] (y ∷ ys) (suc k) a h = have-past s [] ys k a.1 (omega arith)
have-past s (x ∷ xs) ys k a h = have-past s xs ys k a.1 h

module _ (b : List ℕ) (bads constraints : ℕ) (s : State) (good : Good b bads constraints s) where
  abbrev c : Circuit
  c = circuit_of b

  pub fin : Finished (circuit_of b) s
  fin = finished (circuit_of b) good.formed s good.is

  bads-length : length (bad_gates (circuit_of b)) ≡ length (circuit_of b).bads
  bads-length = length-map (circuit_of b).bads (λ (x : Bad). x.gate)

  -- the qubit of a bad state
  pub bad-has : (k : ℕ) → k < length (circuit_of b).bads → Has b s.qubits (bads + k) 0
  bad-has k h =
      has b s.qubits (bads + k) 0 (good.laid.bad-whole k h) (omega arith)
      (rw (good.laid.bad-is k h) at (have-at s (bad_gates (circuit_of b)) _ k fin.reached (omega (arith, bads-length))))

  pub bad-qubit : (k : ℕ) → k < length (circuit_of b).bads → slot s (get_or (bad_gates (circuit_of b)) k 0) ≡ get_or s.qubits (field b (bads + k) 0) 0
  bad-qubit k h = ap (slot s) (good.laid.bad-is k h)

  module _ (q : ℕ) (low : 2 ≤ q) (high : q < s.next) where
    -- a name's role is 4 from the first join on
    join-name : (q < first_join c s) ⊎ ((role s q ≡ 4) × (origin s q ≡ 1 + (q - first_join c s)) × (q - first_join c s < joins_of c))
    join-name = go (dec_lt q (first_join c s))
      where
        go : Dec (q < first_join c s) → (q < first_join c s) ⊎ ((role s q ≡ 4) × (origin s q ≡ 1 + (q - first_join c s)) × (q - first_join c s < joins_of c))
        go (yes h) = inl h
        go (no n) =
            let l : q - first_join c s < joins_of c = omega (arith, fin.last) in
            let o = fin.steps (q - first_join c s) l in
            let e : first_join c s + (q - first_join c s) ≡ q = omega arith in
            inr (ap (role s) (sym e) ∙ o.what, ap (origin s) (sym e) ∙ o.from, l)

    module _ (one : role s q ≡ 1) where
      gate-name : q < first_join c s
      gate-name = go join-name
        where
          go : (q < first_join c s) ⊎ ((role s q ≡ 4) × (origin s q ≡ 1 + (q - first_join c s)) × (q - first_join c s < joins_of c)) → q < first_join c s
          go (inl h) = h
          go (inr h) = absurd (omega (arith, h.0))

      gate-slot : 1 ≤ slot s (origin s q)
      gate-slot = omega (arith, (fin.taken q low gate-name).entry)

      gate-in : origin s q < length c.gates
      gate-in = omega (arith, inside s.qubits (origin s q) gate-slot, fin.gates)

      gate-node : nodes_of c.gates (origin s q) ≡ node (gate_of b (kind_at b (origin s q)) (origin s q))
      unfolding gate_at
      gate-node = ap node (good.laid.gate-is (origin s q) gate-in)

      pub ruling : Ruling b s.qubits (origin s q) q
      ruling =
          let w = good.laid.gate-whole (origin s q) gate-in in
          record { whole = w; operands = operands_of b s (origin s q) w (kind_at b (origin s q)) (rw gate-node at (fin.placed (origin s q) gate-slot)); high = low }

      pub gate-found : rows_by b s.qubits (origin s q) q (ruled_by (kind_at b (origin s q))) ≡ row_of c s q
      gate-found =
          rw (eq-eqb (role s q) 1 one)
          (sym (ap (gate_row s q) gate-node ∙ gate-rows b s (origin s q) q (kind_at b (origin s q))))

    module _ (four : role s q ≡ 4) where
      step : (origin s q ≡ 1 + (q - first_join c s)) × (q - first_join c s < joins_of c)
      step = go join-name
        where
          go : (q < first_join c s) ⊎ ((role s q ≡ 4) × (origin s q ≡ 1 + (q - first_join c s)) × (q - first_join c s < joins_of c))
              → (origin s q ≡ 1 + (q - first_join c s)) × (q - first_join c s < joins_of c)
          go (inl h) = absurd (omega (arith, gate-role c s fin q low h))
          go (inr h) = (h.1, h.2)

      step_in : origin s q < length c.bads
      step_in = omega (arith, step.0, step.1)

      zero_more : bads + 0 ≡ bads
      zero_more = omega arith

      pub joining : Joining b bads s.qubits (origin s q) q
      joining = record { first = rw zero_more at (bad-has 0 (omega (arith, step_in))); other = bad-has (origin s q) step_in; high = low }

      pub join-found : join_at b bads s.qubits (origin s q) q ∷ [] ≡ row_of c s q
      join-found =
          rw (ne_eqb (role s q) 1 (λ z. omega (arith, four)), eq-eqb (role s q) 4 four)
          (sym
          (ap (λ (n : ℕ). joined n (qubit-at (origin s q))) (ap (λ (n : ℕ). n - 1) (bad-qubit 0 (omega (arith, step_in)) ∙ ap (λ (n : ℕ). get_or s.qubits (field b n 0) 0) zero_more))
          ∙ ap (λ (n : ℕ). joined (get_or s.qubits (field b bads 0) 0 - 1) n) (ap (λ (n : ℕ). n - 1) (bad-qubit (origin s q) step_in))))
        where
          qubit-at : ℕ → ℕ
          qubit-at k = slot s (get_or (bad_gates c) k 0) - 1

          joined : ℕ → ℕ → List Row
          joined first other =
              let x : ℕ = cond (eqb (origin s q) 1) first (q - 1) in
              record { kind = row.Or; x = x; y = other; w = x; out = q } ∷ []

    pub none_found : (role s q ≡ 1 → ⊥) → (role s q ≡ 4 → ⊥) → [] ≡ row_of c s q
    none_found n m = rw (ne_eqb (role s q) 1 n, ne_eqb (role s q) 4 m)
