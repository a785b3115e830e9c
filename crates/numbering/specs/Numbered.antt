-- 01, "Making qubits": the whole numbering, from the bad states and the constraints, with the joins' names, and what it hands on: the rows in the order of
-- the names, and the data of which demand 3 speaks (`Named`). Assumes nothing: these are definitions.
use Rattle.std.specs.Prelude.{Bool, true, false, ◌&&◌, cond, List, [], ◌∷◌, ◌++◌, map, ℕ, zero, suc, ◌+◌, ◌-◌, eqb, ltb, length, get_or}
use Rattle.penalty.specs.declared.Kind.TheVariants as row
use Rattle.energy.specs.Plain.{Row, more}
use Rattle.energy.specs.Circuit.{Circuit, Bad, Constraint, Gate, Node, fixed, free, op, carry_of, nodes_of}
use Rattle.energy.specs.Numbering.{Named}
use Rattle.numbering.specs.State.{State, slot, qubit_of, origin, role, start}
use Rattle.numbering.specs.Visit.{give, visit_of}

-- ---- roots

abbrev pub bad_gates : Circuit → List ℕ
bad_gates c = map (λ (b : Bad). b.gate) c.bads

abbrev pub constraint_gates : Circuit → List ℕ
constraint_gates c = map (λ (k : Constraint). k.gate) c.constraints

-- all of them, in the order of their turns
abbrev pub roots : Circuit → List ℕ
roots c = bad_gates c ++ constraint_gates c

-- refused at a gate, with the tables then; or numbered
pub data Outcome : Type 0 where
  refused : ℕ → State → Outcome
  numbered : State → Outcome

abbrev pub decide : Bool → (State → Outcome) → (State → Outcome) → State → Outcome
decide true f h s = f s
decide false f h s = h s

-- "a bad-state or constraint gate already has a qubit when its turn comes"
unfoldable pub visit_roots : List Gate → List ℕ → State → Outcome
visit_roots gs [] s = numbered s
visit_roots gs (g ∷ rs) s = decide (eqb (slot s g) 0) (λ t. visit_roots gs rs (visit_of gs g t)) (refused g) s

-- ---- joins

-- "Bad-state qubits are joined [..], each taking a new name after those the constraints made": m join steps from step j on
unfoldable pub join_names : ℕ → ℕ → State → State
join_names j zero s = s
join_names j (suc m) s = join_names (j + 1) m (give j 4 s)

-- one join step fewer than there are bad states
abbrev pub joins_of : Circuit → ℕ
joins_of c = length c.bads - 1

abbrev pub name_joins : Circuit → State → Outcome
name_joins c s = numbered (join_names 1 (joins_of c) s)

-- ---- the whole

abbrev pub and_then : (State → Outcome) → Outcome → Outcome
and_then f (refused g s) = refused g s
and_then f (numbered s) = f s

-- "Bad states are processed in order, then constraints." The joins take their names "after those the constraints made".
unfoldable pub number : Circuit → Outcome
number c = and_then (name_joins c) (and_then (visit_roots c.gates (constraint_gates c)) (visit_roots c.gates (bad_gates c) (start c)))

-- ---- the rows, in the order of the names

-- the row of the gate whose result is q: a constant, a free bit and a carry have none
abbrev pub gate_row : State → ℕ → Node → List Row
gate_row s q (fixed b) = []
gate_row s q (free src) = []
gate_row s q (op k a b d) =
    record { kind = k; x = qubit_of s a; y = qubit_of s b; w = qubit_of s d; out = q - more k } ∷ []
gate_row s q (carry_of a) = []

-- the row of join step j, whose name is q: "the first with the second, that result with the third, and so on"
abbrev pub join_row : Circuit → State → ℕ → ℕ → Row
join_row c s q j =
    let x : ℕ = cond (eqb j 1) (qubit_of s (get_or (bad_gates c) 0 0)) (q - 1) in
    record { kind = row.Or; x = x; y = qubit_of s (get_or (bad_gates c) j 0); w = x; out = q }

abbrev pub row_of : Circuit → State → ℕ → List Row
row_of c s q =
    cond (eqb (role s q) 1) (gate_row s q (nodes_of c.gates (origin s q)))
    (cond (eqb (role s q) 4) (join_row c s q (origin s q) ∷ []) [])

-- of the m names from q on
unfoldable pub rows_from : Circuit → State → ℕ → ℕ → List Row
rows_from c s q zero = []
rows_from c s q (suc m) = row_of c s q ++ rows_from c s (suc q) m

unfoldable pub rows_of : Circuit → State → List Row
rows_of c s = rows_from c s 2 (s.next - 2)

-- ---- the data of demand 3

-- how many names a gate takes
abbrev pub size : Node → ℕ
size (fixed b) = 0
size (free src) = 1
size (op k a b d) = suc (more k)
size (carry_of a) = 0

abbrev pub cons_if : Bool → ℕ → List ℕ → List ℕ
cons_if true x xs = x ∷ xs
cons_if false x xs = xs

-- from the origins and the roles, the gates whose result is one of the m names from q on
unfoldable pub results_from : List ℕ → List ℕ → ℕ → ℕ → List ℕ
results_from o r q zero = []
results_from o r q (suc m) = cons_if (eqb (get_or r q 0) 1) (get_or o q 0) (results_from o r (suc q) m)

-- from the qubits, those of the m gates from g on that have a qubit and took no name: constants and carries
unfoldable pub sharers_from : List Gate → List ℕ → ℕ → ℕ → List ℕ
sharers_from gs q g zero = []
sharers_from gs q g (suc m) = cons_if (ltb 0 (get_or q g 0) && eqb (size (nodes_of gs g)) 0) g (sharers_from gs q (suc g) m)

-- the name of the first join
abbrev pub first_join : Circuit → State → ℕ
first_join c s = s.next - joins_of c

abbrev pub tail : List ℕ → List ℕ
tail [] = []
tail (x ∷ xs) = xs

-- The first name that a gate took stands as far before its entry as it took names.
abbrev pub base_of : List Gate → State → ℕ → ℕ
base_of gs s g = slot s g - size (nodes_of gs g)

-- What the tables say of gates whose names end before the name n, of all the names below `count`.
abbrev pub named_by : List Gate → ℕ → List ℕ → State → ℕ → ℕ → Named
named_by gs bad bads s n count =
    record {
      nodes = nodes_of gs;
      bad = bad;
      bads = bads;
      reached = results_from s.origins s.roles 2 (n - 2) ++ sharers_from gs s.qubits 0 (length gs);
      base = base_of gs s;
      next = n;
      count = count;
      origin = origin s;
    }

-- what the finished tables say
abbrev pub named_of : Circuit → State → Named
named_of c s = named_by c.gates (get_or (bad_gates c) 0 0) (tail (bad_gates c)) s (first_join c s) s.next
