-- 01's samples of names, and a few of its rules, computed. Assumes nothing.
use Rattle.std.specs.Prelude.{◌≡◌, refl, true, List, [], ◌∷◌, map, ℕ, replicate}
use Rattle.penalty.specs.declared.Kind.TheVariants as row
use Rattle.energy.specs.Plain.{Row}
use Rattle.energy.specs.Circuit.{Circuit, Bad, Gate, ConstTrue, InputBit, And, CarryHalfAdder, ResultHalfAdder, Quotient, Not}
use Rattle.energy.specs.Numbering.{rows, name}
use Rattle.numbering.specs.State.{mk, start}
use Rattle.numbering.specs.Visit.{one_name, three_names, take, each, process, step, visit, visit_of}
use Rattle.numbering.specs.Numbered.{Outcome, refused, numbered, visit_roots, join_names, number, rows_from, rows_of, results_from, sharers_from, named_of}

abbrev bad : ℕ → Bad
bad g = record { gate = g; nid = 30 }

-- gates, and which of them are bad states
abbrev circuit : List Gate → List ℕ → Circuit
circuit gs bs = record { gates = gs; bads = map bad bs; constraints = []; inputs = [] }

-- the entries of the gates, or those at a refusal
abbrev entries : Outcome → List ℕ
entries (refused g s) = s.qubits
entries (numbered s) = s.qubits

abbrev rows_in : Circuit → Outcome → List Row
rows_in c (refused g s) = []
rows_in c (numbered s) = rows_of c s

-- the rows, as demand 3 has them
abbrev rows_by : Circuit → Outcome → List Row
rows_by c (refused g s) = []
rows_by c (numbered s) = rows (named_of c s)

-- P makes qubits 2, 3, 4: every entry of the tables. There are 3 * 3 + 1 + 1 = 11 names.
P : Circuit
P = circuit (InputBit ∷ InputBit ∷ And 0 1 ∷ []) (2 ∷ [])

P-named : number P ≡ numbered
    (mk (3 ∷ 4 ∷ 5 ∷ []) (0 ∷ 0 ∷ 0 ∷ 1 ∷ 2 ∷ replicate 6 0) (0 ∷ 0 ∷ 1 ∷ 1 ∷ 1 ∷ replicate 6 0) 5)
unfolding P start number visit_roots join_names one_name take each process step visit visit_of
P-named = refl

P-rows : rows_in P (number P) ≡ record { kind = row.And; x = 2; y = 3; w = 2; out = 4 } ∷ []
unfolding P start number visit_roots join_names one_name take each process step visit visit_of rows_from rows_of
P-rows = refl

-- the half adder's carry as bad state: aux 4, carry 5, result 6
half : Circuit
half = circuit (InputBit ∷ InputBit ∷ ResultHalfAdder 0 1 ∷ CarryHalfAdder 2 ∷ []) (3 ∷ [])

half-named : number half ≡ numbered
    (mk (3 ∷ 4 ∷ 7 ∷ 6 ∷ [])
    (0 ∷ 0 ∷ 0 ∷ 1 ∷ 2 ∷ 2 ∷ 2 ∷ replicate 7 0)
    (0 ∷ 0 ∷ 1 ∷ 1 ∷ 3 ∷ 2 ∷ 1 ∷ replicate 7 0)
    7)
unfolding half start number visit_roots join_names one_name three_names take each process step visit visit_of
half-named = refl

-- the quotient of InputBits 0 by 1: quotient 2, dividend 3, divisor 4
division : Circuit
division = circuit (InputBit ∷ InputBit ∷ Quotient 0 (0 ∷ []) (1 ∷ []) ∷ []) (2 ∷ [])

division-named : entries (number division) ≡ 4 ∷ 5 ∷ 3 ∷ []
unfolding division start number visit_roots join_names one_name take each process step visit visit_of
division-named = refl

-- one InputBit, and its Not, as bad states and a ConstTrue as third; a constraint on the Not of the second: the joins come after it
joined : Circuit
joined =
    record {
      gates = InputBit ∷ Not 0 ∷ Not 1 ∷ ConstTrue ∷ [];
      bads = map bad (0 ∷ 1 ∷ 3 ∷ []);
      constraints = record { gate = 2; value = true } ∷ [];
      inputs = [];
    }

joined-named : number joined ≡ numbered
    (mk (3 ∷ 4 ∷ 5 ∷ 2 ∷ [])
    (0 ∷ 0 ∷ 0 ∷ 1 ∷ 2 ∷ 1 ∷ 2 ∷ replicate 9 0)
    (0 ∷ 0 ∷ 1 ∷ 1 ∷ 1 ∷ 4 ∷ 4 ∷ replicate 9 0)
    7)
unfolding joined start number visit_roots join_names one_name take each process step visit visit_of
joined-named = refl

joined-rows : rows_in joined (number joined)
    ≡ record { kind = row.Not; x = 2; y = 2; w = 2; out = 3 }
    ∷ record { kind = row.Not; x = 3; y = 3; w = 3; out = 4 }
    ∷ record { kind = row.Or; x = 2; y = 3; w = 2; out = 5 }
    ∷ record { kind = row.Or; x = 5; y = 1; w = 5; out = 6 }
    ∷ []
unfolding joined start number visit_roots join_names one_name take each process step visit visit_of rows_from rows_of
joined-rows = refl

joined-agree : rows_in joined (number joined) ≡ rows_by joined (number joined)
unfolding joined start number visit_roots join_names one_name take each process step visit visit_of rows_from rows_of results_from sharers_from name
joined-agree = refl

-- Same gate as two bad states: 8, and the place is the gate. So too a bad state that an earlier one reached.
twice : number (circuit (InputBit ∷ []) (0 ∷ 0 ∷ [])) ≡ refused 0 (mk (3 ∷ []) (replicate 6 0) (0 ∷ 0 ∷ 1 ∷ 0 ∷ 0 ∷ 0 ∷ []) 3)
unfolding start number visit_roots join_names one_name take each process step visit visit_of
twice = refl

reached-before : entries (number (circuit (InputBit ∷ Not 0 ∷ []) (1 ∷ 0 ∷ []))) ≡ 3 ∷ 4 ∷ []
unfolding start number visit_roots join_names one_name take each process step visit visit_of
reached-before = refl
