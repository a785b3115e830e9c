-- 01, "Making qubits": visiting and processing, as functions on the tables. Assumes nothing: these are definitions.
use Rattle.std.specs.Prelude.{List, [], ◌∷◌, ℕ, zero, suc, eqb, get_or}
use Rattle.energy.specs.Circuit.{Gate, ConstFalse, ConstTrue, InputBit, Not, And, Nand, Or, Matriarch1, CarryHalfAdder, CarryFullAdder, ResultHalfAdder, ResultFullAdder, Quotient, Remainder, node}
use Rattle.energy.specs.Numbering.{reads}
use Rattle.numbering.specs.State.{State, slot}
-- what a gate does with names
pub use Rattle.numbering_gate.specs.Names.{mark, give, keep, choose}
unfoldable pub use Rattle.numbering_gate.specs.Names.{one_name, three_names, take}

-- what a gate visits before it takes its name, left to right
abbrev pub operands : Gate → List ℕ
operands ConstFalse = []
operands ConstTrue = []
operands InputBit = []
operands (Not a) = a ∷ []
operands (And a b) = a ∷ b ∷ []
operands (Nand a b) = a ∷ b ∷ []
operands (Or a b) = a ∷ b ∷ []
operands (Matriarch1 a b) = a ∷ b ∷ []
operands (CarryHalfAdder a) = a ∷ []
operands (CarryFullAdder a) = a ∷ []
operands (ResultHalfAdder a b) = a ∷ b ∷ []
operands (ResultFullAdder a b d) = a ∷ b ∷ d ∷ []
operands (Quotient i n d) = []
operands (Remainder i n d) = []

-- v at each gate of a list, in order
unfoldable pub each : (ℕ → State → State) → List ℕ → State → State
each v [] s = s
each v (x ∷ xs) s = each v xs (v x s)

-- "An operand without a qubit is processed first, left to right: visiting and processing call each other. Quotient and Remainder take their name before
-- visiting dividend and divisor; all others after." What v does is the visit; `reads` are a division's dividend and divisor.
unfoldable pub process : (ℕ → State → State) → ℕ → Gate → State → State
process v g gate s = each v (reads (node gate)) (take g (node gate) (each v (operands gate) s))

-- a gate that has a qubit is left as it is
unfoldable pub step : List Gate → (ℕ → State → State) → ℕ → State → State
step gs v g s = choose (eqb (slot s g) 0) (process v g (get_or gs g ConstFalse)) (λ s. s) s

-- at most f levels deep
unfoldable pub visit : List Gate → ℕ → ℕ → State → State
visit gs zero g s = s
visit gs (suc f) g s = step gs (visit gs f) g s

-- operands are earlier gates, so gate g is at most g + 1 levels deep
unfoldable pub visit_of : List Gate → ℕ → State → State
visit_of gs g = visit gs (suc g) g

abbrev pub process_of : List Gate → ℕ → State → State
process_of gs g = process (visit_of gs) g (get_or gs g ConstFalse)

abbrev pub visits : List Gate → List ℕ → State → State
visits gs = each (visit_of gs)
