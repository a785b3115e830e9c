-- The rule of a qubit, "like the Rust's": read off the name's origin and role and the circuit.
-- Assumes nothing: these are definitions.
use Rattle.std.specs.Prelude.{cond, List, [], ◌∷◌, ◌++◌, map, ℕ, ◌+◌, ◌-◌, eqb, length, get_or}
use Rattle.energy.specs.Circuit as gate
use Rattle.energy.specs.Circuit.{Circuit, Gate}
use Rattle.numbering.specs.State.{State, qubit_of, origin, role}
use Rattle.numbering.specs.Numbered.{bad_gates}

-- Operands are qubits; a division has its index and the qubits of dividend and divisor, lowest bit first.
pub data Law : Type 0 where
  Not : ℕ → Law
  And Nand Matriarch1 Or : ℕ → ℕ → Law
  AuxHalfAdder CarryHalfAdder ResultHalfAdder : ℕ → ℕ → Law
  AuxFullAdder CarryFullAdder ResultFullAdder : ℕ → ℕ → ℕ → Law
  Quotient Remainder : ℕ → List ℕ → List ℕ → Law
  Invalid : Law

-- ---- the rule of a name, by what its gate took it as

-- as the result: an input bit has no rule; constants and carry gates take no name
abbrev pub result_law : (ℕ → ℕ) → Gate → Law
result_law q gate.ConstFalse = Invalid
result_law q gate.ConstTrue = Invalid
result_law q gate.InputBit = Invalid
result_law q (gate.Not a) = Not (q a)
result_law q (gate.And a b) = And (q a) (q b)
result_law q (gate.Nand a b) = Nand (q a) (q b)
result_law q (gate.Or a b) = Or (q a) (q b)
result_law q (gate.Matriarch1 a b) = Matriarch1 (q a) (q b)
result_law q (gate.CarryHalfAdder a) = Invalid
result_law q (gate.CarryFullAdder a) = Invalid
result_law q (gate.ResultHalfAdder a b) = ResultHalfAdder (q a) (q b)
result_law q (gate.ResultFullAdder a b c) = ResultFullAdder (q a) (q b) (q c)
result_law q (gate.Quotient i n d) = Quotient i (map q n) (map q d)
result_law q (gate.Remainder i n d) = Remainder i (map q n) (map q d)

-- as an adder's carry
abbrev pub carry_law : (ℕ → ℕ) → Gate → Law
carry_law q gate.ConstFalse = Invalid
carry_law q gate.ConstTrue = Invalid
carry_law q gate.InputBit = Invalid
carry_law q (gate.Not a) = Invalid
carry_law q (gate.And a b) = Invalid
carry_law q (gate.Nand a b) = Invalid
carry_law q (gate.Or a b) = Invalid
carry_law q (gate.Matriarch1 a b) = Invalid
carry_law q (gate.CarryHalfAdder a) = Invalid
carry_law q (gate.CarryFullAdder a) = Invalid
carry_law q (gate.ResultHalfAdder a b) = CarryHalfAdder (q a) (q b)
carry_law q (gate.ResultFullAdder a b c) = CarryFullAdder (q a) (q b) (q c)
carry_law q (gate.Quotient i n d) = Invalid
carry_law q (gate.Remainder i n d) = Invalid

-- as an adder's aux
abbrev pub aux_law : (ℕ → ℕ) → Gate → Law
aux_law q gate.ConstFalse = Invalid
aux_law q gate.ConstTrue = Invalid
aux_law q gate.InputBit = Invalid
aux_law q (gate.Not a) = Invalid
aux_law q (gate.And a b) = Invalid
aux_law q (gate.Nand a b) = Invalid
aux_law q (gate.Or a b) = Invalid
aux_law q (gate.Matriarch1 a b) = Invalid
aux_law q (gate.CarryHalfAdder a) = Invalid
aux_law q (gate.CarryFullAdder a) = Invalid
aux_law q (gate.ResultHalfAdder a b) = AuxHalfAdder (q a) (q b)
aux_law q (gate.ResultFullAdder a b c) = AuxFullAdder (q a) (q b) (q c)
aux_law q (gate.Quotient i n d) = Invalid
aux_law q (gate.Remainder i n d) = Invalid

-- Join step j, whose name is q: "the first with the second, that result with the third, and so on".
abbrev pub join_law : Circuit → State → ℕ → ℕ → Law
join_law c s q j = Or (cond (eqb j 1) (qubit_of s (get_or (bad_gates c) 0 0)) (q - 1)) (qubit_of s (get_or (bad_gates c) j 0))

-- the rule of the name q
unfoldable pub law_of : Circuit → State → ℕ → Law
law_of c s q =
    let g : Gate = get_or c.gates (origin s q) gate.ConstFalse in
    cond (eqb (role s q) 1) (result_law (qubit_of s) g)
    (cond (eqb (role s q) 2) (carry_law (qubit_of s) g)
    (cond (eqb (role s q) 3) (aux_law (qubit_of s) g)
    (cond (eqb (role s q) 4) (join_law c s q (origin s q)) Invalid)))

-- ---- what a rule reads

-- "its operands (all, left to right, dividend before divisor)"
abbrev pub operands : Law → List ℕ
operands (Not x) = x ∷ []
operands (And x y) = x ∷ y ∷ []
operands (Nand x y) = x ∷ y ∷ []
operands (Matriarch1 x y) = x ∷ y ∷ []
operands (Or x y) = x ∷ y ∷ []
operands (AuxHalfAdder x y) = x ∷ y ∷ []
operands (CarryHalfAdder x y) = x ∷ y ∷ []
operands (ResultHalfAdder x y) = x ∷ y ∷ []
operands (AuxFullAdder x y z) = x ∷ y ∷ z ∷ []
operands (CarryFullAdder x y z) = x ∷ y ∷ z ∷ []
operands (ResultFullAdder x y z) = x ∷ y ∷ z ∷ []
operands (Quotient i n d) = n ++ d
operands (Remainder i n d) = n ++ d
operands Invalid = []

-- "over a depth taken from the originating gate or join step": join steps come after all gates
unfoldable pub depth : Circuit → State → ℕ → ℕ
depth c s q = cond (eqb (role s q) 4) (length c.gates + origin s q) (origin s q)
