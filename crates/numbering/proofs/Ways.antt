-- What the code does at a gate is what the visit says, kind by kind.
--     division-way    a division: one name, then the dividend's and the divisor's gates
--     other_way       any other gate: its fields, and then what `finish` says
-- Assumes nothing.
use mathlib.Core.Path.{◌≡◌, refl}
use mathlib.Core.Bool.{true, false}
use mathlib.Core.List.{List, [], ◌++◌}
use Prim.Native.Nat.{ℕ, ◌≤◌, ◌<◌}
use native.Mathlib.Omega.{arith}
use lib.ListN.{length, get_or}
use Rattle.energy.specs.Circuit.{Gate, ConstFalse, node}
use Rattle.energy.specs.Numbering.{reads}
use Rattle.circuit.specs.declared.GateKind.{GateKind}
use Rattle.circuit.specs.declared.GateKind.TheVariants as kind
use Rattle.circuit.specs.File.{field, kind_at}
use Rattle.circuit.specs.Meaning.{list_of, gate_of, gate_at}
use Rattle.numbering_gate.specs.declared.Act.TheVariants.{Share}
use Rattle.numbering.specs.State.{State}
use Rattle.numbering.specs.Visit.{one_name, take, operands, each, process, visit_of, process_of, visits}
use Rattle.numbering.specs.Fuel.{each_append}
use Rattle.numbering.specs.Read.{arity, act_of, is_division, finish, fields_from, gates_in, Laid}

pub arity-three : (k : GateKind) → arity k ≤ 3
arity-three kind.ConstFalse = omega arith
arity-three kind.ConstTrue = omega arith
arity-three kind.InputBit = omega arith
arity-three kind.Not = omega arith
arity-three kind.And = omega arith
arity-three kind.Nand = omega arith
arity-three kind.Or = omega arith
arity-three kind.Matriarch1 = omega arith
arity-three kind.CarryHalfAdder = omega arith
arity-three kind.ResultHalfAdder = omega arith
arity-three kind.CarryFullAdder = omega arith
arity-three kind.ResultFullAdder = omega arith
arity-three kind.Quotient = omega arith
arity-three kind.Remainder = omega arith

-- a gate that shares its adder's carry has one operand, the adder
pub share-one : (k : GateKind) → act_of k ≡ Share → arity k ≡ 1
share-one kind.ConstFalse e = cc
share-one kind.ConstTrue e = cc
share-one kind.InputBit e = cc
share-one kind.Not e = refl
share-one kind.And e = cc
share-one kind.Nand e = cc
share-one kind.Or e = cc
share-one kind.Matriarch1 e = cc
share-one kind.CarryHalfAdder e = refl
share-one kind.ResultHalfAdder e = cc
share-one kind.CarryFullAdder e = refl
share-one kind.ResultFullAdder e = cc
share-one kind.Quotient e = cc
share-one kind.Remainder e = cc

module _ (b : List ℕ) (g : ℕ) where
  pub operands_of : (k : GateKind) → operands (gate_of b k g) ≡ fields_from b g 0 (arity k)
  unfolding fields_from
  operands_of kind.ConstFalse = refl
  operands_of kind.ConstTrue = refl
  operands_of kind.InputBit = refl
  operands_of kind.Not = refl
  operands_of kind.And = refl
  operands_of kind.Nand = refl
  operands_of kind.Or = refl
  operands_of kind.Matriarch1 = refl
  operands_of kind.CarryHalfAdder = refl
  operands_of kind.ResultHalfAdder = refl
  operands_of kind.CarryFullAdder = refl
  operands_of kind.ResultFullAdder = refl
  operands_of kind.Quotient = refl
  operands_of kind.Remainder = refl

  -- a division: no operands, one name, and its two lists
  pub divides : (k : GateKind) → is_division (act_of k) ≡ true → (s : State)
      → (operands (gate_of b k g) ≡ []) × (take g (node (gate_of b k g)) s ≡ one_name g s)
      × (reads (node (gate_of b k g)) ≡ list_of b (field b g 0) ++ list_of b (field b g 1))
  unfolding take
  divides kind.ConstFalse d s = (refl, cc, cc)
  divides kind.ConstTrue d s = (refl, cc, cc)
  divides kind.InputBit d s = (refl, refl, cc)
  divides kind.Not d s = (cc, cc, cc)
  divides kind.And d s = (cc, cc, cc)
  divides kind.Nand d s = (cc, cc, cc)
  divides kind.Or d s = (cc, cc, cc)
  divides kind.Matriarch1 d s = (cc, cc, cc)
  divides kind.CarryHalfAdder d s = (cc, cc, cc)
  divides kind.ResultHalfAdder d s = (cc, cc, cc)
  divides kind.CarryFullAdder d s = (cc, cc, cc)
  divides kind.ResultFullAdder d s = (cc, cc, cc)
  divides kind.Quotient d s = (refl, refl, refl)
  divides kind.Remainder d s = (refl, refl, refl)

  -- any other gate: what `finish` does, and nothing after it
  finishes : (k : GateKind) → is_division (act_of k) ≡ false → (s : State)
      → (take g (node (gate_of b k g)) s ≡ finish (act_of k) (field b g 0) g s) × (reads (node (gate_of b k g)) ≡ [])
  unfolding take finish
  finishes kind.ConstFalse d s = (refl, refl)
  finishes kind.ConstTrue d s = (refl, refl)
  finishes kind.InputBit d s = (refl, refl)
  finishes kind.Not d s = (refl, refl)
  finishes kind.And d s = (refl, refl)
  finishes kind.Nand d s = (refl, refl)
  finishes kind.Or d s = (refl, refl)
  finishes kind.Matriarch1 d s = (refl, refl)
  finishes kind.CarryHalfAdder d s = (refl, refl)
  finishes kind.ResultHalfAdder d s = (refl, refl)
  finishes kind.CarryFullAdder d s = (refl, refl)
  finishes kind.ResultFullAdder d s = (refl, refl)
  finishes kind.Quotient d s = (cc, cc)
  finishes kind.Remainder d s = (cc, cc)

module _ (b starts : List ℕ) (laid : Laid b starts) (g : ℕ) (g_in : g < length (gates_in b)) where
  abbrev gs : List Gate
  gs = gates_in b

  pub gate-is : get_or gs g ConstFalse ≡ gate_of b (kind_at b g) g
  unfolding gate_at
  gate-is = laid.gates g g_in

  pub division-way : is_division (act_of (kind_at b g)) ≡ true → (s : State)
      → process_of gs g s ≡ visits gs (list_of b (field b g 1)) (visits gs (list_of b (field b g 0)) (one_name g s))
  unfolding process each
  division-way d s =
      let (o, t, r) = divides b g (kind_at b g) d s in
      rw (gate-is, o, t, r) (each_append (visit_of gs) (list_of b (field b g 0)) (list_of b (field b g 1)) (one_name g s))

  pub other_way : is_division (act_of (kind_at b g)) ≡ false → (s : State)
      → process_of gs g s ≡ finish (act_of (kind_at b g)) (field b g 0) g (visits gs (fields_from b g 0 (arity (kind_at b g))) s)
  unfolding process each
  other_way d s =
      let (t, r) = finishes b g (kind_at b g) d (visits gs (fields_from b g 0 (arity (kind_at b g))) s) in
      rw (gate-is, operands_of b g (kind_at b g), r, t)
