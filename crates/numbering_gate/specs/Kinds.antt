-- What a gate of each kind does with names, as the code has it. Assumes nothing: these are definitions.
use Rattle.std.specs.Prelude.{◌≡◌, Bool, true, false, List, ℕ, ◌+◌, ◌*◌, ◌-◌, ◌≤◌, ◌<◌, length}
use Rattle.circuit.specs.declared.GateKind.{GateKind}
use Rattle.circuit.specs.declared.GateKind.TheVariants.{ConstFalse as is_false, ConstTrue, InputBit, Not, And, Nand, Or, Matriarch1, CarryHalfAdder, ResultHalfAdder, CarryFullAdder, ResultFullAdder, Quotient, Remainder}
use Rattle.circuit.specs.File.{field}
use Rattle.numbering_gate.specs.declared.Act.{Act}
use Rattle.numbering_gate.specs.declared.Act.TheVariants.{Low, High, One, Three, Share, Done}
use Rattle.numbering_gate.specs.State.{State, slot}
use Rattle.numbering_gate.specs.Names.{mark, one_name, three_names}

-- how many of its fields it visits before it takes its name
abbrev pub arity : GateKind → ℕ
arity is_false = 0
arity ConstTrue = 0
arity InputBit = 0
arity Not = 1
arity And = 2
arity Nand = 2
arity Or = 2
arity Matriarch1 = 2
arity CarryHalfAdder = 1
arity ResultHalfAdder = 2
arity CarryFullAdder = 1
arity ResultFullAdder = 3
arity Quotient = 0
arity Remainder = 0

abbrev pub act_of : GateKind → Act
act_of is_false = Low
act_of ConstTrue = High
act_of InputBit = One
act_of Not = One
act_of And = One
act_of Nand = One
act_of Or = One
act_of Matriarch1 = One
act_of CarryHalfAdder = Share
act_of ResultHalfAdder = Three
act_of CarryFullAdder = Share
act_of ResultFullAdder = Three
act_of Quotient = Done
act_of Remainder = Done

abbrev pub is_division : Act → Bool
is_division Low = false
is_division High = false
is_division One = false
is_division Three = false
is_division Share = false
is_division Done = true

-- what gate g does with names once its operands have their qubits: a is its first operand
unfoldable pub finish : Act → ℕ → ℕ → State → State
finish Low a g s = mark g 1 s
finish High a g s = mark g 2 s
finish One a g s = one_name g s
finish Three a g s = three_names g s
finish Share a g s = mark g (slot s a - 1) s
finish Done a g s = s

-- ---- what the contracts ask

-- there is an entry for gate g and there are k free names, all of which fit two bytes
pub record Room (s : State) (g k : ℕ) : Type 0 where
  pub gate : g < length s.qubits
  pub origins : s.next + k ≤ length s.origins
  pub roles : s.next + k ≤ length s.roles
  pub small : s.next + k < 65536

-- what the last step at a gate asks: room for three names, and of a carry that its adder has a qubit
pub record CanFinish (act : Act) (b : List ℕ) (g : ℕ) (s : State) : Type 0 where
  pub room : Room s g 3
  pub whole : 16 * (g + 1) ≤ length b
  pub gate : act ≡ Share → field b g 0 < length s.qubits
  pub adder : act ≡ Share → 1 ≤ slot s (field b g 0)
