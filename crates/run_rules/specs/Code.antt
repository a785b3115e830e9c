-- A rule as the code has it, with list numbers in the place of lists, and what it means: a `Law`.
-- Assumes nothing: these are definitions.
use Rattle.std.specs.Prelude.{Option, Some, None, Bool, false, not, ◌&&◌, ◌||◌, cond, List, [], ◌∷◌, ◌++◌, map, ◌≡◌, ℕ, ◌+◌, ◌*◌, ◌-◌, ◌≤◌, ◌<◌, eqb, ltb, length, get_or, take}
use Rattle.std.specs.Bool.{beq}
use Rattle.penalty.specs.Rule.{parity, majority}
use Rattle.circuit.specs.File.{field, kind_at, byte1}
use Rattle.circuit.specs.declared.GateKind.{GateKind}
use Rattle.circuit.specs.declared.GateKind.TheVariants as kind
use Rattle.units.specs.declared.Qubit.{Qubit}
use Rattle.units.specs.Name.{qubit}
use Rattle.run_rules.specs.declared.Rule.{Rule}
use Rattle.run_rules.specs.declared.Rule.TheVariants as rule
use Rattle.run_rules.specs.declared.Adder.{Adder}
use Rattle.run_rules.specs.declared.Adder.TheVariants as adder
use Rattle.run_rules.specs.declared.Act.{Act}
use Rattle.run_rules.specs.declared.Act.TheVariants as act
use Rattle.run_rules.specs.declared.Few.{Few}
use Rattle.run_rules.specs.declared.Part.{Part}
use Rattle.run_rules.specs.declared.Operands.{Operands}
use Rattle.run_rules.specs.declared.Reading.{Reading}
use Rattle.run_rules.specs.Rules.{Law, Not, And, Nand, Matriarch1, Or, AuxHalfAdder, CarryHalfAdder, ResultHalfAdder, AuxFullAdder, CarryFullAdder, ResultFullAdder, Quotient, Remainder, Invalid}
use Rattle.run_rules.specs.Layout.{named}

-- a gate's qubit, by the table of entries
abbrev pub name_in : List ℕ → ℕ → ℕ
name_in qubits g = get_or qubits g 0 - 1

-- what a rule means, with the qubits of each list
abbrev pub meant : (ℕ → List ℕ) → Rule → Law
meant L (rule.Not x) = Not x.0
meant L (rule.And x y) = And x.0 y.0
meant L (rule.Nand x y) = Nand x.0 y.0
meant L (rule.Matriarch1 x y) = Matriarch1 x.0 y.0
meant L (rule.Or x y) = Or x.0 y.0
meant L (rule.AuxHalfAdder x y) = AuxHalfAdder x.0 y.0
meant L (rule.AuxFullAdder x y z) = AuxFullAdder x.0 y.0 z.0
meant L (rule.CarryHalfAdder x y) = CarryHalfAdder x.0 y.0
meant L (rule.CarryFullAdder x y z) = CarryFullAdder x.0 y.0 z.0
meant L (rule.ResultHalfAdder x y) = ResultHalfAdder x.0 y.0
meant L (rule.ResultFullAdder x y z) = ResultFullAdder x.0 y.0 z.0
meant L (rule.Quotient i n d) = Quotient i (L n) (L d)
meant L (rule.Remainder i n d) = Remainder i (L n) (L d)
meant L rule.Invalid = Invalid

-- ---- the rule of a gate's name: i its index, n and d its list numbers, x y z the qubits of its operands

abbrev pub result_rule : GateKind → ℕ → ℕ → ℕ → Qubit → Qubit → Qubit → Rule
result_rule kind.ConstFalse i n d x y z = rule.Invalid
result_rule kind.ConstTrue i n d x y z = rule.Invalid
result_rule kind.InputBit i n d x y z = rule.Invalid
result_rule kind.Not i n d x y z = rule.Not x
result_rule kind.And i n d x y z = rule.And x y
result_rule kind.Nand i n d x y z = rule.Nand x y
result_rule kind.Or i n d x y z = rule.Or x y
result_rule kind.Matriarch1 i n d x y z = rule.Matriarch1 x y
result_rule kind.CarryHalfAdder i n d x y z = rule.Invalid
result_rule kind.ResultHalfAdder i n d x y z = rule.ResultHalfAdder x y
result_rule kind.CarryFullAdder i n d x y z = rule.Invalid
result_rule kind.ResultFullAdder i n d x y z = rule.ResultFullAdder x y z
result_rule kind.Quotient i n d x y z = rule.Quotient i n d
result_rule kind.Remainder i n d x y z = rule.Remainder i n d

abbrev pub adder_of : GateKind → Option Adder
adder_of kind.ConstFalse = None
adder_of kind.ConstTrue = None
adder_of kind.InputBit = None
adder_of kind.Not = None
adder_of kind.And = None
adder_of kind.Nand = None
adder_of kind.Or = None
adder_of kind.Matriarch1 = None
adder_of kind.CarryHalfAdder = None
adder_of kind.ResultHalfAdder = Some adder.Half
adder_of kind.CarryFullAdder = None
adder_of kind.ResultFullAdder = Some adder.Full
adder_of kind.Quotient = None
adder_of kind.Remainder = None

-- of an adder one of two rules, of any other gate none
abbrev pub by_adder : Option Adder → Rule → Rule → Rule
by_adder None h f = rule.Invalid
by_adder (Some adder.Half) h f = h
by_adder (Some adder.Full) h f = f

abbrev pub adder_rule : GateKind → Rule → Rule → Rule
adder_rule k h f = by_adder (adder_of k) h f

-- ---- what a rule reads and does

-- its operands that stand in the rule itself; one that it does not have is qubit 0
abbrev pub few : ℕ → Qubit → Qubit → Qubit → Few
few n x y z = record { n = n; x1 = x; x2 = y; x3 = z }

abbrev pub few_of : Rule → Few
few_of (rule.Not x) = few 1 x (qubit 0) (qubit 0)
few_of (rule.And x y) = few 2 x y (qubit 0)
few_of (rule.Nand x y) = few 2 x y (qubit 0)
few_of (rule.Matriarch1 x y) = few 2 x y (qubit 0)
few_of (rule.Or x y) = few 2 x y (qubit 0)
few_of (rule.AuxHalfAdder x y) = few 2 x y (qubit 0)
few_of (rule.AuxFullAdder x y z) = few 3 x y z
few_of (rule.CarryHalfAdder x y) = few 2 x y (qubit 0)
few_of (rule.CarryFullAdder x y z) = few 3 x y z
few_of (rule.ResultHalfAdder x y) = few 2 x y (qubit 0)
few_of (rule.ResultFullAdder x y z) = few 3 x y z
few_of (rule.Quotient i n d) = few 0 (qubit 0) (qubit 0) (qubit 0)
few_of (rule.Remainder i n d) = few 0 (qubit 0) (qubit 0) (qubit 0)
few_of rule.Invalid = few 0 (qubit 0) (qubit 0) (qubit 0)

-- what it does once it has read them
abbrev pub act_of : Rule → Act
act_of (rule.Not x) = act.Plain
act_of (rule.And x y) = act.Plain
act_of (rule.Nand x y) = act.Plain
act_of (rule.Matriarch1 x y) = act.Plain
act_of (rule.Or x y) = act.Plain
act_of (rule.AuxHalfAdder x y) = act.Plain
act_of (rule.AuxFullAdder x y z) = act.Plain
act_of (rule.CarryHalfAdder x y) = act.Plain
act_of (rule.CarryFullAdder x y z) = act.Plain
act_of (rule.ResultHalfAdder x y) = act.Plain
act_of (rule.ResultFullAdder x y z) = act.Plain
act_of (rule.Quotient i n d) = act.Quotient i n d
act_of (rule.Remainder i n d) = act.Remainder i n d
act_of rule.Invalid = act.Nothing

-- the value of a rule that is no division, from its operands' values
abbrev pub value_by : Rule → Bool → Bool → Bool → Bool
value_by (rule.Not x) p q r = not p
value_by (rule.And x y) p q r = p && q
value_by (rule.Nand x y) p q r = not (p && q)
value_by (rule.Matriarch1 x y) p q r = not p && q
value_by (rule.Or x y) p q r = p || q
value_by (rule.AuxHalfAdder x y) p q r = p && not q
value_by (rule.AuxFullAdder x y z) p q r = cond (beq p q) p (not r)
value_by (rule.CarryHalfAdder x y) p q r = p && q
value_by (rule.CarryFullAdder x y z) p q r = majority p q r
value_by (rule.ResultHalfAdder x y) p q r = parity p q
value_by (rule.ResultFullAdder x y z) p q r = parity (parity p q) r
value_by (rule.Quotient i n d) p q r = false
value_by (rule.Remainder i n d) p q r = false
value_by rule.Invalid p q r = false

-- ---- the rule of a name

abbrev pub reading_of : List ℕ → List ℕ → ℕ → Reading
reading_of b qubits g =
    record {
      kind = kind_at b g;
      index = byte1 b g;
      a = field b g 0;
      b = field b g 1;
      x = qubit (name_in qubits (field b g 0));
      y = qubit (name_in qubits (field b g 1));
      z = qubit (name_in qubits (field b g 2));
    }

-- of a gate's name, by its role
abbrev pub rule_by : Reading → ℕ → Rule
rule_by m r =
    cond (eqb r 1) (result_rule m.kind m.index m.a m.b m.x m.y m.z)
    (cond (eqb r 2) (adder_rule m.kind (rule.CarryHalfAdder m.x m.y) (rule.CarryFullAdder m.x m.y m.z))
    (adder_rule m.kind (rule.AuxHalfAdder m.x m.y) (rule.AuxFullAdder m.x m.y m.z)))

-- of join step j, whose name is q
abbrev pub join_rule : List ℕ → List ℕ → ℕ → Qubit → ℕ → Rule
join_rule b qubits bad_from q j =
    rule.Or (cond (eqb j 1) (qubit (name_in qubits (field b bad_from 0))) (qubit (q.0 - 1))) (qubit (name_in qubits (field b (bad_from + j) 0)))

unfoldable pub rule_at : List ℕ → List ℕ → List ℕ → List ℕ → ℕ → Qubit → Rule
rule_at b qubits origins roles bad_from q =
    let from : ℕ = get_or origins q.0 0 in
    let r : ℕ = get_or roles q.0 0 in
    cond (eqb r 4) (join_rule b qubits bad_from q from)
    (cond (eqb r 0) rule.Invalid (cond (ltb 4 r) rule.Invalid (rule_by (reading_of b qubits from) r)))

pub record RuleAsked (b : List ℕ) (bad_from : ℕ) (origins roles : List ℕ) (q : ℕ) : Type 0 where
  pub has-origin : q < length origins
  pub has-role : q < length roles
  pub new : get_or roles q 0 ≡ 4 → 1 ≤ q
  pub of-gate : 1 ≤ get_or roles q 0 → get_or roles q 0 ≤ 3 → 16 * (get_or origins q 0 + 1) ≤ length b
  pub of-join : get_or roles q 0 ≡ 4 → 16 * (bad_from + get_or origins q 0 + 1) ≤ length b

-- ---- what a rule reads

-- where a list's bits stand
abbrev pub part_of : List ℕ → ℕ → Part
part_of starts k = record { from = get_or starts k 0; bits = get_or starts (k + 1) 0 - get_or starts k 0 }

pub record PartAsked (starts : List ℕ) (k : ℕ) : Type 0 where
  pub there : k + 1 < length starts
  pub rises : get_or starts k 0 ≤ get_or starts (k + 1) 0

abbrev pub ListsAsked : List ℕ → Act → Type 0
ListsAsked starts act.Plain = Unit {0}
ListsAsked starts (act.Quotient i n d) = PartAsked starts n × PartAsked starts d
ListsAsked starts (act.Remainder i n d) = PartAsked starts n × PartAsked starts d
ListsAsked starts act.Nothing = Unit {0}

abbrev none : Part
none = record { from = 0; bits = 0 }

abbrev pub operands_by : List ℕ → Few → Act → Operands
operands_by starts f act.Plain = record { few = f; first = none; second = none }
operands_by starts f (act.Quotient i n d) = record { few = f; first = part_of starts n; second = part_of starts d }
operands_by starts f (act.Remainder i n d) = record { few = f; first = part_of starts n; second = part_of starts d }
operands_by starts f act.Nothing = record { few = f; first = none; second = none }

abbrev pub operands_of : List ℕ → Rule → Operands
operands_of starts r = operands_by starts (few_of r) (act_of r)

abbrev pub count_of : Operands → ℕ
count_of o = o.few.n + o.first.bits + o.second.bits

abbrev pub few_at : Few → ℕ → Qubit
few_at f i = cond (eqb i 0) f.x1 (cond (eqb i 1) f.x2 f.x3)

abbrev pub three : Few → List ℕ
three f = f.x1.0 ∷ f.x2.0 ∷ f.x3.0 ∷ []

-- the qubits of a list's bits
abbrev pub bits_at : List ℕ → List ℕ → Part → List ℕ
bits_at b qubits p = map (name_in qubits) (named b p.from p.bits)

-- the qubits of all operands, in order
unfoldable pub read : List ℕ → List ℕ → Operands → List ℕ
read b qubits o = take o.few.n (three o.few) ++ (bits_at b qubits o.first ++ bits_at b qubits o.second)

pub record OperandAsked (size : ℕ) (o : Operands) (i : ℕ) : Type 0 where
  pub three : o.few.n ≤ 3
  pub first : 16 * (o.first.from + o.first.bits) ≤ size
  pub second : 16 * (o.second.from + o.second.bits) ≤ size
  pub inside : i < count_of o
