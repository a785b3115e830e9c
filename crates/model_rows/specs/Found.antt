-- The row of a name as the code hands it on: its kind, and the qubits at its slots; or none.
-- Assumes nothing.
use Rattle.std.specs.Prelude.{◌≡◌, refl, Option, Some, None, cond, List, [], ◌∷◌, ℕ, ◌+◌, ◌-◌, eqb, get_or}
use Rattle.std.proofs.Common.{ap}
use Rattle.std.proofs.Math.Path.{fun_ext}
use Rattle.units.specs.Name.{qubit}
use Rattle.penalty.specs.declared.Kind.{Kind}
use Rattle.penalty.specs.declared.Kind.TheVariants as row
use Rattle.penalty.specs.Rows.{Slot, in₁, in₂, in₃, res, aux, car, row_of}
use Rattle.energy.specs.Plain.{Row, more, mid, wire}
use Rattle.energy.specs.Model.{Model}
use Rattle.circuit.specs.declared.GateKind.{GateKind}
use Rattle.circuit.specs.declared.GateKind.TheVariants.{ConstFalse, ConstTrue, InputBit, Not, And, Nand, Or, Matriarch1, CarryHalfAdder, ResultHalfAdder, CarryFullAdder, ResultFullAdder, Quotient, Remainder}
use Rattle.circuit.specs.File.{field}
use Rattle.circuit.specs.Meaning.{gate_of}
use Rattle.energy.specs.Circuit.{node}
use Rattle.numbering.specs.State.{State}
use Rattle.numbering.specs.Numbered.{gate_row}
use Rattle.store_place.specs.declared.Wires.{Wires}
use Rattle.store_place.specs.Wiring.{slots_of}
use Rattle.store_place.specs.Logged.{logged, logged_all}
use Rattle.model_rows.specs.declared.Placed.{Placed}

-- ---- which row a gate has, and which of its fields are the row's operands

abbrev pub ruled_by : GateKind → Option Kind
ruled_by ConstFalse = None
ruled_by ConstTrue = None
ruled_by InputBit = None
ruled_by Not = Some row.Not
ruled_by And = Some row.And
ruled_by Nand = Some row.Nand
ruled_by Or = Some row.Or
ruled_by Matriarch1 = Some row.Matriarch1
ruled_by CarryHalfAdder = None
ruled_by ResultHalfAdder = Some row.Half
ruled_by CarryFullAdder = None
ruled_by ResultFullAdder = Some row.Full
ruled_by Quotient = None
ruled_by Remainder = None

-- the fields of the second and the third operand; where there is none, the first once more
abbrev pub second : Kind → ℕ
second row.Not = 0
second row.And = 1
second row.Nand = 1
second row.Matriarch1 = 1
second row.Or = 1
second row.Half = 1
second row.Full = 1

abbrev pub third : Kind → ℕ
third row.Not = 0
third row.And = 0
third row.Nand = 0
third row.Matriarch1 = 0
third row.Or = 0
third row.Half = 0
third row.Full = 2

-- the row of this kind of gate g, whose result is q, by the table of qubits
abbrev pub row_at : List ℕ → List ℕ → ℕ → ℕ → Kind → Row
row_at b qs g q k =
    record {
      kind = k;
      x = get_or qs (field b g 0) 0 - 1;
      y = get_or qs (field b g (second k)) 0 - 1;
      w = get_or qs (field b g (third k)) 0 - 1;
      out = q - more k;
    }

abbrev pub rows_by : List ℕ → List ℕ → ℕ → ℕ → Option Kind → List Row
rows_by b qs g q (Some k) = row_at b qs g q k ∷ []
rows_by b qs g q None = []

-- the Or of join step j, whose result is q: bad states are the records from `bads` on
abbrev pub join_at : List ℕ → ℕ → List ℕ → ℕ → ℕ → Row
join_at b bads qs j q =
    let x : ℕ = cond (eqb j 1) (get_or qs (field b bads 0) 0 - 1) (q - 1) in
    record { kind = row.Or; x = x; y = get_or qs (field b (bads + j) 0) 0 - 1; w = x; out = q }

-- this is the row that the gate's node has
pub gate-rows : (b : List ℕ) (s : State) (g q : ℕ) (kind : GateKind) → gate_row s q (node (gate_of b kind g)) ≡ rows_by b s.qubits g q (ruled_by kind)
gate-rows b s g q ConstFalse = refl
gate-rows b s g q ConstTrue = refl
gate-rows b s g q InputBit = refl
gate-rows b s g q Not = refl
gate-rows b s g q And = refl
gate-rows b s g q Nand = refl
gate-rows b s g q Or = refl
gate-rows b s g q Matriarch1 = refl
gate-rows b s g q CarryHalfAdder = refl
gate-rows b s g q ResultHalfAdder = refl
gate-rows b s g q CarryFullAdder = refl
gate-rows b s g q ResultFullAdder = refl
gate-rows b s g q Quotient = refl
gate-rows b s g q Remainder = refl

-- ---- rows by value

-- the qubits at the slots of a row
abbrev pub wires_of : Row → Wires
wires_of r =
    record {
      x1 = qubit r.x;
      x2 = qubit r.y;
      x3 = qubit r.w;
      z = qubit (r.out + more r.kind);
      a = qubit r.out;
      k = qubit (r.out + mid r.kind);
    }

-- the row of a name, which has at most one
abbrev pub found : List Row → Option Placed
found [] = None
found (r ∷ rs) = Some (record { kind = r.kind; wires = wires_of r })

-- it is placed as a row of the log
abbrev pub placed_by : Option Placed → Model → Model
placed_by (Some p) m = logged (slots_of p.wires) (row_of p.kind) m
placed_by None m = m

pub slots-wire : (r : Row) → slots_of (wires_of r) ≡ wire r
unfolding wire
slots-wire r = fun_ext go
  where
    go : (s : Slot) → slots_of (wires_of r) s ≡ wire r s
    go in₁ = refl
    go in₂ = refl
    go in₃ = refl
    go res = refl
    go aux = refl
    go car = refl

pub placed_one : (r : Row) (m : Model) → placed_by (found (r ∷ [])) m ≡ logged_all (r ∷ []) m
unfolding logged_all
placed_one r m = ap (λ (at : Slot → ℕ). logged at (row_of r.kind) m) (slots-wire r)

pub placed-none : (m : Model) → placed_by (found []) m ≡ logged_all [] m
unfolding logged_all
placed-none m = refl
