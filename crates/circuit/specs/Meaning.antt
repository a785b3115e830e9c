-- What the bytes mean: the circuit of a file. It makes sense for every byte string; check.rt says which of them are circuit files.
-- Assumes nothing.
use Rattle.std.specs.Prelude.{ℕ, zero, suc, ◌+◌, ◌≡◌, true, List, [], ◌∷◌, map, eqb}
use Rattle.std.proofs.Common.{add-one, eq-eqb, ne_eqb}
use Rattle.circuit.specs.declared.GateKind.{GateKind}
use Rattle.circuit.specs.declared.GateKind.TheVariants as kind
use Rattle.energy.specs.Circuit.{Gate, Bad, Constraint, Input, Circuit}
use Rattle.energy.specs.Circuit.{ConstFalse, ConstTrue, InputBit, Not, And, Nand, Or, Matriarch1, CarryHalfAdder, CarryFullAdder, ResultHalfAdder, ResultFullAdder, Quotient, Remainder}
use Rattle.circuit.specs.File.{byte1, field, nid_at, kind_byte, kind_at, records, cons_if, those, places_of, bits_of}

-- the gates of list number k, lowest first: "kind 20 list bit (a list, b gate)"
unfoldable pub list_of : List ℕ → ℕ → List ℕ
list_of c k = map (λ (n : ℕ). field c n 1) (bits_of c 20 k)

-- "kind | gate | used"
abbrev pub gate_of : List ℕ → GateKind → ℕ → Gate
gate_of c kind.ConstFalse n = ConstFalse
gate_of c kind.ConstTrue n = ConstTrue
gate_of c kind.InputBit n = InputBit
gate_of c kind.Not n = Not (field c n 0)
gate_of c kind.And n = And (field c n 0) (field c n 1)
gate_of c kind.Nand n = Nand (field c n 0) (field c n 1)
gate_of c kind.Or n = Or (field c n 0) (field c n 1)
gate_of c kind.Matriarch1 n = Matriarch1 (field c n 0) (field c n 1)
gate_of c kind.CarryHalfAdder n = CarryHalfAdder (field c n 0)
gate_of c kind.ResultHalfAdder n = ResultHalfAdder (field c n 0) (field c n 1)
gate_of c kind.CarryFullAdder n = CarryFullAdder (field c n 0)
gate_of c kind.ResultFullAdder n = ResultFullAdder (field c n 0) (field c n 1) (field c n 2)
gate_of c kind.Quotient n = Quotient (byte1 c n) (list_of c (field c n 0)) (list_of c (field c n 1))
gate_of c kind.Remainder n = Remainder (byte1 c n) (list_of c (field c n 0)) (list_of c (field c n 1))

-- the gate that record n is
unfoldable pub gate_at : List ℕ → ℕ → Gate
gate_at c n = gate_of c (kind_at c n) n

-- "21 bad state (a gate, nid)"
abbrev pub bad_at : List ℕ → ℕ → Bad
bad_at c n = record { gate = field c n 0; nid = nid_at c n }

-- "22 constraint (a gate, byte 1 value 0 or 1)"
abbrev pub constraint_at : List ℕ → ℕ → Constraint
constraint_at c n = record { gate = field c n 0; value = eqb (byte1 c n) 1 }

-- the nid of the first of some records
abbrev pub first_nid : List ℕ → List ℕ → ℕ
first_nid c [] = 0
first_nid c (n ∷ ns) = nid_at c n

-- Input number k. "23 input bit (a input, b gate, nid, the same for all bits of one input)"
abbrev pub input_of : List ℕ → ℕ → Input
input_of c k = record { nid = first_nid c (bits_of c 23 k); bits = map (λ (n : ℕ). field c n 1) (bits_of c 23 k) }

-- the numbers of a list's or an input's bits before record n, the last first
unfoldable pub numbers_to : List ℕ → ℕ → ℕ → List ℕ
numbers_to c kind zero = []
numbers_to c kind (suc n) = cons_if (eqb (kind_byte c n) kind) (field c n 0) (numbers_to c kind n)

-- Numbers "begin at 0 and either stay or rise by one", so there are one more of them than the last one says.
abbrev pub how_many : List ℕ → ℕ
how_many [] = 0
how_many (k ∷ ks) = suc k

-- one record more: a bit's number is the last one
pub many-bit : (c : List ℕ) (kind n : ℕ) → kind_byte c n ≡ kind → how_many (numbers_to c kind (n + 1)) ≡ field c n 0 + 1
unfolding numbers_to
many-bit c kind n e = rw (add-one, add-one, eq-eqb (kind_byte c n) kind e)

pub many-other : (c : List ℕ) (kind n : ℕ) → (kind_byte c n ≡ kind → ⊥) → how_many (numbers_to c kind (n + 1)) ≡ how_many (numbers_to c kind n)
unfolding numbers_to
many-other c kind n e = rw (add-one, ne_eqb (kind_byte c n) kind e)

-- the numbers from 0 on, n of them
unfoldable pub first_numbers : ℕ → List ℕ
first_numbers n = those (λ (k : ℕ). true) 0 n

-- The circuit. "The n-th gate record is gate n, from 0."
unfoldable pub circuit_of : List ℕ → Circuit
circuit_of c = record {
  gates = map (gate_at c) (places_of c 0 13);
  bads = map (bad_at c) (places_of c 21 21);
  constraints = map (constraint_at c) (places_of c 22 22);
  inputs = map (input_of c) (first_numbers (how_many (numbers_to c 23 (records c))));
}
