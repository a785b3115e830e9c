-- How a record lies in bytes, and the records of a file by kind.
-- "Records of 16 bytes, no header, little endian: byte 0 kind, byte 1 index or value, then a, b, c of two bytes each, then nid of eight bytes."
-- Every definition makes sense for every byte string: past its end a byte is 0.
-- Assumes nothing.
use Rattle.std.specs.Prelude.{ℕ, zero, suc, ◌+◌, ◌*◌, ◌/◌, Bool, true, false, ◌&&◌, List, [], ◌∷◌, leb, eqb, length, get_or}
use Rattle.circuit.specs.declared.GateKind.{GateKind}
use Rattle.circuit.specs.declared.GateKind.TheVariants.{ConstFalse, ConstTrue, InputBit, Not, And, Nand, Or, Matriarch1, CarryHalfAdder, ResultHalfAdder, CarryFullAdder, ResultFullAdder, Quotient, Remainder}
use Rattle.circuit.specs.declared.Section.{Section}
use Rattle.circuit.specs.declared.Section.TheVariants.{Gates, ListBits, BadStates, Constraints, InputBits, Unknown}

-- ---- numbers of two, four and eight bytes, low byte first

abbrev pub half : List ℕ → ℕ → ℕ
half c at = get_or c at 0 + 256 * get_or c (at + 1) 0

abbrev pub word : List ℕ → ℕ → ℕ
word c at = half c at + 65536 * half c (at + 2)

-- ---- the parts of record n

-- how many records there are
abbrev pub records : List ℕ → ℕ
records c = length c / 16

-- byte 0: the kind's number
unfoldable pub kind_byte : List ℕ → ℕ → ℕ
kind_byte c n = get_or c (16 * n) 0

-- byte 1: index or value
unfoldable pub byte1 : List ℕ → ℕ → ℕ
byte1 c n = get_or c (16 * n + 1) 0

-- a, b, c: fields 0, 1, 2
unfoldable pub field : List ℕ → ℕ → ℕ → ℕ
field c n i = half c (16 * n + 2 + 2 * i)

unfoldable pub nid_at : List ℕ → ℕ → ℕ
nid_at c n = word c (16 * n + 8) + 4294967296 * word c (16 * n + 12)

-- ---- kinds

-- the first for true, the second for false
abbrev pub either {ℓ} : {A : Type ℓ} → Bool → A → A → A
either true a b = a
either false a b = b

-- "kind | gate", 0 to 13; any other number is read as ConstFalse
unfoldable pub kind_of : ℕ → GateKind
kind_of k =
    either (eqb k 1) ConstTrue
    (either (eqb k 2) InputBit
    (either (eqb k 3) Not
    (either (eqb k 4) And
    (either (eqb k 5) Nand
    (either (eqb k 6) Or
    (either (eqb k 7) Matriarch1
    (either (eqb k 8) CarryHalfAdder
    (either (eqb k 9) ResultHalfAdder
    (either (eqb k 10) CarryFullAdder
    (either (eqb k 11) ResultFullAdder
    (either (eqb k 12) Quotient
    (either (eqb k 13) Remainder ConstFalse))))))))))))

-- the gate that record n is
unfoldable pub kind_at : List ℕ → ℕ → GateKind
kind_at c n = kind_of (kind_byte c n)

-- Gates are 0 to 13. "Then come, in this order: kind 20 list bit, 21 bad state, 22 constraint, 23 input bit."
unfoldable pub section_of : ℕ → Section
section_of k =
    either (leb k 13) Gates
    (either (eqb k 20) ListBits
    (either (eqb k 21) BadStates
    (either (eqb k 22) Constraints
    (either (eqb k 23) InputBits Unknown))))

unfoldable pub section_at : List ℕ → ℕ → Section
section_at c n = section_of (kind_byte c n)

-- ---- the records of a kind

abbrev pub cons_if : Bool → ℕ → List ℕ → List ℕ
cons_if true x xs = x ∷ xs
cons_if false x xs = xs

-- those of the m numbers from n on that pass the test, in order
unfoldable pub those : (ℕ → Bool) → ℕ → ℕ → List ℕ
those p n zero = []
those p n (suc m) = cons_if (p n) n (those p (suc n) m)

-- record n is of a kind from low to high
abbrev pub is_kind : List ℕ → ℕ → ℕ → ℕ → Bool
is_kind c low high n = leb low (kind_byte c n) && leb (kind_byte c n) high

-- the records of the kinds from low to high, in file order
abbrev pub places_of : List ℕ → ℕ → ℕ → List ℕ
places_of c low high = those (is_kind c low high) 0 (records c)

-- record n is a bit of list (kind 20) or input (kind 23) number k
abbrev pub is_bit_of : List ℕ → ℕ → ℕ → ℕ → Bool
is_bit_of c kind k n = eqb (kind_byte c n) kind && eqb (field c n 0) k

-- the records of the bits of list or input number k, in file order: lowest first
abbrev pub bits_of : List ℕ → ℕ → ℕ → List ℕ
bits_of c kind k = those (is_bit_of c kind k) 0 (records c)

-- how many records are of the kinds from low to high, wherever they stand
abbrev pub count_of : List ℕ → ℕ → ℕ → ℕ
count_of c low high = length (places_of c low high)
