-- "4: a gate names an operand or adder not earlier than itself, or a division's list holds such a gate (place: the division); or kinds 20 to 23 name no gate."
-- Gates come first (check 3), so record n is gate n.
-- Assumes nothing.
use Rattle.std.specs.Prelude.{ℕ, Bool, false, ◌&&◌, ◌||◌, List, [], ◌∷◌, ◌++◌, leb, eqb, take, Option}
use Rattle.circuit.specs.File.{records, kind_byte, field, either, count_of}
use Rattle.circuit.specs.Search.{first_such}
use Rattle.circuit.specs.Meaning.{list_of}
use Rattle.circuit.specs.Form.{used_fields}

-- the gates that gate n names: those of its two lists, or its operands or its adder
unfoldable pub named_by : List ℕ → ℕ → List ℕ
named_by c n =
    either (leb 12 (kind_byte c n))
    (list_of c (field c n 0) ++ list_of c (field c n 1))
    (take (used_fields (kind_byte c n)) (field c n 0 ∷ field c n 1 ∷ field c n 2 ∷ []))

-- one of them is not below n
unfoldable pub not_below : ℕ → List ℕ → Bool
not_below n [] = false
not_below n (g ∷ gs) = leb n g || not_below n gs

-- a list bit or an input bit names no gate, in b
abbrev pub no_gate_in_b : List ℕ → ℕ → Bool
no_gate_in_b c n = (eqb (kind_byte c n) 20 || eqb (kind_byte c n) 23) && leb (count_of c 0 13) (field c n 1)

-- a bad state or a constraint names no gate, in a
abbrev pub no_gate_in_a : List ℕ → ℕ → Bool
no_gate_in_a c n = (eqb (kind_byte c n) 21 || eqb (kind_byte c n) 22) && leb (count_of c 0 13) (field c n 0)

unfoldable pub late : List ℕ → ℕ → Bool
late c n = leb (kind_byte c n) 13 && not_below n (named_by c n) || no_gate_in_b c n || no_gate_in_a c n

-- the first such record
unfoldable pub first_late : List ℕ → Option ℕ
first_late c = first_such (late c) 0 (records c)
