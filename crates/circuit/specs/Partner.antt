-- "5: a carry's adder is not of its kind; a named list, of any number, has no bits; an input bit's gate is not InputBit or was listed before."
-- Assumes nothing.
use Rattle.std.specs.Prelude.{ℕ, Bool, true, false, not, ◌&&◌, ◌||◌, List, [], ◌∷◌, eqb, Option}
use Rattle.circuit.specs.File.{records, kind_byte, field}
use Rattle.circuit.specs.Search.{first_such, any_before}
use Rattle.circuit.specs.Meaning.{list_of}

abbrev pub is_empty : List ℕ → Bool
is_empty [] = true
is_empty (x ∷ xs) = false

-- a carry's adder is not of its kind: 8 CarryHalfAdder and 9 ResultHalfAdder, 10 CarryFullAdder and 11 ResultFullAdder
abbrev pub wrong_adder : List ℕ → ℕ → Bool
wrong_adder c n =
    eqb (kind_byte c n) 8 && not (eqb (kind_byte c (field c n 0)) 9) || eqb (kind_byte c n) 10 && not (eqb (kind_byte c (field c n 0)) 11)

-- a list that a division names has no bits
abbrev pub empty_list : List ℕ → ℕ → Bool
empty_list c n =
    (eqb (kind_byte c n) 12 || eqb (kind_byte c n) 13) && (is_empty (list_of c (field c n 0)) || is_empty (list_of c (field c n 1)))

-- gate g was listed by an input bit before record n
unfoldable pub listed_before : List ℕ → ℕ → ℕ → Bool
listed_before c g n = any_before (λ (m : ℕ). eqb (kind_byte c m) 23 && eqb (field c m 1) g) n

-- an input bit's gate is not InputBit (kind 2), or was listed before
abbrev pub wrong_input : List ℕ → ℕ → Bool
wrong_input c n =
    eqb (kind_byte c n) 23 && (not (eqb (kind_byte c (field c n 1)) 2) || listed_before c (field c n 1) n)

unfoldable pub wrong : List ℕ → ℕ → Bool
wrong c n = wrong_adder c n || empty_list c n || wrong_input c n

-- the first such record
unfoldable pub first_wrong : List ℕ → Option ℕ
first_wrong c = first_such (wrong c) 0 (records c)
