-- "3: a record breaks the form above (unknown kind, order, unused field not 0, numbering, value, nid)."
-- Each part is a test of record n and of the records before it.
-- Assumes nothing.
use Rattle.std.specs.Prelude.{ℕ, suc, Bool, not, ◌&&◌, ◌||◌, List, [], ◌∷◌, leb, ltb, eqb, get_or, Option}
use Rattle.circuit.specs.declared.Section.{Section}
use Rattle.circuit.specs.declared.Section.TheVariants.{Gates, ListBits, BadStates, Constraints, InputBits, Unknown}
use Rattle.circuit.specs.File.{records, kind_byte, byte1, field, nid_at, section_at, either, is_bit_of}
use Rattle.circuit.specs.Search.{first_such, any_before}
use Rattle.circuit.specs.Meaning.{numbers_to}

-- ---- unknown kind, and order

-- a section's place in the order; one past the last is the unknown kinds'
abbrev pub order_of : Section → ℕ
order_of Gates = 0
order_of ListBits = 1
order_of BadStates = 2
order_of Constraints = 3
order_of InputBits = 4
order_of Unknown = 5

unfoldable pub order_at : List ℕ → ℕ → ℕ
order_at c n = order_of (section_at c n)

-- Of two records out of order the later breaks the form: one of a later section stands before it.
unfoldable pub misplaced : List ℕ → ℕ → Bool
misplaced c n = any_before (λ (m : ℕ). ltb (order_at c n) (order_at c m)) n

-- ---- "Unused fields are 0."

-- how many of a, b, c each kind uses, from a on: 01's two lists of kinds, 0 to 13 and 20 to 23
abbrev pub used : List ℕ
used =
    0 ∷ 0 ∷ 0 ∷ 1 ∷ 2 ∷ 2 ∷ 2 ∷ 2 ∷ 1 ∷ 2 ∷ 1 ∷ 3 ∷ 2 ∷ 2 ∷ 0 ∷ 0 ∷ 0 ∷ 0 ∷ 0 ∷ 0 ∷ 2 ∷ 1 ∷ 1 ∷ 2 ∷ []

unfoldable pub used_fields : ℕ → ℕ
used_fields k = get_or used k 0

-- byte 1 is the index of a quotient or a remainder, or the value of a constraint
abbrev pub uses_byte1 : ℕ → Bool
uses_byte1 k = eqb k 12 || eqb k 13 || eqb k 22

-- bad states and input bits have a nid
abbrev pub uses_nid : ℕ → Bool
uses_nid k = eqb k 21 || eqb k 23

-- field i is unused and not 0
abbrev pub stray : List ℕ → ℕ → ℕ → Bool
stray c n i = leb (used_fields (kind_byte c n)) i && not (eqb (field c n i) 0)

unfoldable pub unused_set : List ℕ → ℕ → Bool
unused_set c n =
    not (uses_byte1 (kind_byte c n)) && not (eqb (byte1 c n) 0) || stray c n 0 || stray c n 1 || stray c n 2 || not (uses_nid (kind_byte c n)) && not (eqb (nid_at c n) 0)

-- ---- "List numbers, and input numbers, begin at 0 and either stay or rise by one; at most 63. Each list or input has 1 to 64 bits."

-- the numbers so far, the last first, and the next one
abbrev pub follows : List ℕ → ℕ → Bool
follows [] k = eqb k 0
follows (j ∷ js) k = eqb k j || eqb k (suc j)

-- how often k stands in a list
unfoldable pub times : ℕ → List ℕ → ℕ
times k [] = 0
times k (j ∷ js) = either (eqb j k) (suc (times k js)) (times k js)

unfoldable pub bad_number : List ℕ → ℕ → Bool
bad_number js k = not (follows js k) || ltb 63 k || leb 64 (times k js)

abbrev pub misnumbered_as : ℕ → List ℕ → ℕ → Bool
misnumbered_as kind c n = eqb (kind_byte c n) kind && bad_number (numbers_to c kind n) (field c n 0)

-- ---- "byte 1 value 0 or 1"; "nid, the same for all bits of one input"

abbrev pub bad_value : List ℕ → ℕ → Bool
bad_value c n = eqb (kind_byte c n) 22 && ltb 1 (byte1 c n)

-- an earlier bit of input k has another nid than x
unfoldable pub nid_before : List ℕ → ℕ → ℕ → ℕ → Bool
nid_before c k x n = any_before (λ (m : ℕ). is_bit_of c 23 k m && not (eqb (nid_at c m) x)) n

abbrev pub other_nid : List ℕ → ℕ → Bool
other_nid c n = eqb (kind_byte c n) 23 && nid_before c (field c n 0) (nid_at c n) n

-- ---- all of it

unfoldable pub breaks : List ℕ → ℕ → Bool
breaks c n =
    eqb (order_at c n) 5 || misplaced c n || unused_set c n || misnumbered_as 20 c n || misnumbered_as 23 c n || bad_value c n || other_nid c n

-- the first record that breaks the form
unfoldable pub first_broken : List ℕ → Option ℕ
first_broken c = first_such (breaks c) 0 (records c)
