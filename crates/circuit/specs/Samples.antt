-- Worked circuits, computed. Assumes nothing.
use Rattle.std.specs.Prelude.{◌≡◌, refl, true, ℕ, List, [], ◌∷◌, ◌++◌, replicate, Err, Ok}
use Rattle.energy.specs.Circuit.{InputBit, And, Quotient}
use Rattle.circuit.specs.File.{kind_byte, byte1, field, nid_at, kind_of, kind_at, those}
use Rattle.circuit.specs.declared.Refusal.TheVariants.{NoBadState, Length, Room, Form}
use Rattle.circuit.specs.File.{section_of, section_at}
use Rattle.circuit.specs.Search.{first_such, any_before}
use Rattle.circuit.specs.Refusals.{place}
use Rattle.circuit.specs.Form.{order_at, misplaced, used_fields, unused_set, times, bad_number, nid_before, breaks, first_broken}
use Rattle.circuit.specs.Earlier.{named_by, not_below, late, first_late}
use Rattle.circuit.specs.Partner.{listed_before, wrong, first_wrong}
use Rattle.circuit.specs.Check.{counts_of, roomed, named, checked}
use Rattle.circuit.specs.Meaning.{list_of, gate_at, numbers_to, first_numbers, circuit_of}

-- a record of 16 bytes whose numbers are below 256
abbrev pub row : ℕ → ℕ → ℕ → ℕ → ℕ → ℕ → List ℕ
row kind one a b c nid = kind ∷ one ∷ a ∷ 0 ∷ b ∷ 0 ∷ c ∷ 0 ∷ nid ∷ replicate 7 0

-- "Circuit P: gates 0, 1 InputBit, 2 And(0,1); bad state gate 2 nid 30; input 0 nid 20 with bits 0, 1."
unfoldable pub bytes_p : List ℕ
bytes_p =
    row 2 0 0 0 0 0 ++ row 2 0 0 0 0 0 ++ row 4 0 0 1 0 0 ++ row 21 0 2 0 0 30 ++ row 23 0 0 0 0 20 ++ row 23 0 0 1 0 20

pub circuit-P : circuit_of bytes_p ≡ record {
  gates = InputBit ∷ InputBit ∷ And 0 1 ∷ [];
  bads = record { gate = 2; nid = 30 } ∷ [];
  constraints = [];
  inputs = record { nid = 20; bits = 0 ∷ 1 ∷ [] } ∷ [];
}
unfolding bytes_p kind_byte byte1 field nid_at kind_of kind_at those list_of gate_at numbers_to first_numbers circuit_of
circuit-P = refl

-- "Quotient of InputBits 0 by 1 as bad state", with bits of two lists, and a constraint
bytes_q : List ℕ
bytes_q =
    row 2 0 0 0 0 0 ++ row 2 0 0 0 0 0 ++ row 12 5 0 1 0 0 ++ row 20 0 0 0 0 0 ++ row 20 0 1 1 0 0 ++ row 20 0 1 0 0 0 ++ row 21 0 2 0 0 7 ++ row 22 1 1 0 0 0

circuit-Q : circuit_of bytes_q ≡ record {
  gates = InputBit ∷ InputBit ∷ Quotient 5 (0 ∷ []) (1 ∷ 0 ∷ []) ∷ [];
  bads = record { gate = 2; nid = 7 } ∷ [];
  constraints = record { gate = 1; value = true } ∷ [];
  inputs = [];
}
unfolding bytes_q kind_byte byte1 field nid_at kind_of kind_at those list_of gate_at numbers_to first_numbers circuit_of
circuit-Q = refl

-- ---- the checks' answers

-- "Empty input answers 6."
empty-answers : checked [] 0 0 0 ≡ Err NoBadState
unfolding checked named roomed counts_of first_broken first_late first_wrong first_such those numbers_to
empty-answers = refl

-- "17 bytes: 1."
seventeen-answers : checked (replicate 17 0) 9 9 9 ≡ Err Length
unfolding checked
seventeen-answers = refl

-- P needs 3 gates, 3 * 3 + 1 + 1 qubits and 10 * 3 + 3 * 1 pairs
pub accepted-P : checked bytes_p 3 11 33 ≡ Ok (record { gates = 3; list_bits = 0; lists = 0; bad_states = 1; constraints = 0; input_bits = 2; inputs = 1 })
unfolding bytes_p kind_byte byte1 field nid_at section_of section_at those first_such any_before numbers_to list_of order_at misplaced used_fields unused_set times bad_number nid_before breaks first_broken named_by not_below late first_late listed_before wrong first_wrong counts_of roomed named checked
accepted-P = refl

one-pair-less : checked bytes_p 3 11 32 ≡ Err Room
unfolding bytes_p kind_byte byte1 field nid_at section_of section_at those first_such any_before numbers_to list_of order_at misplaced used_fields unused_set times bad_number nid_before breaks first_broken named_by not_below late first_late listed_before wrong first_wrong counts_of roomed named checked
one-pair-less = refl

-- an And that names itself, before an input bit of another nid: 3 comes before 4, each over the whole file
bytes_r : List ℕ
bytes_r = row 2 0 0 0 0 0 ++ row 4 0 0 1 0 0 ++ row 21 0 1 0 0 0 ++ row 23 0 0 0 0 5 ++ row 23 0 0 0 0 6

three-before-four : checked bytes_r 9 99 99 ≡ Err (Form (place 4))
unfolding bytes_r kind_byte byte1 field nid_at section_of section_at those first_such any_before numbers_to list_of order_at misplaced used_fields unused_set times bad_number nid_before breaks first_broken named_by not_below late first_late listed_before wrong first_wrong counts_of roomed named checked
three-before-four = refl
