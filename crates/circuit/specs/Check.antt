-- The checks 1 to 7: "Build checks 1 to 9 run in number order, each over the whole input; the place is the first in file order; places count from 0."
-- Assumes nothing.
use Rattle.std.specs.Prelude.{ℕ, ◌+◌, ◌*◌, ◌%◌, Bool, true, false, not, ◌||◌, List, ltb, eqb, length, Err, None, Ok, Option, Result, Some}
use Rattle.circuit.specs.declared.Counts.{Counts}
use Rattle.circuit.specs.declared.Record.{Record}
use Rattle.circuit.specs.declared.Refusal.{Refusal}
use Rattle.circuit.specs.declared.Refusal.TheVariants.{Length, TooMany, Form, NotEarlier, Partner, NoBadState, Room}
use Rattle.circuit.specs.File.{records, count_of}
use Rattle.circuit.specs.Meaning.{numbers_to, how_many}
use Rattle.circuit.specs.Refusals.{place}
use Rattle.circuit.specs.Form.{first_broken}
use Rattle.circuit.specs.Earlier.{first_late}
use Rattle.circuit.specs.Partner.{first_wrong}

-- how many there are of each, wherever they stand
unfoldable pub counts_of : List ℕ → Counts
counts_of c =
    record {
      gates = count_of c 0 13;
      list_bits = count_of c 20 20;
      lists = how_many (numbers_to c 20 (records c));
      bad_states = count_of c 21 21;
      constraints = count_of c 22 22;
      input_bits = count_of c 23 23;
      inputs = how_many (numbers_to c 23 (records c));
    }

-- "2: over 1,000 gate records, or 4,096 of kind 20, 64 of 21, 256 of 22, 1,000 of 23"
abbrev pub too_many : Counts → Bool
too_many k =
    ltb 1000 k.gates || ltb 4096 k.list_bits || ltb 64 k.bad_states || ltb 256 k.constraints || ltb 1000 k.input_bits

-- "7: with G gates and B bad states, the tables hold fewer than G gates, 3G+B+1 qubits or 10G+3B pairs"
abbrev pub no_room : Counts → ℕ → ℕ → ℕ → Bool
no_room k gates qubits pairs =
    ltb gates k.gates || ltb qubits (3 * k.gates + k.bad_states + 1) || ltb pairs (10 * k.gates + 3 * k.bad_states)

-- refused, or what the later checks answer
abbrev pub refuse : Bool → Refusal → Result Counts Refusal → Result Counts Refusal
refuse true r next = Err r
refuse false r next = next

-- the same where the place is a record
abbrev pub refuse_at : Option ℕ → (Record → Refusal) → Result Counts Refusal → Result Counts Refusal
refuse_at (Some n) r next = Err (r (place n))
refuse_at None r next = next

-- 6 and 7: "there is no bad state", and no room
unfoldable pub roomed : Counts → ℕ → ℕ → ℕ → Result Counts Refusal
roomed k gates qubits pairs =
    refuse (eqb k.bad_states 0) NoBadState
    (refuse (no_room k gates qubits pairs) Room
    (Ok k))

-- 4 to 7
unfoldable pub named : List ℕ → ℕ → ℕ → ℕ → Result Counts Refusal
named c gates qubits pairs =
    refuse_at (first_late c) NotEarlier
    (refuse_at (first_wrong c) Partner
    (roomed (counts_of c) gates qubits pairs))

-- All seven, of any bytes and any lengths of the tables.
unfoldable pub checked : List ℕ → ℕ → ℕ → ℕ → Result Counts Refusal
checked c gates qubits pairs =
    refuse (not (eqb (length c % 16) 0)) Length
    (refuse (too_many (counts_of c)) TooMany
    (refuse_at (first_broken c) Form
    (named c gates qubits pairs)))
