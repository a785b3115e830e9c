-- What a build does, from the bytes of a circuit to the lent tables and the answer: 01's checks, refusals, tables and unused entries.
-- Assumes nothing: these are definitions.
use Rattle.std.specs.Prelude.{◌≡◌, List, ◌++◌, ℕ, min, length, drop, Err, Ok, Result}
use Rattle.std.proofs.Common.{sym, ◌∙◌}
use Rattle.units.specs.declared.Form.{Form}
use Rattle.units.specs.Name.{gate, qubit}
use Rattle.energy.specs.Circuit.{Circuit}
use Rattle.energy.specs.Model.{Model, variables}
use Rattle.circuit.specs.declared.Refusal.TheVariants.{HasQubit, FixedTwice}
use Rattle.circuit.specs.Check.{checked}
use Rattle.circuit.specs.Meaning.{circuit_of}
use Rattle.numbering.specs.State.{State}
use Rattle.qubot_left.specs.declared.Finished.{Finished}
use Rattle.qubot_left.specs.Made.{Made, already, clashes, model, make}
use Rattle.circuit.specs.declared.Counts.{Counts}
use Rattle.circuit.specs.declared.Refusal.{Refusal}
-- the nine lent tables, all 0, and with the names and the finished model in them
pub use Rattle.qubot_fill.specs.Tables.{Tables, lent, zeroed, padded, filled}

-- ---- "the tables hold": so many gates, qubits and pairs

abbrev pub gates_in : Tables → ℕ
gates_in t = length t.qubits

-- the least of the six tables by qubit
abbrev pub names_in : Tables → ℕ
names_in t =
    min (min (min (length t.origins) (length t.roles)) (min (length t.linear) (length t.has_linear)))
    (min (length t.has_row) (length t.fixed))

abbrev pub pairs_in : Tables → ℕ
pairs_in t = min (length t.keys) (length t.weights)

-- ---- what stands in them afterwards, within the lengths of 7

-- "entries past them stay"
abbrev pub onto : {A : Type 0} → List A → List A → List A
onto xs t = xs ++ drop (length xs) t

abbrev pub within : Tables → Tables → Tables
within u t =
    lent (onto u.qubits t.qubits) (onto u.origins t.origins) (onto u.roles t.roles) (onto u.linear t.linear)
    (onto u.has_linear t.has_linear)
    (onto u.has_row t.has_row)
    (onto u.fixed t.fixed)
    (onto u.keys t.keys)
    (onto u.weights t.weights)

-- ---- the answer

-- of a finished model: its form, how many names there are, how many pairs, the offset in halves, the variable count, and how many bad states and inputs the circuit has
abbrev pub answer : Form → Circuit → State → Model → Finished
answer form c s m =
    record {
      form = form;
      names = s.next;
      pairs = length m.pairs;
      offset = m.offset;
      variables = variables m;
      bads = length c.bads;
      inputs = length c.inputs;
    }

-- the tables within the lengths of 7, and the answer
abbrev pub finished_by : Form → Circuit → Made → Tables × Result Finished Refusal
finished_by form c (already g) = (zeroed c, Err (HasQubit (gate g)))
finished_by form c (clashes q) = (zeroed c, Err (FixedTwice (qubit q)))
finished_by form c (model s m) = (filled c s m, Ok (answer form c s m))

abbrev pub in_tables : {A : Type 0} → Tables → Tables × A → Tables × A
in_tables t r = (within r.0 t, r.1)

-- "1 to 7 change no table."
abbrev pub checked_by : List ℕ → Form → Tables → Result Counts Refusal → Tables × Result Finished Refusal
checked_by b form t (Err r) = (t, Err r)
checked_by b form t (Ok k) = in_tables t (finished_by form (circuit_of b) (make form (circuit_of b)))

-- A build: the tables afterwards and the answer, for all bytes, both forms and all tables.
unfoldable pub built : List ℕ → Form → Tables → Tables × Result Finished Refusal
built b form t = checked_by b form t (checked b (gates_in t) (names_in t) (pairs_in t))

-- Two answers that the promise allows are equal, and so are the tables.
pub determined : (b : List ℕ) (form : Form) (t : Tables) (x y : Tables × Result Finished Refusal) → x ≡ built b form t → y ≡ built b form t → x ≡ y
determined b form t x y e f = e ∙ sym f
