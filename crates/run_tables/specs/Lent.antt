-- What a run starts from, as it is lent.
-- Assumes nothing: these are definitions.
use Rattle.std.specs.Prelude.{List, ◌++◌, ℕ, ◌≤◌, length, take}
use Rattle.energy.specs.Model.{Model}
use Rattle.circuit.specs.Meaning.{circuit_of}
use Rattle.store.specs.Tables.{tables, model_of}
use Rattle.run_rules.specs.declared.NumberedCircuit.{NumberedCircuit}
use Rattle.run_values.specs.Asking.{state_in}
use Rattle.run_meaning.specs.Ran.{Built, built_of, marked, with_higher, bad_qubits}
use Rattle.run_meaning.specs.Layout.{RunReady, Flags, Stacked}
use Rattle.run_tables.specs.declared.FinishedModel.{FinishedModel}

abbrev pub built_by : NumberedCircuit → FinishedModel → Built
built_by u m =
    built_of u.circuit.now (state_in u) m.form (tables m.totals.offset m.linear.now m.flags.now m.rows.now u.fixed.now m.keys.now m.weights.now m.totals.count)

-- the pairs' keys, and the model at tables of flags, rows and fixed values
abbrev pub keys_in : FinishedModel → List ℕ
keys_in m = take m.totals.count m.keys.now

abbrev pub model_in : FinishedModel → List ℕ → List ℕ → List ℕ → Model
model_in m h rs f = model_of (tables m.totals.offset m.linear.now h rs f m.keys.now m.weights.now m.totals.count)

-- all that is needed, in order
abbrev pub needed_in : NumberedCircuit → FinishedModel → List ℕ
needed_in u m =
    marked 0 m.flags.now ++ (with_higher (keys_in m) (marked 0 m.rows.now) ++ bad_qubits (circuit_of u.circuit.now) (state_in u))

-- what finding values asks of the model, and what a run asks of both
abbrev pub ModelFits : NumberedCircuit → FinishedModel → Type 0
ModelFits u m =
    Flags u.names m.flags.now × Flags u.names m.rows.now × Stacked u.names m.rows.now 0 (keys_in m) × (m.totals.count ≤ length m.keys.now)

abbrev pub ReadyIn : NumberedCircuit → FinishedModel → List ℕ → ℕ → ℕ → Type 0
ReadyIn u m input_starts total count =
    RunReady u.circuit.now u.starts.now input_starts u.bads total count (state_in u) m.linear.now m.flags.now m.rows.now u.fixed.now m.keys.now
    m.weights.now
    m.totals
