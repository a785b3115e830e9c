-- The nine lent tables, and what stands in them after a build, within the lengths of 7.
-- Assumes nothing: these are definitions.
use Rattle.std.specs.Prelude.{Result, Ok, Err, List, ◌++◌, map, ℕ, ◌-◌, ℤ, pos, length, replicate}
use Rattle.units.specs.Name.{gate, qubit}
use Rattle.energy.specs.Circuit.{Circuit}
use Rattle.energy.specs.Model.{Entry, Model, variables}
use Rattle.numbering.specs.State.{State, names_of}
use Rattle.model_place.specs.Blank.{pairs_of}
use Rattle.model_finish.specs.declared.Counted.{Counted}
use Rattle.qubot_fill.specs.declared.Filled.{Filled}
use Rattle.circuit.specs.declared.Refusal.{Refusal}
use Rattle.circuit.specs.declared.Refusal.TheVariants.{HasQubit, FixedTwice}
use Rattle.qubot_fill.specs.Made.{Made, already, clashes, model}

-- The nine lent tables.
pub record Tables : Type 0 where
  -- by gate: 0 where it has no qubit, else the qubit's name + 1
  pub qubits : List ℕ
  -- by qubit: the gate or join step that took the name, and as what
  pub origins : List ℕ
  pub roles : List ℕ
  -- by qubit: the linear coefficient in halves, whether there is an entry, whether there is a row, and the fixed value
  pub linear : List ℤ
  pub has_linear : List ℕ
  pub has_row : List ℕ
  pub fixed : List ℕ
  -- by pair: its key and its weight in halves
  pub keys : List ℕ
  pub weights : List ℤ

abbrev pub lent : List ℕ → List ℕ → List ℕ → List ℤ → List ℕ → List ℕ → List ℕ → List ℕ → List ℤ → Tables
lent q o r l h w f k v =
    record { qubits = q; origins = o; roles = r; linear = l; has_linear = h; has_row = w; fixed = f; keys = k; weights = v }

-- tables that are all 0: "8 and 9 zero the lengths named in 7"
abbrev pub zeroed : Circuit → Tables
zeroed c =
    lent (replicate (length c.gates) 0) (replicate (names_of c) 0) (replicate (names_of c) 0) (replicate (names_of c) (pos 0)) (replicate (names_of c) 0)
    (replicate (names_of c) 0)
    (replicate (names_of c) 0)
    (replicate (pairs_of c) 0)
    (replicate (pairs_of c) (pos 0))

-- a table's first entries, and 0 up to n: "unused entries within the lengths of 7 are 0"
abbrev pub padded : {A : Type 0} → A → ℕ → List A → List A
padded z n xs = xs ++ replicate (n - length xs) z

-- the names and the finished model
abbrev pub filled : Circuit → State → Model → Tables
filled c s m =
    lent s.qubits s.origins s.roles m.linear m.has_linear m.has_row m.fixed
    (padded 0 (pairs_of c) (map (λ (e : Entry). e.0) m.pairs))
    (padded (pos 0) (pairs_of c) (map (λ (e : Entry). e.1) m.pairs))

-- ---- what the steps answer

-- of a finished model: its offset, its pair count and its variable count
abbrev pub counts : Model → Counted
counts m = record { totals = record { offset = m.offset; count = length m.pairs }; variables = variables m }

-- the tables and the answer
abbrev pub filled_by : Circuit → Made → Tables × Result Filled Refusal
filled_by c (already g) = (zeroed c, Err (HasQubit (gate g)))
filled_by c (clashes q) = (zeroed c, Err (FixedTwice (qubit q)))
filled_by c (model s m) = (filled c s m, Ok (record { next = qubit s.next; counted = counts m }))

-- where there is no model, the tables are still to be zeroed
abbrev pub or_zeroed : Circuit → Tables → Result Filled Refusal → Tables × Result Filled Refusal
or_zeroed c t (Err e) = (zeroed c, Err e)
or_zeroed c t (Ok x) = (t, Ok x)
