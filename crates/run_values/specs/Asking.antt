-- What the value of a qubit asks: the file and the names as `Layout` has them, and the entries of the tables.
-- Assumes nothing: these are definitions.
use Rattle.std.specs.Prelude.{List, ℕ, ◌≤◌, ◌<◌, length}
use Rattle.circuit.specs.Meaning.{circuit_of}
use Rattle.numbering.specs.State.{State, mk}
use Rattle.run_rules.specs.Layout.{Laid, Formed}
use Rattle.run_rules.specs.declared.NumberedCircuit.{NumberedCircuit}
use Rattle.run_values.specs.Need.{Got, Net, follow, need_of}

pub record Ready (b starts : List ℕ) (bad_from : ℕ) (s : State) (fixed : List ℕ) : Type 0 where
  pub laid : Laid b starts bad_from
  pub formed : Formed (circuit_of b) s
  pub fixed-there : s.next ≤ length fixed

abbrev pub net : List ℕ → State → List ℕ → Net
net b s fixed = record { circuit = circuit_of b; state = s; fixed = fixed }

-- the same, of what a run lends
abbrev pub state_in : NumberedCircuit → State
state_in u = mk u.qubits.now u.origins.now u.roles.now u.names

abbrev pub net_in : NumberedCircuit → Net
net_in u = net u.circuit.now (state_in u) u.fixed.now

-- the value of q by its rule, whose operands are needed
unfoldable pub follow_of : Net → ℕ → List ℕ → Got
follow_of u q t = follow u (need_of u) q t

-- a name's table entries are there
pub record Asked (b starts : List ℕ) (bad_from : ℕ) (s : State) (fixed t : List ℕ) (q : ℕ) : Type 0 where
  pub ready : Ready b starts bad_from s fixed
  pub values : s.next ≤ length t
  pub name : q < s.next

-- names are asked for, in any order
pub record NeedsAsked (b starts : List ℕ) (bad_from : ℕ) (s : State) (fixed t : List ℕ) : Type 0 where
  pub ready : Ready b starts bad_from s fixed
  pub values : s.next ≤ length t

-- the same of a numbered circuit
abbrev pub AskedIn : NumberedCircuit → List ℕ → ℕ → Type 0
AskedIn u values q = Asked u.circuit.now u.starts.now u.bads (state_in u) u.fixed.now values q

abbrev pub NeedsIn : NumberedCircuit → List ℕ → Type 0
NeedsIn u values = NeedsAsked u.circuit.now u.starts.now u.bads (state_in u) u.fixed.now values
