-- The tables that the numbering fills, as one value, and how they begin. Assumes nothing: these are definitions.
use Rattle.std.specs.Prelude.{ℕ, ◌+◌, ◌*◌, length, replicate}
use Rattle.energy.specs.Circuit.{Circuit}
pub use Rattle.numbering_gate.specs.State.{State, mk, slot, qubit_of, origin, role, state_of, SameTables, same-start, same-then}

-- 01's length of a table by name: "3G+B+1 qubits"
abbrev pub names_of : Circuit → ℕ
names_of c = 3 * length c.gates + length c.bads + 1

-- "In the text and in the tables qubit 0 is the false constant and 1 the true one; the first new name is 2."
unfoldable pub start : Circuit → State
start c = mk (replicate (length c.gates) 0) (replicate (names_of c) 0) (replicate (names_of c) 0) 2
