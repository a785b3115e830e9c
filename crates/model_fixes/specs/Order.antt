-- Which qubits a build fixes, and in which order.
-- Assumes nothing: these are definitions.
use Rattle.std.specs.Prelude.{true, cond, ◌∷◌, ℕ, ◌-◌, ltb, length, get_or}
use Rattle.energy.specs.Circuit.{Circuit}
use Rattle.energy.specs.Fixing.{Fixes}
use Rattle.energy.specs.Finished.{forced}
use Rattle.numbering.specs.State.{State, qubit_of}
use Rattle.numbering.specs.Numbered.{bad_gates}

-- "Bad-state qubits are joined by Or penalties: the first with the second, that result with the third, and so on": the last join's qubit, or that of a sole bad state
unfoldable pub joined_qubit : Circuit → State → ℕ
joined_qubit c s = cond (ltb 1 (length c.bads)) (s.next - 1) (qubit_of s (get_or (bad_gates c) 0 0))

-- "Fixing order: the joined qubit true, constraints in order, 1 true, 0 false."
unfoldable pub fixes_of : Circuit → State → Fixes
fixes_of c s = (joined_qubit c s, true) ∷ forced (qubit_of s) c.constraints
