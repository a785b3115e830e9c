-- "Unreached gates get nothing": which gates are reached from a bad state or a constraint. `proofs/Reached.antt` has it that these have a qubit, and no others.
-- Assumes nothing: these are definitions.
use Rattle.std.specs.Prelude.{ℕ, List, ◌++◌, get_or}
use Rattle.energy.specs.Circuit.{Circuit, Gate, ConstFalse, nodes_of}
use Rattle.energy.specs.Numbering.{In, reads}
use Rattle.numbering.specs.Visit.{operands}
use Rattle.numbering.specs.Numbered.{roots}

-- what a gate visits
abbrev pub visited : List Gate → ℕ → List ℕ
visited gs g = operands (get_or gs g ConstFalse) ++ reads (nodes_of gs g)

-- from the bad states and the constraints, through what the gates visit
pub data Reached : Circuit → ℕ → Type 0 where
  root : {c : Circuit} {g : ℕ} → In g (roots c) → Reached c g
  from : {c : Circuit} (g : ℕ) {x : ℕ} → Reached c g → In x (visited c.gates g) → Reached c x
