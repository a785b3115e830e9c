-- What a numbered circuit holds, by the words of the definitions.
-- Assumes nothing: these are definitions.
use Rattle.energy.specs.Circuit.{Circuit}
use Rattle.circuit.specs.Meaning.{circuit_of}
use Rattle.numbering.specs.State.{State, mk}
use Rattle.model_rows.specs.Laid.{Good}
use Rattle.model_rows.specs.declared.Numbered.{Numbered}

-- what its bytes mean
abbrev pub circuit_in : Numbered → Circuit
circuit_in n = circuit_of n.circuit.now

-- its tables of names
abbrev pub state_in : Numbered → State
state_in n = mk n.qubits.now n.origins.now n.roles.now n.next.0

-- what the steps of the build ask of it
abbrev pub GoodIn : Numbered → Type 0
GoodIn n = Good n.circuit.now n.bads n.constraints (state_in n)
