-- `circuit_lists::input_starts` meets its contract: the input bits end with the file.
use Rattle.circuit.specs.Starts.{ends-inputs}
use Rattle.circuit_lists.proofs.input_starts.Goals as goal

pub starts_of-requires : goal.starts_of-requires
starts_of-requires c = ends-inputs _ c.requires
