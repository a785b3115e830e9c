-- `circuit_lists::list_starts` meets its contract: the list bits end after the gates and themselves.
use Rattle.std.proofs.Common.{◌+◌, ap₂}
use Rattle.circuit.specs.Starts.{ends-lists}
use Rattle.circuit_lists.proofs.list_starts.Goals as goal

pub starts_of-requires : goal.starts_of-requires
starts_of-requires c = ends-lists _ c.requires.0 (ap₂ ◌+◌ c.requires.1 c.requires.2)
