-- `numbering_roots::visit_roots` meets its contract: the roots that are left, from the tables as they are, are all the roots from the tables as they were.
use Rattle.std.proofs.Common.{◌-◌}
use Rattle.numbering.specs.State.{state_of, SameTables}
use Rattle.numbering.specs.Read.{gates_from}
use Rattle.numbering_roots.proofs.Rooting.{Rooting}
use Rattle.numbering_roots.proofs.visit_roots.Given as goal

abbrev pub invariant-loop-n : goal.invariant-loop-n
invariant-loop-n l =
    Rooting l.circuit l.starts (gates_from l.circuit 0 l.from (l.to - l.from)) (state_of l.initial.naming)
    (gates_from l.circuit 0 l.n (l.to - l.n)) (state_of l.naming)
    × SameTables l.initial.naming l.naming
