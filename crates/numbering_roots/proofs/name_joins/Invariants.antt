-- `numbering_roots::name_joins` meets its contract: the steps that are left, from the tables as they are, are all the steps from the tables as they were.
use Rattle.numbering.specs.State.{state_of, SameTables}
use Rattle.numbering_roots.proofs.Rooting.{Joining}
use Rattle.numbering_roots.proofs.name_joins.Given as goal

abbrev pub invariant-loop-j : goal.invariant-loop-j
invariant-loop-j l = Joining (state_of l.initial.naming) l.steps (state_of l.naming) l.j × SameTables l.initial.naming l.naming
