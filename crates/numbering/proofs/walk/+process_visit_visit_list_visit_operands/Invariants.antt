-- The measures of the cycle of calls {process, visit, visit_list, visit_operands}, and its loops' invariants.
-- `visit` at g calls `process` at g, which calls a loop at g, which calls `visit` at gates below g: the measures 3g + 2, 3g + 1 and 3g.
-- Assumes nothing.
use Rattle.std.proofs.Common.{◌-◌, ◌+◌, ◌*◌}
use Rattle.circuit.specs.Meaning.{list_of}
use Rattle.numbering.specs.State.{state_of, SameTables}
use Rattle.numbering.specs.Read.{fields_from, gates_from}
use Rattle.numbering.proofs.Cycle.{Going}
use Rattle.numbering.proofs.walk.+process_visit_visit_list_visit_operands.Given as goal

abbrev pub decreases-process : goal.decreases-process
decreases-process l = 3 * l.g.0 + 1

abbrev pub decreases-visit : goal.decreases-visit
decreases-visit l = 3 * l.g.0 + 2

abbrev pub decreases-visit_list : goal.decreases-visit_list
decreases-visit_list l = 3 * l.at

abbrev pub decreases-visit_operands : goal.decreases-visit_operands
decreases-visit_operands l = 3 * l.at

-- visit_list: its gates are those that the records from n to the end name
abbrev pub invariant-visit_list-loop-n : goal.invariant-visit_list-loop-n
invariant-visit_list-loop-n l =
    Going l.circuit l.starts l.at (list_of l.circuit l.k) (state_of l.initial.naming)
    (gates_from l.circuit 1 l.n (l.n-end - l.n)) (state_of l.naming) × SameTables l.initial.naming l.naming

-- visit_operands: its gates are the fields from i on
abbrev pub invariant-visit_operands-loop-i : goal.invariant-visit_operands-loop-i
invariant-visit_operands-loop-i l =
    Going l.circuit l.starts l.at (fields_from l.circuit l.at 0 l.n) (state_of l.initial.naming)
    (fields_from l.circuit l.at l.i (l.n - l.i)) (state_of l.naming) × SameTables l.initial.naming l.naming
