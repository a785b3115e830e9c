-- The measures of the cycle of calls {follow, need}, and the invariant of `follow`'s loop. `need` at q calls `follow` at q, which calls `need` at the
-- operands, which are less deep: the measures are 2d + 1 and 2d, for the depth d of the originating gate or join step.
-- Assumes nothing.
use Rattle.std.proofs.Common.{◌+◌, ◌*◌}
use Rattle.circuit.specs.Meaning.{circuit_of}
use Rattle.run_rules.specs.Rules.{depth}
use Rattle.run_values.specs.Asking.{state_in}
use Rattle.run_need.proofs.Cycle.{Going}
use Rattle.run_need.proofs.+follow_need.Given as goal

abbrev pub decreases-follow : goal.decreases-follow
decreases-follow l = 2 * depth (circuit_of l.on.now.circuit.now) (state_in l.on.now) l.q.0

abbrev pub decreases-need : goal.decreases-need
decreases-need l = 2 * depth (circuit_of l.on.now.circuit.now) (state_in l.on.now) l.q.0 + 1

-- the operands before i are found
abbrev pub invariant-follow-loop-i : goal.invariant-follow-loop-i
invariant-follow-loop-i l = Going l.on.circuit.now l.on.starts.now l.on.bads (state_in l.on) l.on.fixed.now l.initial.values l.q.0 l.i l.values
