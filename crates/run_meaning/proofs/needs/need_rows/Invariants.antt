-- `run_meaning::needs::need_rows` meets its contract.
use Rattle.std.proofs.Common.{length, drop, ◌+◌, ◌-◌, ◌≤◌}
use Rattle.run_meaning.proofs.Rows.{rest}
use Rattle.run_meaning.specs.Layout.{Stacked}
use Rattle.run_meaning.proofs.Left.{Left}
use Rattle.run_meaning.specs.Ran.{marked, with_higher}
use Rattle.run_values.specs.Asking.{state_in}
use Rattle.run_meaning.proofs.needs.need_rows.Given as goal

abbrev pub invariant-loop-q : goal.invariant-loop-q
invariant-loop-q l = (l.k ≤ length l.keys) × Stacked l.on.names l.rows l.q (drop l.k l.keys) × Left l.on.circuit.now l.on.starts.now l.on.bads (state_in l.on) l.on.fixed.now l.initial.values (with_higher l.keys (marked 0 l.rows)) (rest l.rows l.q (drop l.k l.keys)) l.values

abbrev pub invariant-loop-k : goal.invariant-loop-k
invariant-loop-k l = (l.k ≤ length l.keys) × Stacked l.on.names l.rows l.q (drop l.k l.keys) × Left l.on.circuit.now l.on.starts.now l.on.bads (state_in l.on) l.on.fixed.now l.fn.values (with_higher l.keys (marked 0 l.rows)) (rest l.rows (l.q + 1) (drop l.k l.keys)) l.values

abbrev pub decreases-loop-k : goal.decreases-loop-k
decreases-loop-k l = length l.keys - l.k
