-- `run_values::settle::list_value` meets its contract.
use Rattle.std.proofs.Common.{map, ◌≡◌, ◌+◌, ◌-◌, ◌≤◌}
use Rattle.run_rules.specs.Code.{name_in}
use Rattle.run_rules.specs.Layout.{named}
use Rattle.run_values.specs.Need.{number}
use Rattle.run_values.proofs.settle.list_value.Given as goal

abbrev pub invariant-loop-i : goal.invariant-loop-i
invariant-loop-i l = (l.fn.list.from ≤ l.i) × (l.i ≤ l.fn.list.from + l.fn.list.bits) × (l.sum ≡ number l.values (map (name_in l.on.qubits.now) (named l.on.circuit.now l.i (l.fn.list.from + l.fn.list.bits - l.i))))
