-- `heads::fill_values`: the values so far stand at the front of the table, and the entries past them are as before.
use Rattle.std.proofs.Common.{drop, ◌++◌, ◌≡◌}
use Rattle.cases.specs.Values.{values_of}
use Rattle.cases.proofs.heads.fill_values.Given as goal

abbrev pub invariant-loop-i : goal.invariant-loop-i
invariant-loop-i l = l.inputs ≡ values_of l.s l.i ++ drop l.i l.initial.inputs
