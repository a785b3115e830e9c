-- `decimal::number` meets its contract: each number that it grows is small.
use Rattle.std.proofs.Common.{◌<◌}
use Rattle.test_circuit.proofs.decimal.number.Given as goal

abbrev pub invariant-loop-i : goal.invariant-loop-i
invariant-loop-i l = l.value < 1000000
