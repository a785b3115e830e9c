-- `bench_check::repeat` is safe: it counts at most one for each round.
use Rattle.std.proofs.Common.{◌≤◌}
use Rattle.bench_check.proofs.repeat.Given as goal

abbrev pub invariant-loop-gates : goal.invariant-loop-gates
invariant-loop-gates l = l.count ≤ l.gates
