-- `reading::skip` is safe and ends: each read that moves something leaves less.
use Rattle.std.proofs.Common.{length, ◌≡◌}
use Rattle.program_answers.proofs.reading.skip.Given as goal

abbrev pub invariant-loop-left : goal.invariant-loop-left
invariant-loop-left l = length l.buf ≡ length l.initial.buf

abbrev pub decreases-loop-left : goal.decreases-loop-left
decreases-loop-left l = l.left
