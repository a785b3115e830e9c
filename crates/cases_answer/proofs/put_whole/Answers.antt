-- `cases_answer::put_whole` meets its contract: the answer goes behind the line.
use Rattle.std.proofs.Common.{arith, ◌+◌, ◌≤◌, max, length, Fits, w64}
use Rattle.cases_answer.proofs.Part.{out-length, both-fit, both-printed}
use Rattle.cases_answer.proofs.put_whole.Goals as goal
use Rattle.cases_answer.proofs.put_whole.Goals.{After-slice_known-3-1}

-- how long both are
whole : (c : After-slice_known-3-1) → c.put_case-line.result + c.put_answer-n.result ≤ max 7837 (length c.put_case-line.new.buf)
whole c = both-fit _ _ _ _ _ _ _ _ _ c.put_case-line.ensures.printed c.min-from.ensures c.put_answer-n.ensures.printed c.put_case-line.ensures.upper_bound c.put_answer-n.ensures.upper_bound

fits : (c : After-slice_known-3-1) → Fits w64 (c.put_case-line.result + c.put_answer-n.result)
fits c = record { fits = omega (arith, whole c) }

pub overflow_add-result : goal.overflow_add-result
overflow_add-result c = fits c

pub returns : goal.returns
returns c = record { printed = both-printed _ _ _ _ _ _ _ _ _ c.put_case-line.ensures.printed c.min-from.ensures c.put_answer-n.ensures.printed; upper_bound = rw (out-length _ _ _ _ _ _ _ _ _ c.put_case-line.ensures.printed c.min-from.ensures c.put_answer-n.ensures.printed) (whole c) }
