-- `cases_answer::put_run` meets its contract: the lines, and after a run that was made the values.
use Rattle.std.proofs.Common.{arith}
use Rattle.text.specs.Paste.{then, printed-as}
use Rattle.cases_answer.proofs.Ran.{with_values, without}
use Rattle.cases_answer.proofs.put_run.Goals as goal

pub returns-in-Ok : goal.returns-in-Ok
returns-in-Ok c = record { printed = printed-as (with_values _ _ _ _ c.in-Ok.is) (then c.print_run-end.ensures.printed c.put_values.ensures.printed); upper_bound = omega (arith, c.print_run-end.ensures.upper_bound, c.put_values.ensures.upper_bound, c.requires) }

pub returns-in-Err : goal.returns-in-Err
returns-in-Err c = record { printed = printed-as (without _ _ _ c.in-Err.is) c.print_run-end.ensures.printed; upper_bound = omega (arith, c.print_run-end.ensures.upper_bound) }
