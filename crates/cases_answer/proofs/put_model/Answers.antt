-- `cases_answer::put_model` meets its contract: by what `dump_fresh` and `print_refusal` ensure.
use Rattle.std.proofs.Common.{arith}
use Rattle.cases_answer.proofs.Model.{text-printed, refusal-printed}
use Rattle.text_left.specs.Dumped.{inside-text}
use Rattle.cases_answer.proofs.put_model.Goals as goal

pub returns-in-Err : goal.returns-in-Err
returns-in-Err c = record { printed = refusal-printed _ _ _ _ _ _ _ _ c.dump_fresh.ensures c.in-Err.is c.print_refusal.ensures.printed; upper_bound = omega (arith, c.print_refusal.ensures.upper_bound) }

pub returns-in-Ok : goal.returns-in-Ok
returns-in-Ok c = record { printed = text-printed _ _ _ _ _ _ c.dump_fresh.ensures c.in-Ok.is; upper_bound = omega (arith, inside-text _ _ _ _ _ _ _ c.dump_fresh.ensures c.in-Ok.is) }
