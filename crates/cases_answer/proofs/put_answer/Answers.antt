-- `cases_answer::put_answer` meets its contract: by the length of the circuit and the job, on the circuit and the values that stand behind the head.
use Rattle.std.proofs.Common.{arith}
use Rattle.text.specs.Paste.{printed-as}
use Rattle.cases_answer.proofs.Behind.{too_long, model-behind, run-behind}
use Rattle.cases_answer.proofs.put_answer.Goals as goal

pub returns-then-length-gt-LIMIT : goal.returns-then-length-gt-LIMIT
returns-then-length-gt-LIMIT c = record { printed = printed-as (too_long _ _ _ c.if-length-gt-LIMIT.true) c.print_refusal.ensures.printed; upper_bound = omega (arith, c.print_refusal.ensures.upper_bound) }

pub returns-in-Model : goal.returns-in-Model
returns-in-Model c = record {
  printed = printed-as (model-behind _ _ _ c.if-length-gt-LIMIT.false c.min.ensures c.split_at.ensures.front c.in-Model.is) c.put_model.ensures.printed;
  upper_bound = omega (arith, c.put_model.ensures.upper_bound);
}

pub returns-in-Run : goal.returns-in-Run
returns-in-Run c = record {
  printed =
      printed-as (run-behind _ _ _ c.if-length-gt-LIMIT.false c.min.ensures c.split_at.ensures.front _ c.split_at.ensures.back c.in-Run.is) c.put_given.ensures.printed;
  upper_bound = omega (arith, c.put_given.ensures.upper_bound);
}
