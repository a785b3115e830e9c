-- `cases_answer::put_ran` meets its contract: by what `run_fresh` and `put_run` ensure.
use Rattle.std.proofs.Common.{ap, sym}
use Rattle.text.specs.Paste.{printed-as}
use Rattle.cases_answer.specs.Answer.{run_says, run_answer}
use Rattle.cases_answer.proofs.put_ran.Goals as goal

pub returns : goal.returns
unfolding run_answer
returns c = record { printed = printed-as (ap run_says (sym c.run_fresh-r.ensures)) c.put_run.ensures.printed; upper_bound = c.put_run.ensures.upper_bound }
