-- `cases_answer::put_given` meets its contract: the values that are given lie within the table.
use Rattle.std.proofs.Common.{arith, ap, length-take}
use Rattle.text.specs.Paste.{printed-as}
use Rattle.cases_answer.specs.Answer.{run_answer}
use Rattle.cases.proofs.Filled.{given_is}
use Rattle.cases_answer.proofs.put_given.Goals as goal

pub slice_bounds-put_ran-end : goal.slice_bounds-put_ran-end
slice_bounds-put_ran-end c = simp length-take (omega arith)

pub returns : goal.returns
returns c = record { printed = printed-as (ap (run_answer c.args.circuit.now c.args.form) (given_is _ _ _ _ c.min-n.ensures c.read_values.ensures)) c.put_ran.ensures.printed; upper_bound = c.put_ran.ensures.upper_bound }
