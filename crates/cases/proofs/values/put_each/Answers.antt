-- `values::put_each` meets its contract.
use Rattle.std.proofs.Common.{arith}
use Rattle.cases.specs.Lines.{value_text}
use Rattle.text.specs.Left.{left_as, left-print, left_end, lines-next, lines-end}
use Rattle.cases.proofs.values.put_each.Goals as goal

pub loop-value-preserved : goal.loop-value-preserved
loop-value-preserved c = (omega (arith, c.put_value-next.ensures.place), left-print (left_as (lines-next value_text _ _ 0 c.loop-value-test.true) c.loop-value.invariant.1) c.put_value-next.ensures)

pub returns-clause-printed : goal.returns-clause-printed
returns-clause-printed c = left_end (left_as (lines-end value_text _ _ c.loop-value-test.false) c.loop-value.invariant.1)
