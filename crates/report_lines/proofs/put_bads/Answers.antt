-- `report_lines::put_bads` meets its contract.
use Rattle.std.proofs.Common.{arith}
use Rattle.text.specs.Left.{left_as, left-print, left_end, lines-next, lines-end}
use Rattle.report_lines.specs.Report.{bad_line}
use Rattle.report_lines.proofs.put_bads.Goals as goal

pub loop-nid-preserved : goal.loop-nid-preserved
loop-nid-preserved c = (omega (arith, c.put_bad-next.ensures.upper_bound), left-print (left_as (lines-next bad_line _ _ 0 c.loop-nid-test.true) c.loop-nid.invariant.1) c.put_bad-next.ensures.printed)

pub returns-clause-printed : goal.returns-clause-printed
returns-clause-printed c = left_end (left_as (lines-end bad_line _ _ c.loop-nid-test.false) c.loop-nid.invariant.1)
