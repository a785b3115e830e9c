-- `report_lines::put_bads`: what is left to print are the nids from the loop's index on, and each line so far had at most 25 bytes.
use Rattle.std.proofs.Common.{◌+◌, ◌*◌, ◌≤◌, drop}
use Rattle.text.specs.Left.{Left}
use Rattle.text.specs.Text.{lines}
use Rattle.report_lines.specs.Report.{bad_line}
use Rattle.report_lines.proofs.put_bads.Given as goal

abbrev pub invariant-loop-nid : goal.invariant-loop-nid
invariant-loop-nid l = (l.next ≤ l.at + 25 * l.nid-index) × Left (lines bad_line l.nids) l.initial.buf l.at (lines bad_line (drop l.nid-index l.nids)) l.buf l.next
