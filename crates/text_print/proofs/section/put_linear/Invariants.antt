-- `section::put_linear` meets its contract. The loop: what is left to print are the entries from the name q on.
use Rattle.text.specs.Text.{lines, linear_text, entries}
use Rattle.text.specs.Left.{Left}
use Rattle.text_print.proofs.Tables.{linear-from}
use Rattle.text_print.proofs.section.put_linear.Given as goal

abbrev pub invariant-loop-q : goal.invariant-loop-q
invariant-loop-q l = Left (lines linear_text (entries 0 l.has l.linear)) l.initial.buf l.at (linear-from l.has l.linear l.q) l.buf l.next
