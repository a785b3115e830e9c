-- `values::put_each`: what is left to print are the values from the loop's index on.
use Rattle.std.proofs.Common.{drop, ◌+◌, ◌*◌, ◌≡◌}
use Rattle.cases.specs.Lines.{value_text}
use Rattle.text.specs.Text.{lines}
use Rattle.text.specs.Left.{Left}
use Rattle.cases.proofs.values.put_each.Given as goal

abbrev pub invariant-loop-value : goal.invariant-loop-value
invariant-loop-value l = (l.next ≡ l.at + 2 * l.value-index) × Left (lines value_text l.values) l.initial.buf l.at (lines value_text (drop l.value-index l.values)) l.buf l.next
