-- `section::put_pairs` meets its contract. The loop: what is left to print are the pairs that the iterator has left.
use mathlib.Core.List.{zip}
use Rattle.text.specs.Text.{lines, pair_text}
use Rattle.text.specs.Left.{Left}
use Rattle.text_print.proofs.section.put_pairs.Given as goal

abbrev pub invariant-loop-key : goal.invariant-loop-key
invariant-loop-key l = Left (lines pair_text (zip l.keys l.weights)) l.initial.buf l.at (lines pair_text (zip l.key-iterator.a.rest.now l.key-iterator.b.rest.now)) l.buf l.next
