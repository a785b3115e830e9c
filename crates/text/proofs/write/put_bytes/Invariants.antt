-- `write::put_bytes`: what is left to print are the bytes from the loop's index on.
use Rattle.std.proofs.Common.{drop}
use Rattle.text.specs.Left.{Left}
use Rattle.text.proofs.write.put_bytes.Given as goal

abbrev pub invariant-loop-b : goal.invariant-loop-b
invariant-loop-b l = Left l.s l.initial.buf l.at (drop l.b-index l.s) l.buf l.next
