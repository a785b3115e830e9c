-- `section::put_bads` meets its contract. The loop: what is left to print are the bad states from the k-th on.
use Rattle.std.proofs.Common.{map}
use Rattle.circuit.specs.Meaning.{circuit_of}
use Rattle.text.specs.Text.{lines, bad_text, bad_line}
use Rattle.text.specs.Left.{Left}
use Rattle.text_print.proofs.Parts.{bads-from}
use Rattle.text_print.proofs.section.put_bads.Given as goal

abbrev pub invariant-loop-k : goal.invariant-loop-k
invariant-loop-k l = Left (lines bad_text (map (bad_line l.s.qubits.now l.s.fixed.now) (circuit_of l.s.circuit.now).bads)) l.initial.buf l.at (bads-from l.s.qubits.now l.s.fixed.now (circuit_of l.s.circuit.now).bads l.k) l.buf l.next
