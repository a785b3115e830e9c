-- `section::put_inputs` meets its contract. The loop: what is left to print are the inputs from the k-th on.
use Rattle.std.proofs.Common.{map}
use Rattle.circuit.specs.Meaning.{circuit_of}
use Rattle.text.specs.Text.{lines, input_text, input_line}
use Rattle.text.specs.Left.{Left}
use Rattle.text_print.proofs.Parts.{inputs-from}
use Rattle.text_print.proofs.section.put_inputs.Given as goal

abbrev pub invariant-loop-k : goal.invariant-loop-k
invariant-loop-k l = Left (lines input_text (map (input_line l.s.qubits.now l.s.fixed.now) (circuit_of l.s.circuit.now).inputs)) l.initial.buf l.at (inputs-from l.s.qubits.now l.s.fixed.now (circuit_of l.s.circuit.now).inputs l.k) l.buf l.next
