-- `section::put_words` meets its contract. The loop: what is left to print are the words from the j-th bit on.
use Rattle.std.proofs.Common.{map}
use Rattle.circuit.specs.Meaning.{circuit_of}
use Rattle.circuit.specs.Parts.{input_of_circuit}
use Rattle.text.specs.Text.{commas, word, shown_at}
use Rattle.text.specs.Left.{Left}
use Rattle.text_print.proofs.Parts.{words-from}
use Rattle.text_print.proofs.section.put_words.Given as goal

abbrev pub invariant-loop-j : goal.invariant-loop-j
invariant-loop-j l = Left (commas (word l.values) (map (shown_at l.s.qubits.now l.s.fixed.now) (input_of_circuit (circuit_of l.s.circuit.now) l.k).bits)) l.initial.buf l.at (words-from l.values l.s.qubits.now l.s.fixed.now (input_of_circuit (circuit_of l.s.circuit.now) l.k).bits l.j) l.buf l.next
