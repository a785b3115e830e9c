-- What a sheet holds, by the words of the definitions.
-- Assumes nothing: these are definitions.
use mathlib.Core.List.{map, zip}
use Rattle.std.specs.Prelude.{List, ℕ, take}
use Rattle.energy.specs.Circuit.{Circuit}
use Rattle.circuit.specs.Meaning.{circuit_of}
use Rattle.text.specs.Text.{InputLine, BadLine, input_line, bad_line, layout, sheet_by}
use Rattle.text.specs.Ready.{Readable, Printable}
use Rattle.text_print.specs.declared.finished.Sheet.{Sheet}

-- what its bytes mean
abbrev pub circuit_in : Sheet → Circuit
circuit_in s = circuit_of s.circuit.now

-- the lines of its inputs and of its bad states
abbrev pub inputs_in : Sheet → List InputLine
inputs_in s = map (input_line s.qubits.now s.fixed.now) (circuit_in s).inputs

abbrev pub bads_in : Sheet → List BadLine
bads_in s = map (bad_line s.qubits.now s.fixed.now) (circuit_in s).bads

-- what printing asks of the circuit and of the tables that its lines read, and of all
abbrev pub ReadableIn : Sheet → Type 0
ReadableIn s = Readable s.circuit.now s.qubits.now s.fixed.now

abbrev pub PrintableIn : Sheet → Type 0
PrintableIn s =
    Printable s.circuit.now s.starts.now s.qubits.now s.fixed.now s.has.now s.linear.now s.keys.now s.weights.now s.counts s.names s.pairs

-- the whole text
abbrev pub text_of : Sheet → List ℕ
text_of s =
    layout
    (sheet_by (circuit_in s) s.qubits.now s.variables s.offset (take s.names s.fixed.now) (take s.names s.has.now) (take s.names s.linear.now)
    (take s.pairs (zip s.keys.now s.weights.now)))
