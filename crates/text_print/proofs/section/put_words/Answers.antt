use Rattle.std.proofs.Common.{◌≡◌, ap, ◌<◌, arith, length, get_or}
use Rattle.units.specs.declared.Gate.{Gate}
use Rattle.circuit.specs.Meaning.{circuit_of}
use Rattle.circuit.specs.Parts.{input_of_circuit}
use Rattle.text.specs.Paste.{room-first}
use Rattle.text.specs.Left.{left-start, left_as, left-print, left_end, left-room}
use Rattle.text_print.proofs.Parts.{words-all, words-next, words-none, bit-entry, bit-name}
use Rattle.text_print.proofs.section.put_words.Goals as goal

pub loop-j-init : goal.loop-j-init
loop-j-init c = left_as (words-all _ _ _ _) left-start

pub input_gate-gate-requires : goal.input_gate-gate-requires
input_gate-gate-requires c = (c.requires.0.sound.timely.regular, c.requires.1, c.requires.2, omega (arith, c.requires.3, c.loop-j-test.true))

-- the gate that was read has an entry, and so has its qubit
pub bounds-s-gate : goal.bounds-s-gate
bounds-s-gate c =
    let i : c.loop-j.j < length (input_of_circuit (circuit_of c.args.s.circuit.now) c.args.k).bits = omega (arith, c.requires.3, c.loop-j-test.true) in
    bit-entry c.requires.0 c.args.k c.loop-j.j c.input_gate-gate.result.0 c.requires.2 i (ap (λ (g : Gate). g.0) c.input_gate-gate.ensures)

pub put_word-next-requires : goal.put_word-next-requires
put_word-next-requires c =
    let i : c.loop-j.j < length (input_of_circuit (circuit_of c.args.s.circuit.now) c.args.k).bits = omega (arith, c.requires.3, c.loop-j-test.true) in
    let read : c.input_gate-gate.result.0 ≡ get_or (input_of_circuit (circuit_of c.args.s.circuit.now) c.args.k).bits c.loop-j.j 0 = ap (λ (g : Gate). g.0) c.input_gate-gate.ensures in
    (bit-name c.requires.0 c.args.k c.loop-j.j c.input_gate-gate.result.0 c.requires.2 i read, room-first _ (left-room c.requires.4 (left_as (words-next _ _ _ _ c.loop-j.j c.args.m c.input_gate-gate.result.0 i c.requires.3 read) c.loop-j.invariant)))

pub loop-j-preserved : goal.loop-j-preserved
loop-j-preserved c =
    let i : c.loop-j.j < length (input_of_circuit (circuit_of c.args.s.circuit.now) c.args.k).bits = omega (arith, c.requires.3, c.loop-j-test.true) in
    let read : c.input_gate-gate.result.0 ≡ get_or (input_of_circuit (circuit_of c.args.s.circuit.now) c.args.k).bits c.loop-j.j 0 = ap (λ (g : Gate). g.0) c.input_gate-gate.ensures in
    left-print (left_as (words-next _ _ _ _ c.loop-j.j c.args.m c.input_gate-gate.result.0 i c.requires.3 read) c.loop-j.invariant) c.put_word-next.ensures

pub returns : goal.returns
returns c = left_end (left_as (words-none _ _ _ _ _ (omega (arith, c.requires.3, c.loop-j-test.false))) c.loop-j.invariant)
