use Rattle.std.proofs.Common.{◌≡◌, ap, ◌∙◌, List, ℕ, ◌<◌, arith, length}
use Rattle.units.specs.declared.Gate.{Gate}
use Rattle.circuit.specs.declared.Counts.{Counts}
use Rattle.circuit.specs.Meaning.{circuit_of}
use Rattle.circuit.specs.Check.{counts_of}
use Rattle.circuit.specs.Accepted.{counts-are}
use Rattle.circuit.specs.Parts.{bad_of}
use Rattle.text.specs.Paste.{room-first}
use Rattle.text.specs.Left.{left-start, left_as, left-print, left_end, left-room}
use Rattle.text_print.proofs.Parts.{bads-all, bads-next, bads-none, bad-entry, bad-name}
use Rattle.text_print.proofs.section.put_bads.Goals as goal

-- the count is the circuit's
count : (c : List ℕ) {k : Counts} → k ≡ counts_of c → k.bad_states ≡ length (circuit_of c).bads
count c {k} e = ap (λ (k : Counts). k.bad_states) e ∙ (counts-are c).bads

inside : (c : List ℕ) {n : Counts} → n ≡ counts_of c → (k : ℕ) → k < n.bad_states → k < length (circuit_of c).bads
inside c e k h = omega (arith, count c e)

pub loop-k-init : goal.loop-k-init
loop-k-init c = left_as (bads-all _ _ _) left-start

pub bad_gate-gate-requires : goal.bad_gate-gate-requires
bad_gate-gate-requires c = (c.requires.0.sound.timely.regular, c.requires.1, c.loop-k-test.true)

pub bad_nid-nid-requires : goal.bad_nid-nid-requires
bad_nid-nid-requires c = (c.requires.0.sound.timely.regular, c.requires.1, c.loop-k-test.true)

-- the gate that was read: it has an entry, and a qubit, which has an entry too
pub bounds-s-gate : goal.bounds-s-gate
bounds-s-gate c =
    bad-entry c.requires.0 c.loop-k.k c.bad_gate-gate.result.0 (inside _ c.requires.1 _ c.loop-k-test.true) (ap (λ (g : Gate). g.0) c.bad_gate-gate.ensures)

pub put_bad-next-requires : goal.put_bad-next-requires
put_bad-next-requires c =
    let i = inside _ c.requires.1 _ c.loop-k-test.true in
    let read : c.bad_gate-gate.result.0 ≡ (bad_of (circuit_of c.args.s.circuit.now) c.loop-k.k).gate = ap (λ (g : Gate). g.0) c.bad_gate-gate.ensures in
    let name = bad-name c.requires.0 c.requires.2 c.loop-k.k c.bad_gate-gate.result.0 i read in
    (name.0, name.1, room-first _ (left-room c.requires.3 (left_as (bads-next _ _ _ c.loop-k.k c.bad_gate-gate.result.0 c.bad_nid-nid.result i read c.bad_nid-nid.ensures) c.loop-k.invariant)))

pub loop-k-preserved : goal.loop-k-preserved
loop-k-preserved c =
    let i = inside _ c.requires.1 _ c.loop-k-test.true in
    let read : c.bad_gate-gate.result.0 ≡ (bad_of (circuit_of c.args.s.circuit.now) c.loop-k.k).gate = ap (λ (g : Gate). g.0) c.bad_gate-gate.ensures in
    left-print (left_as (bads-next _ _ _ c.loop-k.k c.bad_gate-gate.result.0 c.bad_nid-nid.result i read c.bad_nid-nid.ensures) c.loop-k.invariant) c.put_bad-next.ensures

pub returns : goal.returns
returns c = left_end (left_as (bads-none _ _ _ _ (omega (arith, count _ c.requires.1, c.loop-k-test.false))) c.loop-k.invariant)
