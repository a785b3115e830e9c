-- `text_print::put_circuit` meets its contract.
use Rattle.std.proofs.Common.{◌≡◌, ap, ◌∙◌, List, ℕ, length}
use Rattle.circuit.specs.declared.Counts.{Counts}
use Rattle.circuit.specs.Meaning.{circuit_of}
use Rattle.circuit.specs.Check.{counts_of}
use Rattle.circuit.specs.Accepted.{counts-are}
use Rattle.text.specs.Paste.{then, room-first, room-second}
use Rattle.text_print.proofs.put_circuit.Goals as goal

-- the count is the circuit's
inputs-count : (c : List ℕ) {k : Counts} → k ≡ counts_of c → k.inputs ≡ length (circuit_of c).inputs
inputs-count c e = ap (λ (k : Counts). k.inputs) e ∙ (counts-are c).inputs

pub put_inputs-blank-requires : goal.put_inputs-blank-requires
put_inputs-blank-requires c = (c.requires.0, c.requires.2, inputs-count _ c.requires.1, room-first _ c.requires.4)

pub put-next-requires : goal.put-next-requires
put-next-requires c = room-first _ (room-second c.put_inputs-blank.ensures c.requires.4)

pub put_bads-end-requires : goal.put_bads-end-requires
put_bads-end-requires c = (c.requires.0, c.requires.1, c.requires.3, room-first _ (room-second c.put-next.ensures (room-second c.put_inputs-blank.ensures c.requires.4)))

pub put-requires : goal.put-requires
put-requires c = room-second c.put_bads-end.ensures (room-second c.put-next.ensures (room-second c.put_inputs-blank.ensures c.requires.4))

pub returns : goal.returns
returns c = then c.put_inputs-blank.ensures (then c.put-next.ensures (then c.put_bads-end.ensures c.put.ensures))
