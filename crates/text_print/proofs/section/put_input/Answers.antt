-- `section::put_input` meets its contract: nid, qubits, fixed values.
use Rattle.std.proofs.Common.{sym, ap}
use Rattle.circuit.specs.Meaning.{circuit_of}
use Rattle.circuit.specs.Parts.{input_of_circuit}
use Rattle.text.specs.Paste.{Printed, then, room-first, room-second, room_as, printed-as}
use Rattle.text.specs.Text.{lead_text, input_text}
use Rattle.text_print.proofs.section.put_input.Goals as goal
use Rattle.text_print.proofs.section.put_input.Goals.{After-put_lead-words}

-- the nid that was read leads the line
lead : (c : After-put_lead-words)
    → Printed (lead_text (input_of_circuit (circuit_of c.args.s.circuit.now) c.args.k).nid) c.args.buf.now c.args.at c.put_lead-words.new.buf c.put_lead-words.result
lead c = printed-as (ap lead_text (sym c.input_nid-nid.ensures)) c.put_lead-words.ensures

pub input_nid-nid-requires : goal.input_nid-nid-requires
input_nid-nid-requires c = (c.requires.0.sound.timely.regular, c.requires.1, c.requires.2)

pub put_lead-words-requires : goal.put_lead-words-requires
unfolding input_text
put_lead-words-requires c = room_as (ap lead_text (sym c.input_nid-nid.ensures)) (room-first _ c.requires.4)

pub put_words-gap-requires : goal.put_words-gap-requires
unfolding input_text
put_words-gap-requires c = (c.requires.0, c.requires.1, c.requires.2, c.requires.3, room-first _ (room-second (lead (goal.at.put_words-gap-requires c).After-put_lead-words) c.requires.4))

pub put-values-requires : goal.put-values-requires
unfolding input_text
put-values-requires c = room-first _ (room-second c.put_words-gap.ensures (room-second (lead (goal.at.put-values-requires c).After-put_lead-words) c.requires.4))

pub put_words-end-requires : goal.put_words-end-requires
unfolding input_text
put_words-end-requires c = (c.requires.0, c.requires.1, c.requires.2, c.requires.3, room-first _ (room-second c.put-values.ensures (room-second c.put_words-gap.ensures (room-second (lead (goal.at.put_words-end-requires c).After-put_lead-words) c.requires.4))))

pub put-requires : goal.put-requires
unfolding input_text
put-requires c = room-second c.put_words-end.ensures (room-second c.put-values.ensures (room-second c.put_words-gap.ensures (room-second (lead (goal.at.put-requires c).After-put_lead-words) c.requires.4)))

pub returns : goal.returns
unfolding input_text
returns c = then (lead (goal.at.returns c).After-put_lead-words) (then c.put_words-gap.ensures (then c.put-values.ensures (then c.put_words-end.ensures c.put.ensures)))
