-- `text_print::print_model` meets its contract: the parts in turn are the whole text, and there are numbers for its places.
use mathlib.Core.List.{zip}
use lib.Signed.{nat_abs-le}
use Rattle.std.proofs.Common.{rules, sym, ap, ◌∷◌, ◌++◌, arith, take, to_z-of_z, Fits, FitsSigned, w64}
use Rattle.text.specs.Paste.{Printed, Room, then, room-first, room-second, room_as, printed-as}
use Rattle.text.specs.Text.{newline, entries, entry_text, circuit_text, entries_text}
use Rattle.text_print.specs.declared.finished.Sheet.{Sheet}
use Rattle.text_print.specs.Lent.{inputs_in, bads_in, PrintableIn}
use Rattle.text_print.proofs.Whole.{readable, whole-text}
use Rattle.text_print.proofs.Short.{short}
use Rattle.text_print.proofs.print_model.Goals as goal
use Rattle.text_print.proofs.print_model.Goals.{After-put_entry-blank}

-- there are numbers for the places of the text
room : (s : Sheet) → PrintableIn s → Fits w64 s.variables → FitsSigned w64 s.offset
    → Room 0 (entry_text s.variables s.offset ++ (newline ∷ (circuit_text (inputs_in s) (bads_in s) ++ entries_text (entries 0 (take s.names s.has.now) (take s.names s.linear.now)) (take s.pairs (zip s.keys.now s.weights.now)))))
room s p f g =
    short p (λ i. omega (arith, s.byte_each i)) (λ g. omega (arith, s.qubit_each g)) (λ i. omega (arith, s.key_each i)) s.variables s.offset
    (omega (arith, f))
    (omega (arith, nat_abs-le s.offset g.sfits))

-- the first line: a signed argument reaches a callee as what the machine reads back of it
head : (c : After-put_entry-blank) → Printed (entry_text c.args.s.variables c.args.s.offset) c.args.buf.now 0 c.put_entry-blank.new.buf c.put_entry-blank.result
head c = printed-as (ap (entry_text c.args.s.variables) (sym (to_z-of_z {w = w64} {z = c.args.s.offset} (search rules)))) c.put_entry-blank.ensures

pub put_entry-blank-requires : goal.put_entry-blank-requires
put_entry-blank-requires c =
    room_as (ap (entry_text c.args.s.variables) (sym (to_z-of_z {w = w64} {z = c.args.s.offset} (search rules))))
    (room-first _ (room c.args.s c.requires (search rules) (search rules)))

pub put-next-requires : goal.put-next-requires
put-next-requires c =
    room-first _ (room-second (head (goal.at.put-next-requires c).After-put_entry-blank) (room c.args.s c.requires (search rules) (search rules)))

pub put_circuit-last-requires : goal.put_circuit-last-requires
put_circuit-last-requires c =
    let first = head (goal.at.put_circuit-last-requires c).After-put_entry-blank in
    let left = room-second c.put-next.ensures (room-second first (room c.args.s c.requires (search rules) (search rules))) in
    (readable c.requires, c.requires.counts, c.requires.starts, c.requires.bads, room-first _ left)

pub put_entries-requires : goal.put_entries-requires
put_entries-requires c =
    let first = head (goal.at.put_entries-requires c).After-put_entry-blank in
    let left = room-second c.put-next.ensures (room-second first (room c.args.s c.requires (search rules) (search rules))) in
    ((c.requires.has_linear, c.requires.linear, c.requires.keys, c.requires.weights), room-second c.put_circuit-last.ensures left)

pub returns : goal.returns
returns c = printed-as (whole-text c.requires _ _ _ _ _) (then (head (goal.at.returns c).After-put_entry-blank) (then c.put-next.ensures (then c.put_circuit-last.ensures c.put_entries.ensures)))
