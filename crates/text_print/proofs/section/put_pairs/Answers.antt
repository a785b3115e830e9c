use mathlib.Core.List.{zip}
use Rattle.std.proofs.Common.{rules, ◌≡◌, sym, ap, ap₂}
use Rattle.std.proofs.lemmas.Slice.Zip.{either_empty_from_Zip}
use Rattle.text.specs.Paste.{room-first, room_as, printed-as}
use Rattle.text.specs.Text.{lines, pair_text}
use Rattle.text.specs.Left.{left-start, left_as, left-print, left_end, left-room}
use Rattle.text_entries.proofs.Words.{pair_read}
use Rattle.text_print.proofs.Tables.{pairs-next, pairs-none}
use Rattle.text_print.proofs.section.put_pairs.Goals as goal

pub loop-key-init : goal.loop-key-init
loop-key-init c =
    let keys : c.into_iter-key-iterator.result.a.rest.now ≡ c.args.keys.now = search rules in
    let weights : c.into_iter-key-iterator.result.b.rest.now ≡ c.args.weights.now = search rules in
    left_as (ap (lines pair_text) (sym (ap₂ zip keys weights))) left-start

pub put_pair-next-requires : goal.put_pair-next-requires
put_pair-next-requires c =
    room_as (pair_read c.in-Some.key.now c.in-Some.weight.now (search rules)) (room-first _ (left-room c.requires (left_as (pairs-next c.in-Some.ensures.steps) c.loop-key.invariant)))

pub loop-key-preserved : goal.loop-key-preserved
loop-key-preserved c =
    left-print (left_as (pairs-next c.in-Some.ensures.steps) c.loop-key.invariant) (printed-as (pair_read c.in-Some.key.now c.in-Some.weight.now (search rules)) c.put_pair-next.ensures)

pub returns : goal.returns
returns c = left_end (left_as (pairs-none _ _ (either_empty_from_Zip c.loop-key.key-iterator c.next.new.self c.next.result c.in-None.is c.next.ensures.steps)) c.loop-key.invariant)
