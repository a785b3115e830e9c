-- `text_print::put_entries` meets its contract.
use mathlib.Core.List.{zip}
use Rattle.std.proofs.Common.{◌≡◌, ap, List, ℕ, ℤ, arith, take, length-take-le}
use Rattle.text.specs.Text.{entries_text}
use Rattle.text.specs.Paste.{then, room-first, room-second, room_as, printed-as}
use Rattle.text_print.proofs.Tables.{zip-take}
use Rattle.text_print.proofs.put_entries.Goals as goal

-- the front of both tables is the front of the pairs
says : (es : List (ℕ × ℤ)) (n : ℕ) (ks : List ℕ) (ws : List ℤ) → entries_text es (take n (zip ks ws)) ≡ entries_text es (zip (take n ks) (take n ws))
says es n ks ws = ap (entries_text es) (zip-take n ks ws)

pub put_linear-blank-requires : goal.put_linear-blank-requires
put_linear-blank-requires c =
    (omega (arith, length-take-le _ _ c.requires.0.0, length-take-le _ _ c.requires.0.1), room-first _ (room_as (says _ _ c.args.s.keys.now c.args.s.weights.now) c.requires.1))

pub put-next-requires : goal.put-next-requires
put-next-requires c = room-first _ (room-second c.put_linear-blank.ensures (room_as (says _ _ c.args.s.keys.now c.args.s.weights.now) c.requires.1))

pub put_pairs-requires : goal.put_pairs-requires
put_pairs-requires c = room-second c.put-next.ensures (room-second c.put_linear-blank.ensures (room_as (says _ _ c.args.s.keys.now c.args.s.weights.now) c.requires.1))

pub returns : goal.returns
returns c = printed-as (says _ _ c.args.s.keys.now c.args.s.weights.now) (then c.put_linear-blank.ensures (then c.put-next.ensures c.put_pairs.ensures))
