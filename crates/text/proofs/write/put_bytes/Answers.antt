-- `write::put_bytes` meets its contract.
use Rattle.std.proofs.Common.{◌≡◌, List, [], ◌∷◌, ◌++◌, ℕ, ◌+◌, ◌<◌, add-one, length, drop, get_or, drop_of_length-le, drop-cons}
use Rattle.text.specs.Left.{left_as, left-print, left_end}
use Rattle.text.proofs.write.put_bytes.Goals as goal

-- the byte that comes next
coming : (s : List ℕ) (i : ℕ) → i < length s → drop i s ≡ (get_or s i 0 ∷ []) ++ drop (i + 1) s
coming s i h = rw (add-one i, drop-cons s i 0)

pub loop-b-preserved : goal.loop-b-preserved
loop-b-preserved c = left-print (left_as (coming _ _ c.loop-b-test.true) c.loop-b.invariant) c.put-next.ensures

pub returns : goal.returns
returns c = left_end (left_as (drop_of_length-le _ c.loop-b-test.false) c.loop-b.invariant)
