-- Tables that hold nothing yet.
-- Assumes nothing: these are definitions.
use Rattle.std.specs.Prelude.{pos, replicate}
use Rattle.qubot_left.specs.Built.{Tables, lent}

-- all 0: 1,000 gates and 64 bad states come to 3,065 names and 10,192 pairs, so that no accepted circuit finds them short
unfoldable pub fresh : Tables
fresh =
    lent (replicate 1000 0) (replicate 3065 0) (replicate 3065 0) (replicate 3065 (pos 0)) (replicate 3065 0) (replicate 3065 0) (replicate 3065 0)
    (replicate 10192 0)
    (replicate 10192 (pos 0))
