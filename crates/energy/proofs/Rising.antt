-- Theorems over the definitions of specs/Rising.antt, where their subject is told. An edit of such a definition is refused here.
-- Assumes nothing.
use Rattle.std.specs.Prelude.{Bool, List, [], ◌∷◌, ℕ}
use Rattle.energy.specs.Plain.{Row}
use Rattle.energy.specs.Model.{Model, empty, place_all, fix}
use Rattle.energy.specs.Fixing.{Fixes, fix_all}
use Rattle.energy.proofs.Fixing.{fix-pairs}
use Rattle.energy.specs.Rising.{Rising, rising-place_all, rising-without}

-- ---- the model's pairs

-- fixing keeps it
pub rising-fix : (q : ℕ) (b : Bool) (m : Model) → Rising m.pairs → Rising (fix q b m).pairs
rising-fix q b m r = rw (fix-pairs q b m) (rising-without q m.pairs r)

-- one fix after the other
pub rising-fix_all : (fs : Fixes) (m : Model) → Rising m.pairs → Rising (fix_all fs m).pairs
unfolding fix_all
rising-fix_all [] m r = r
rising-fix_all (f ∷ fs) m r = rising-fix_all fs _ (rising-fix f.0 f.1 m r)

-- Theorem: the pairs of a model that rows build, fixed or not, rise by key.
pub built-rising : (n : ℕ) (rs : List Row) (fs : Fixes) → Rising (fix_all fs (place_all rs (empty n))).pairs
built-rising n rs fs = rising-fix_all fs _ (rising-place_all rs (empty n) tt)
