-- The Ising form has the same energy: with -1 for false and 1 for true, as a count of halves.
-- The theorems that an edit of a definition breaks are in proofs/Ising.antt.
-- Assumes nothing.
use Rattle.std.specs.Prelude.{◌≡◌}
use Rattle.std.proofs.Math.Path.{refl}
use mathlib.Core.List.{List, [], ◌∷◌}
use Rattle.energy.specs.Model.{Entry, Model, quarters, ends, ising}
use Rattle.energy.specs.Sized.{turned}

-- ---- what the Ising form leaves as it was

ends-fixed : (s : List Entry) (m : Model) → (ends s m).fixed ≡ m.fixed
unfolding ends
ends-fixed [] m = refl
ends-fixed (e ∷ s) m = ends-fixed s _

-- the table of fixed values
pub ising-fixed : (m : Model) → (ising m).fixed ≡ m.fixed
unfolding ising
ising-fixed m = ends-fixed (quarters m.pairs) (turned m)

ends-has_row : (s : List Entry) (m : Model) → (ends s m).has_row ≡ m.has_row
unfolding ends
ends-has_row [] m = refl
ends-has_row (e ∷ s) m = ends-has_row s _

-- and the rows
pub ising-has_row : (m : Model) → (ising m).has_row ≡ m.has_row
unfolding ising
ising-has_row m = ends-has_row (quarters m.pairs) (turned m)

ends-pairs : (s : List Entry) (m : Model) → (ends s m).pairs ≡ m.pairs
unfolding ends
ends-pairs [] m = refl
ends-pairs (e ∷ s) m = ends-pairs s _

-- each pair becomes its quarter
pub ising-pairs : (m : Model) → (ising m).pairs ≡ quarters m.pairs
unfolding ising
ising-pairs m = ends-pairs (quarters m.pairs) (turned m)
