-- Theorems over the definitions of specs/Sized.antt, where their subject is told. An edit of such a definition is refused here.
-- Assumes nothing.
use Rattle.std.specs.Prelude.{Bool, cond, ℕ}
use Rattle.std.proofs.Math.Bool.{true, false}
use mathlib.Core.List.{List, [], ◌∷◌}
use Rattle.energy.specs.Model.{Entry, Model, Sized, add_linear, gated, touches, neighbour, give, fix}
use Rattle.energy.specs.Sized.{sized-add_linear, sized-clear}

-- ---- the tables' size

module _ (n : ℕ) where
  -- the pairs that go to their neighbours keep the size
  pub sized-give : (q : ℕ) (b : Bool) (l : List Entry) (m : Model) → Sized n m → Sized n (give q b l m)
  unfolding give
  sized-give q b [] m s = s
  sized-give q b (e ∷ l) m s = sized-give q b l _ (go (touches q e.0))
    where
      go : (t : Bool) → Sized n (cond t (add_linear (neighbour q e.0) (gated b e.1) m) m)
      go true = (sized-add_linear n) (neighbour q e.0) (gated b e.1) m s
      go false = s

  -- fixing keeps the size
  pub sized-fix : (q : ℕ) (b : Bool) (m : Model) → Sized n m → Sized n (fix q b m)
  unfolding fix
  sized-fix q b m s = (sized-clear n) q b _ (sized-give q b m.pairs m s)
