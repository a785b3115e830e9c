-- Theorems over the definitions of specs/Fours.antt, where their subject is told. An edit of such a definition is refused here.
-- Assumes nothing.
use Rattle.std.specs.Prelude.{Bool, true, false, cond, List, [], ◌∷◌, ℕ, zero, suc, ℤ, pos, get_or, replicate}
use Rattle.laws.specs.Half.{Fourfold, fourfold-add, fourfold-zero}
use Rattle.energy.specs.Plain.{Row}
use Rattle.energy.specs.Model.{Entry, Model, empty, add_linear, place_all, gated, touches, neighbour, give, without, fix, weights}
use Rattle.energy.specs.Fixing.{Fixes, fix_all}
use Rattle.energy.specs.Fours.{AllFours, Fours, fours-add_linear, fours-at, fours-place_all, fours-set}

-- ---- every coefficient is a multiple of 4 halves

fours-without : (q : ℕ) (s : List Entry) → AllFours (weights s) → AllFours (weights (without q s))
unfolding without
fours-without q [] f = tt
fours-without q (e ∷ s) f = go (touches q e.0) (fours-without q s f.1)
  where
    go : (t : Bool) → AllFours (weights (without q s)) → AllFours (weights (cond t (without q s) (e ∷ without q s)))
    go true r = r
    go false r = (f.0, r)

fours-gated : (b : Bool) (c : ℤ) → Fourfold c → Fourfold (gated b c)
fours-gated true c h = h
fours-gated false c h = fourfold-zero

fours-empty : (n : ℕ) → Fours (empty n)
fours-empty n = record { offset = fourfold-zero; linear = zeros n; pairs = tt }
  where
    zeros : (n : ℕ) → AllFours (replicate n (pos 0))
    zeros zero = tt
    zeros (suc n) = (fourfold-zero, zeros n)

fours-give : (q : ℕ) (b : Bool) (s : List Entry) (m : Model) → AllFours (weights s) → Fours m → Fours (give q b s m)
unfolding give
fours-give q b [] m w f = f
fours-give q b (e ∷ s) m w f = fours-give q b s _ w.1 (go (touches q e.0))
  where
    go : (t : Bool) → Fours (cond t (add_linear (neighbour q e.0) (gated b e.1) m) m)
    go true = fours-add_linear (neighbour q e.0) (gated b e.1) m (fours-gated b e.1 w.0) f
    go false = f

-- and fixing leaves them so
pub fours-fix : (q : ℕ) (b : Bool) (m : Model) → Fours m → Fours (fix q b m)
unfolding fix
fours-fix q b m f =
    record {
      offset = fourfold-add M.offset _ g.offset (fours-gated b (get_or M.linear q (pos 0)) (fours-at M.linear g.linear q));
      linear = fours-set M.linear g.linear q (pos 0) fourfold-zero;
      pairs = fours-without q M.pairs g.pairs;
    }
  where
    M : Model
    M = give q b m.pairs m

    g : Fours M
    g = fours-give q b m.pairs m f.pairs f

-- one fix after the other
pub fours-fix_all : (fs : Fixes) (m : Model) → Fours m → Fours (fix_all fs m)
unfolding fix_all
fours-fix_all [] m f = f
fours-fix_all (x ∷ fs) m f = fours-fix_all fs _ (fours-fix x.0 x.1 m f)

-- Every linear coefficient, every pair and the offset of a model that rows build, fixed or not, is a multiple of 4 halves.
pub built-fours : (n : ℕ) (rs : List Row) (fs : Fixes) → Fours (fix_all fs (place_all rs (empty n)))
built-fours n rs fs = fours-fix_all fs _ (fours-place_all rs (empty n) (fours-empty n))
