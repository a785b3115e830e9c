-- Theorems over the definitions of specs/Marks.antt, where their subject is told. An edit of such a definition is refused here.
-- Assumes nothing.
use Rattle.std.specs.Prelude.{refl, Bool, true, false, cond, List, [], ◌∷◌, ℕ, zero, suc, pos, replicate}
use Rattle.std.proofs.Common.{inl, arith}
use Rattle.energy.specs.Plain.{Row}
use Rattle.energy.specs.Model.{Entry, Model, empty, add_linear, place_all, gated, touches, neighbour, give, fix}
use Rattle.energy.specs.Fixing.{Fixes, fix_all}
use Rattle.energy.specs.Marks.{Flags, Marked, Marks, flags-set, marked-add_linear, marked-place_all, marks-set}

-- ---- every step keeps that

marked_empty : (n : ℕ) → Marked (empty n)
marked_empty n = record { linear = none n; rows = flags n }
  where
    none : (n : ℕ) → Marks (replicate n 0) (replicate n (pos 0))
    none zero = tt
    none (suc n) = (inl (refl, refl), none n)

    flags : (n : ℕ) → Flags (replicate n 0)
    flags zero = tt
    flags (suc n) = (omega arith, flags n)

marked-give : (q : ℕ) (b : Bool) (s : List Entry) (m : Model) → Marked m → Marked (give q b s m)
unfolding give
marked-give q b [] m k = k
marked-give q b (e ∷ s) m k = marked-give q b s _ (go (touches q e.0))
  where
    go : (t : Bool) → Marked (cond t (add_linear (neighbour q e.0) (gated b e.1) m) m)
    go true = marked-add_linear (neighbour q e.0) (gated b e.1) m k
    go false = k

-- fixing
pub marked-fix : (q : ℕ) (b : Bool) (m : Model) → Marked m → Marked (fix q b m)
unfolding fix
marked-fix q b m k =
    record {
      linear = marks-set M.has_linear M.linear q 0 (pos 0) (inl (refl, refl)) g.linear;
      rows = flags-set M.has_row q 0 (omega arith) g.rows;
    }
  where
    M : Model
    M = give q b m.pairs m

    g : Marked M
    g = marked-give q b m.pairs m k

-- one fix after the other
pub marked-fix_all : (fs : Fixes) (m : Model) → Marked m → Marked (fix_all fs m)
unfolding fix_all
marked-fix_all [] m k = k
marked-fix_all (f ∷ fs) m k = marked-fix_all fs _ (marked-fix f.0 f.1 m k)

-- Theorem: the model that rows build, fixed or not, is so marked.
pub built-marked : (n : ℕ) (rs : List Row) (fs : Fixes) → Marked (fix_all fs (place_all rs (empty n)))
built-marked n rs fs = marked-fix_all fs _ (marked-place_all rs (empty n) (marked_empty n))
