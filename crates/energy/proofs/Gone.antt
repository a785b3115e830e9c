-- Theorems over the definitions of specs/Gone.antt, where their subject is told. An edit of such a definition is refused here.
-- Assumes nothing.
use Rattle.std.specs.Prelude.{◌≢◌, Bool, true, false, cond, List, [], ◌∷◌, ℕ, eqb, pos}
use Rattle.std.proofs.Common.{◌∙◌, ap, inl, inr}
use Rattle.std.proofs.Math.ListN.{get_or-map}
use Rattle.laws.specs.Table.{set-leaves}
use Rattle.energy.specs.Circuit.{Constraint}
use Rattle.energy.specs.Numbering.{Named}
use Rattle.energy.specs.Model.{Entry, Model, low, high, add_linear, gated, touches, neighbour, give, without, fix, half, quarters, ends, ising}
use Rattle.energy.specs.Sized.{turned}
use Rattle.energy.specs.Fixing.{Fixes, fix_all, Says}
use Rattle.energy.specs.Finished.{fixes, model, finished}
use Rattle.energy.specs.Gone.{Apart, Gone, gone-add_linear, gone-fix, gone-join_linear}

apart-without : (q p : ℕ) (s : List Entry) → Apart q s → Apart q (without p s)
unfolding without
apart-without q p [] a = tt
apart-without q p (e ∷ s) a = go (touches p e.0) (apart-without q p s a.2)
  where
    go : (b : Bool) → Apart q (without p s) → Apart q (cond b (without p s) (e ∷ without p s))
    go true r = r
    go false r = (a.0, a.1, r)

gone-give : (q p : ℕ) (b : Bool) (s : List Entry) (m : Model) → Apart q s → Gone q m → Gone q (give p b s m)
unfolding give
gone-give q p b [] m a g = g
gone-give q p b (e ∷ s) m a g = gone-give q p b s _ a.2 (go (touches p e.0))
  where
    not-q : neighbour p e.0 ≢ q
    not-q = pick (eqb (low e.0) p)
      where
        pick : (t : Bool) → cond t (high e.0) (low e.0) ≢ q
        pick true = a.1
        pick false = a.0

    go : (t : Bool) → Gone q (cond t (add_linear (neighbour p e.0) (gated b e.1) m) m)
    go true = gone-add_linear q (neighbour p e.0) (gated b e.1) m not-q g
    go false = g

-- fixing another qubit does not bring it back
pub gone-kept : (q p : ℕ) (b : Bool) (m : Model) → Gone q m → Gone q (fix p b m)
unfolding fix
gone-kept q p b m g =
    record {
      linear = set-leaves M.linear p q (pos 0) h.linear;
      has_linear = set-leaves M.has_linear p q 0 h.has_linear;
      has_row = set-leaves M.has_row p q 0 h.has_row;
      pairs = apart-without q p M.pairs h.pairs;
    }
  where
    M : Model
    M = give p b m.pairs m

    h : Gone q M
    h = gone-give q p b m.pairs m g.pairs g

-- and later fixes do not either
pub gone-later : (q : ℕ) (fs : Fixes) (m : Model) → Gone q m → Gone q (fix_all fs m)
unfolding fix_all
gone-later q [] m g = g
gone-later q (f ∷ fs) m g = gone-later q fs _ (gone-kept q f.0 f.1 m g)

-- Theorem: after all fixes, each fixed qubit has gone.
pub gone-fix_all : (fs : Fixes) (m : Model) (q : ℕ) (b : Bool) → Says fs q b → Gone q (fix_all fs m)
unfolding fix_all
gone-fix_all [] m q b i = absurd i
gone-fix_all (f ∷ fs) m q b (inl i) = gone-later q fs _ (rw i.0 (gone-fix q f.1 m))
gone-fix_all (f ∷ fs) m q b (inr i) = gone-fix_all fs _ q b i

gone-ends : (q : ℕ) (s : List Entry) (m : Model) → Apart q s → Gone q m → Gone q (ends s m)
unfolding ends
gone-ends q [] m a g = g
gone-ends q (e ∷ s) m a g = gone-ends q s _ a.2 (gone-join_linear q (high e.0) e.1 _ a.1 (gone-join_linear q (low e.0) e.1 m a.0 g))

apart-quarters : (q : ℕ) (s : List Entry) → Apart q s → Apart q (quarters s)
apart-quarters q [] a = tt
apart-quarters q (e ∷ s) a = (a.0, a.1, apart-quarters q s a.2)

-- and stays so in the Ising form
pub gone-ising : (q : ℕ) (m : Model) → Gone q m → Gone q (ising m)
unfolding ising
gone-ising q m g =
    gone-ends q (quarters m.pairs) (turned m) (apart-quarters q m.pairs g.pairs)
    (record {
      linear = get_or-map half m.linear q (pos 0) ∙ ap half g.linear;
      has_linear = g.has_linear;
      has_row = g.has_row;
      pairs = apart-quarters q m.pairs g.pairs;
    })

-- The joined qubit, every constraint's qubit and both constants have gone from it.
pub finished-gone : (n : ℕ) (d : Named) (cs : List Constraint) (q : ℕ) (b : Bool) → Says (fixes d cs) q b → Gone q (finished n d cs)
finished-gone n d cs q b i = gone-fix_all (fixes d cs) (model n d) q b i
