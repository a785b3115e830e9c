-- The marks of the tables: a linear entry is marked 1, a qubit without one is marked 0 and its coefficient is 0; a row is marked 1 or 0.
-- The theorems that an edit of a definition breaks are in proofs/Marks.antt.
-- Assumes nothing.
use Rattle.std.specs.Prelude.{◌≡◌, refl, ◌⊎◌, Bool, true, false, cond, List, [], ◌∷◌, map, ℕ, zero, suc, ◌≤◌, eqb, ℤ, pos, get_or, set}
use Rattle.std.proofs.Common.{ap, inl, inr, arith}
use Rattle.penalty.specs.declared.Penalty.{Penalty}
use Rattle.penalty.specs.Rows.{Slot, Place, singles, twos, row_of}
use Rattle.energy.specs.Plain.{Row, wire}
use Rattle.energy.specs.Model.{Entry, Model, is_zero, join_linear, join_pair, add_linear, add_pair, halves, add_linears, add_pairs, place, place_all, half, quarters, ends, ising}
use Rattle.energy.specs.Sized.{turned}

-- there is no entry and the coefficient is 0, or there is one
abbrev pub Mark : ℕ → ℤ → Type 0
Mark h c = ((h ≡ 0) × (c ≡ pos 0)) ⊎ (h ≡ 1)

-- of two tables that go together
abbrev pub Marks : List ℕ → List ℤ → Type 0
Marks [] [] = Unit {0}
Marks [] (c ∷ cs) = ⊥
Marks (h ∷ hs) [] = ⊥
Marks (h ∷ hs) (c ∷ cs) = Mark h c × Marks hs cs

-- each of these is 0 or 1
abbrev pub Flags : List ℕ → Type 0
Flags [] = Unit {0}
Flags (h ∷ hs) = (h ≤ 1) × Flags hs

-- the model's tables are so marked
pub record Marked (m : Model) : Type 0 where
  pub linear : Marks m.has_linear m.linear
  pub rows : Flags m.has_row

-- a qubit without a linear entry has the coefficient 0
pub no-entry : (hs : List ℕ) (cs : List ℤ) → Marks hs cs → (q : ℕ) → Mark (get_or hs q 0) (get_or cs q (pos 0))
no-entry [] [] k q = inl (refl, refl)
no-entry [] (c ∷ cs) k q = absurd k
no-entry (h ∷ hs) [] k q = absurd k
no-entry (h ∷ hs) (c ∷ cs) k zero = k.0
no-entry (h ∷ hs) (c ∷ cs) k (suc q) = no-entry hs cs k.1 q

-- a mark is 0 or 1
pub flag_at : (hs : List ℕ) → Flags hs → (q : ℕ) → get_or hs q 0 ≤ 1
flag_at [] f q = omega arith
flag_at (h ∷ hs) f zero = f.0
flag_at (h ∷ hs) f (suc q) = flag_at hs f.1 q

-- ---- every step keeps that

pub marks-set : (hs : List ℕ) (cs : List ℤ) (q h : ℕ) (c : ℤ) → Mark h c → Marks hs cs → Marks (set hs q h) (set cs q c)
marks-set [] [] q h c m k = tt
marks-set [] (d ∷ cs) q h c m k = absurd k
marks-set (g ∷ hs) [] q h c m k = absurd k
marks-set (g ∷ hs) (d ∷ cs) zero h c m k = (m, k.1)
marks-set (g ∷ hs) (d ∷ cs) (suc q) h c m k = (k.0, marks-set hs cs q h c m k.1)

pub flags-set : (hs : List ℕ) (q h : ℕ) → h ≤ 1 → Flags hs → Flags (set hs q h)
flags-set [] q h l f = tt
flags-set (g ∷ hs) zero h l f = (l, f.1)
flags-set (g ∷ hs) (suc q) h l f = (f.0, flags-set hs q h l f.1)

marked-join_linear : (q : ℕ) (c : ℤ) (m : Model) → Marked m → Marked (join_linear q c m)
marked-join_linear q c m k = record { linear = marks-set m.has_linear m.linear q 1 _ (inr refl) k.linear; rows = k.rows }

marked-join_pair : (p q : ℕ) (c : ℤ) (m : Model) → Marked m → Marked (join_pair p q c m)
marked-join_pair p q c m k =
    record { linear = k.linear; rows = flags-set (set m.has_row q 1) p 1 (omega arith) (flags-set m.has_row q 1 (omega arith) k.rows) }

pub marked-add_linear : (q : ℕ) (c : ℤ) (m : Model) → Marked m → Marked (add_linear q c m)
unfolding add_linear
marked-add_linear q c m k = go (is_zero c)
  where
    go : (b : Bool) → Marked (cond b m (join_linear q c m))
    go true = k
    go false = marked-join_linear q c m k

marked-add_pair : (p q : ℕ) (c : ℤ) (m : Model) → Marked m → Marked (add_pair p q c m)
unfolding add_pair
marked-add_pair p q c m k = go (is_zero c) (eqb p q)
  where
    go : (a b : Bool) → Marked (cond a m (cond b (join_linear p c m) (join_pair p q c m)))
    go true b = k
    go false true = marked-join_linear p c m k
    go false false = marked-join_pair p q c m k

marked-add_linears : (at : Slot → ℕ) (ps : List Place) (cs : List ℤ) (m : Model) → Marked m → Marked (add_linears at ps cs m)
marked-add_linears at [] cs m k = k
marked-add_linears at (p ∷ ps) [] m k = k
marked-add_linears at (p ∷ ps) (c ∷ cs) m k = marked-add_linears at ps cs _ (marked-add_linear (at p.fst) (halves c) m k)

marked-add_pairs : (at : Slot → ℕ) (ps : List Place) (cs : List ℤ) (m : Model) → Marked m → Marked (add_pairs at ps cs m)
marked-add_pairs at [] cs m k = k
marked-add_pairs at (p ∷ ps) [] m k = k
marked-add_pairs at (p ∷ ps) (c ∷ cs) m k = marked-add_pairs at ps cs _ (marked-add_pair (at p.fst) (at p.snd) (halves c) m k)

-- placing rows
pub marked-place_all : (rs : List Row) (m : Model) → Marked m → Marked (place_all rs m)
unfolding place_all place
marked-place_all [] m k = k
marked-place_all (r ∷ rs) m k =
    let p : Penalty = row_of r.kind in
    marked-place_all rs _
    (marked-add_pairs (wire r) twos p.pairs _
    (marked-add_linears (wire r) singles p.linear _ (record { linear = k.linear; rows = k.rows })))

marked-ends : (s : List Entry) (m : Model) → Marked m → Marked (ends s m)
unfolding ends
marked-ends [] m k = k
marked-ends (e ∷ s) m k = marked-ends s _ (marked-join_linear _ e.1 _ (marked-join_linear _ e.1 m k))

-- the Ising form
pub marked-ising : (m : Model) → Marked m → Marked (ising m)
unfolding ising
marked-ising m k = marked-ends (quarters m.pairs) (turned m) (record { linear = halved m.has_linear m.linear k.linear; rows = k.rows })
  where
    halved : (hs : List ℕ) (cs : List ℤ) → Marks hs cs → Marks hs (map half cs)
    halved [] [] k = tt
    halved [] (c ∷ cs) k = absurd k
    halved (h ∷ hs) [] k = absurd k
    halved (h ∷ hs) (c ∷ cs) k = (go k.0, halved hs cs k.1)
      where
        go : Mark h c → Mark h (half c)
        go (inl e) = inl (e.0, ap half e.1)
        go (inr e) = inr e
