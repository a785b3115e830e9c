-- Every coefficient of a model that rows build, fixed or not, is a multiple of 4 halves: so the halves and quarters of the Ising form are exact.
-- The theorems that an edit of a definition breaks are in proofs/Fours.antt.
-- Assumes nothing.
use Rattle.std.specs.Prelude.{◌≡◌, Bool, true, false, cond, List, [], ◌∷◌, ℕ, zero, suc, eqb, ltb, ℤ, pos, ◌+ℤ◌, get_or, set}
use Rattle.laws.specs.Half.{Even, Fourfold, four, even-half, fourfold-add, fourfold-even, fourfold-quarter, fourfold-zero, even-twice}
use Rattle.penalty.specs.declared.Penalty.{Penalty}
use Rattle.penalty.specs.Rows.{Slot, Place, singles, twos, row_of}
use Rattle.penalty.proofs.Small.{offset-small, linear-small, pairs_small}
use Rattle.energy.specs.Plain.{Row, wire}
use Rattle.energy.specs.Model.{Entry, Model, key_of, is_zero, join_linear, add, join_pair, add_linear, add_pair, halves, add_linears, add_pairs, place, place_all, half, quarter, weights}

-- ---- every coefficient is a multiple of 4 halves

-- each number of a list is a multiple of 4
abbrev pub AllFours : List ℤ → Type 0
AllFours [] = Unit {0}
AllFours (c ∷ cs) = Fourfold c × AllFours cs

-- each number of the model is
pub record Fours (m : Model) : Type 0 where
  pub offset : Fourfold m.offset
  pub linear : AllFours m.linear
  pub pairs : AllFours (weights m.pairs)

-- also where the list has no entry
pub fours-at : (cs : List ℤ) → AllFours cs → (i : ℕ) → Fourfold (get_or cs i (pos 0))
fours-at [] f i = fourfold-zero
fours-at (c ∷ cs) f zero = f.0
fours-at (c ∷ cs) f (suc i) = fours-at cs f.1 i

pub fours-set : (cs : List ℤ) → AllFours cs → (i : ℕ) (c : ℤ) → Fourfold c → AllFours (set cs i c)
fours-set [] f i c h = tt
fours-set (d ∷ cs) f zero c h = (h, f.1)
fours-set (d ∷ cs) f (suc i) c h = (f.0, fours-set cs f.1 i c h)

fours-add : (e : Entry) (s : List Entry) → Fourfold e.1 → AllFours (weights s) → AllFours (weights (add e s))
unfolding add
fours-add e [] h f = (h, tt)
fours-add e (g ∷ s) h f = go (ltb e.0 g.0) (eqb e.0 g.0) (fours-add e s h f.1)
  where
    go : (a b : Bool) → AllFours (weights (add e s)) → AllFours (weights (cond a (e ∷ g ∷ s) (cond b ((g.0, g.1 +ℤ e.1) ∷ s) (g ∷ add e s))))
    go true b r = (h, f)
    go false true r = (fourfold-add g.1 e.1 f.0 h, f.1)
    go false false r = (f.0, r)

fours-join_linear : (q : ℕ) (c : ℤ) (m : Model) → Fourfold c → Fours m → Fours (join_linear q c m)
fours-join_linear q c m h f =
    record {
      offset = f.offset;
      linear = fours-set m.linear f.linear q _ (fourfold-add (get_or m.linear q (pos 0)) c (fours-at m.linear f.linear q) h);
      pairs = f.pairs;
    }

pub fours-add_linear : (q : ℕ) (c : ℤ) (m : Model) → Fourfold c → Fours m → Fours (add_linear q c m)
unfolding add_linear
fours-add_linear q c m h f = go (is_zero c)
  where
    go : (b : Bool) → Fours (cond b m (join_linear q c m))
    go true = f
    go false = fours-join_linear q c m h f

fours-add_pair : (p q : ℕ) (c : ℤ) (m : Model) → Fourfold c → Fours m → Fours (add_pair p q c m)
unfolding add_pair
fours-add_pair p q c m h f = go (is_zero c) (eqb p q)
  where
    go : (a b : Bool) → Fours (cond a m (cond b (join_linear p c m) (join_pair p q c m)))
    go true b = f
    go false true = fours-join_linear p c m h f
    go false false = record { offset = f.offset; linear = f.linear; pairs = fours-add (key_of p q, c) m.pairs h f.pairs }

-- a penalty's coefficients are even, so in halves they are multiples of 4
abbrev Evens : List ℤ → Type 0
Evens cs = (i : ℕ) → Even (get_or cs i (pos 0))

fours-add_linears : (at : Slot → ℕ) (ps : List Place) (cs : List ℤ) (m : Model) → Evens cs → Fours m → Fours (add_linears at ps cs m)
fours-add_linears at [] cs m e f = f
fours-add_linears at (p ∷ ps) [] m e f = f
fours-add_linears at (p ∷ ps) (c ∷ cs) m e f =
    fours-add_linears at ps cs _ (λ i. e (suc i)) (fours-add_linear (at p.fst) (halves c) m (even-twice c (e 0)) f)

fours-add_pairs : (at : Slot → ℕ) (ps : List Place) (cs : List ℤ) (m : Model) → Evens cs → Fours m → Fours (add_pairs at ps cs m)
fours-add_pairs at [] cs m e f = f
fours-add_pairs at (p ∷ ps) [] m e f = f
fours-add_pairs at (p ∷ ps) (c ∷ cs) m e f =
    fours-add_pairs at ps cs _ (λ i. e (suc i)) (fours-add_pair (at p.fst) (at p.snd) (halves c) m (even-twice c (e 0)) f)

-- rows add multiples of 4 halves
pub fours-place_all : (rs : List Row) (m : Model) → Fours m → Fours (place_all rs m)
unfolding place_all place
fours-place_all [] m f = f
fours-place_all (r ∷ rs) m f =
    let p : Penalty = row_of r.kind in
    fours-place_all rs _
    (fours-add_pairs (wire r) twos p.pairs _ (λ i. (pairs_small r.kind i).even)
    (fours-add_linears (wire r) singles p.linear _ (λ i. (linear-small r.kind i).even)
    (record {
      offset = fourfold-add m.offset (halves p.offset) f.offset (even-twice p.offset (offset-small r.kind).even);
      linear = f.linear;
      pairs = f.pairs;
    })))

-- so the half of a linear entry is exact
pub half-exact : (m : Model) → Fours m → (q : ℕ) → half (get_or m.linear q (pos 0)) +ℤ half (get_or m.linear q (pos 0)) ≡ get_or m.linear q (pos 0)
half-exact m f q = let c : ℤ = get_or m.linear q (pos 0) in even-half c (fourfold-even c (fours-at m.linear f.linear q))

-- and so is the quarter of a pair
pub quarter-exact : (m : Model) → Fours m → (i : ℕ) → four (quarter (get_or (weights m.pairs) i (pos 0))) ≡ get_or (weights m.pairs) i (pos 0)
quarter-exact m f i = fourfold-quarter (get_or (weights m.pairs) i (pos 0)) (fours-at (weights m.pairs) f.pairs i)
