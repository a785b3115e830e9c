-- A name that the numbering did not give stands nowhere in the finished model: it has no linear coefficient, no entry, no row and no pair.
-- Assumes nothing.
use Rattle.std.proofs.Common.{sym, ◌∙◌, inl, inr, arith, get_or-set_other}
use Rattle.std.specs.Prelude.{◌⊎◌, ◌≢◌, Bool, cond, ℕ, ◌≤◌, ◌<◌, eqb, ltb, ℤ, pos, ◌+ℤ◌, set}
use Rattle.std.proofs.Math.Bool.{true, false}
use mathlib.Core.List.{List, [], ◌∷◌}
use Rattle.laws.specs.Table.{get_or-same}
use Rattle.laws.specs.Test.{by_eqb}
use Rattle.units.specs.declared.Form.{Form}
use Rattle.units.specs.declared.Form.TheVariants.{Binary, Ising}
use Rattle.penalty.specs.declared.Penalty.{Penalty}
use Rattle.penalty.specs.Rows.{Slot, Place, singles, twos, row_of}
use Rattle.energy.specs.Circuit.{Constraint}
use Rattle.energy.specs.Plain.{Row, wire}
use Rattle.energy.specs.Numbering.{Named, Numbering, rows}
use Rattle.energy.specs.Model.{Entry, Model, empty, low, high, key_of, is_zero, join_linear, add, join_pair, add_pair, halves, add_linears, add_pairs, place, place_all}
use Rattle.energy.specs.Sized.{Wired, Ends, key_of-ends, sorted-wired}
use Rattle.energy.specs.Gone.{Apart, Gone, gone-join_linear, gone-add_linear}
use Rattle.energy.proofs.Gone.{gone-later, gone-ising}
use Rattle.energy.specs.Finished.{Room, fixes, model, finished, in_form}

gone-empty : (n q : ℕ) → Gone q (empty n)
gone-empty n q = record { linear = get_or-same n q (pos 0); has_linear = get_or-same n q 0; has_row = get_or-same n q 0; pairs = tt }

apart-add : (q : ℕ) (e : Entry) (s : List Entry) → low e.0 ≢ q → high e.0 ≢ q → Apart q s → Apart q (add e s)
unfolding add
apart-add q e [] l h a = (l, h, tt)
apart-add q e (f ∷ s) l h a = go (ltb e.0 f.0) (eqb e.0 f.0) (apart-add q e s l h a.2)
  where
    go : (x y : Bool) → Apart q (add e s) → Apart q (cond x (e ∷ f ∷ s) (cond y ((f.0, f.1 +ℤ e.1) ∷ s) (f ∷ add e s)))
    go true y r = (l, h, a)
    go false true r = (a.0, a.1, a.2)
    go false false r = (a.0, a.1, r)

-- the names are those below n, and q is none of them
module _ (n q : ℕ) (small : n ≤ 65536) (beyond : n ≤ q) where
  other : (p : ℕ) → p < n → p ≢ q
  other p h e = omega arith

  gone-join_pair : (p r : ℕ) (c : ℤ) (m : Model) → p ≢ r → p < n → r < n → Gone q m → Gone q (join_pair p r c m)
  gone-join_pair p r c m ne hp hr g =
      record {
        linear = g.linear;
        has_linear = g.has_linear;
        has_row =
            get_or-set_other (set m.has_row r 1) p q 1 0 (λ e. other p hp (sym e))
            ∙ get_or-set_other m.has_row r q 1 0 (λ e. other r hr (sym e))
            ∙ g.has_row;
        pairs = go (key_of-ends p r ne (omega arith) (omega arith));
      }
    where
      go : Ends p r (key_of p r) ⊎ Ends r p (key_of p r) → Apart q (add (key_of p r, c) m.pairs)
      go (inl e) = apart-add q (key_of p r, c) m.pairs (rw e.low-is (other p hp)) (rw e.high_is (other r hr)) g.pairs
      go (inr e) = apart-add q (key_of p r, c) m.pairs (rw e.low-is (other r hr)) (rw e.high_is (other p hp)) g.pairs

  gone-add_pair : (p r : ℕ) (c : ℤ) (m : Model) → p < n → r < n → Gone q m → Gone q (add_pair p r c m)
  unfolding add_pair
  gone-add_pair p r c m hp hr g = go (is_zero c)
    where
      go : (b : Bool) → Gone q (cond b m (cond (eqb p r) (join_linear p c m) (join_pair p r c m)))
      go true = g
      go false =
          by_eqb p r (λ b. Gone q (cond b (join_linear p c m) (join_pair p r c m)))
          (λ e. gone-join_linear q p c m (other p hp) g)
          (λ ne. gone-join_pair p r c m ne hp hr g)

  module _ (at : Slot → ℕ) (below : (s : Slot) → at s < n) where
    gone-add_linears : (ps : List Place) (cs : List ℤ) (m : Model) → Gone q m → Gone q (add_linears at ps cs m)
    gone-add_linears [] cs m g = g
    gone-add_linears (p ∷ ps) [] m g = g
    gone-add_linears (p ∷ ps) (c ∷ cs) m g = gone-add_linears ps cs _ (gone-add_linear q (at p.fst) (halves c) m (other (at p.fst) (below p.fst)) g)

    gone-add_pairs : (ps : List Place) (cs : List ℤ) (m : Model) → Gone q m → Gone q (add_pairs at ps cs m)
    gone-add_pairs [] cs m g = g
    gone-add_pairs (p ∷ ps) [] m g = g
    gone-add_pairs (p ∷ ps) (c ∷ cs) m g =
        gone-add_pairs ps cs _ (gone-add_pair (at p.fst) (at p.snd) (halves c) m (below p.fst) (below p.snd) g)

  -- rows at names below n do not speak of q
  gone-place_all : (rs : List Row) → Wired n rs → (m : Model) → Gone q m → Gone q (place_all rs m)
  unfolding place_all place
  gone-place_all [] w m g = g
  gone-place_all (r ∷ rs) w m g =
      let p : Penalty = row_of r.kind in
      gone-place_all rs w.1 _
      (gone-add_pairs (wire r) w.0 twos p.pairs _
      (gone-add_linears (wire r) w.0 singles p.linear _
      (record { linear = g.linear; has_linear = g.has_linear; has_row = g.has_row; pairs = g.pairs })))

-- Theorem: in the finished model, in either form, a qubit that is no name has gone.
pub beyond : (n : ℕ) (d : Named) (num : Numbering d) (room : Room n d) (cs : List Constraint) (form : Form) (q : ℕ) → d.count ≤ q → Gone q (in_form form (finished n d cs))
beyond n d num room cs form q h = go form
  where
    base : Gone q (finished n d cs)
    base =
        gone-later q (fixes d cs) (model n d)
        (gone-place_all d.count q (omega (arith, room.fits, room.names)) h (rows d) (sorted-wired d.count 2 (rows d) d.count (omega arith) num.sorted) (empty n) (gone-empty n q))

    go : (form : Form) → Gone q (in_form form (finished n d cs))
    go Binary = base
    go Ising = gone-ising q (finished n d cs) base
