-- Placing with a log: as `place` of the model, but a pair goes to the end of the log, where it costs the same whatever stands there already.
-- `settled` makes the model's pairs from the log, and `settled-logged` says that the two ways meet.
-- Assumes nothing.
use Rattle.std.specs.Prelude.{Bool, true, false, cond, List, [], ◌∷◌, ◌++◌, ◌≡◌, refl, ℕ, eqb, ℤ, set}
use Rattle.std.proofs.Common.{ap, ◌∙◌}
use Rattle.penalty.specs.declared.Penalty.{Penalty}
use Rattle.penalty.specs.Rows.{Slot, Place, singles, twos, row_of}
use Rattle.energy.specs.Plain.{Row, wire}
use Rattle.energy.specs.Model.{Entry, Model, key_of, is_zero, add_offset, join_linear, join_pair, add_linear, add_pair, halves, add_linears, add_pairs, place, place_all}
use Rattle.store_pairs.specs.Store.{canonical}
use Rattle.store_pairs.specs.Laws.{canonical-snoc}

-- the pair's number goes to the log's end; both qubits have a row
abbrev pub append_pair : ℕ → ℕ → ℤ → Model → Model
append_pair p q c m =
    record {
      offset = m.offset;
      linear = m.linear;
      has_linear = m.has_linear;
      has_row = set (set m.has_row q 1) p 1;
      fixed = m.fixed;
      pairs = m.pairs ++ (key_of p q, c) ∷ [];
    }

-- "Adding 0 makes no entry. A pair of equal qubits joins the linear entry."
unfoldable pub log_pair : ℕ → ℕ → ℤ → Model → Model
log_pair p q c m = cond (is_zero c) m (cond (eqb p q) (join_linear p c m) (append_pair p q c m))

abbrev pub log_pairs : (Slot → ℕ) → List Place → List ℤ → Model → Model
log_pairs at [] cs m = m
log_pairs at (p ∷ ps) [] m = m
log_pairs at (p ∷ ps) (c ∷ cs) m = log_pairs at ps cs (log_pair (at p.fst) (at p.snd) (halves c) m)

unfoldable pub logged : (Slot → ℕ) → Penalty → Model → Model
logged at p m = log_pairs at twos p.pairs (add_linears at singles p.linear (add_offset (halves p.offset) m))

-- rows in turn
unfoldable pub logged_all : List Row → Model → Model
logged_all [] m = m
logged_all (r ∷ rs) m = logged_all rs (logged (wire r) (row_of r.kind) m)

-- the model that a log makes
abbrev pub settled : Model → Model
settled m =
    record { offset = m.offset; linear = m.linear; has_linear = m.has_linear; has_row = m.has_row; fixed = m.fixed; pairs = canonical m.pairs }

-- ---- the two ways meet

settled-add_linear : (q : ℕ) (c : ℤ) (m : Model) → settled (add_linear q c m) ≡ add_linear q c (settled m)
unfolding add_linear
settled-add_linear q c m = go (is_zero c)
  where
    go : (b : Bool) → settled (cond b m (join_linear q c m)) ≡ cond b (settled m) (join_linear q c (settled m))
    go true = refl
    go false = refl

settled-append : (p q : ℕ) (c : ℤ) (m : Model) → settled (append_pair p q c m) ≡ join_pair p q c (settled m)
settled-append p q c m = ap with-pairs (canonical-snoc m.pairs (key_of p q, c))
  where
    with-pairs : List Entry → Model
    with-pairs s =
        record { offset = m.offset; linear = m.linear; has_linear = m.has_linear; has_row = set (set m.has_row q 1) p 1; fixed = m.fixed; pairs = s }

settled-log_pair : (p q : ℕ) (c : ℤ) (m : Model) → settled (log_pair p q c m) ≡ add_pair p q c (settled m)
unfolding log_pair add_pair
settled-log_pair p q c m = go (is_zero c) (eqb p q)
  where
    go : (b e : Bool)
        → settled (cond b m (cond e (join_linear p c m) (append_pair p q c m))) ≡ cond b (settled m) (cond e (join_linear p c (settled m)) (join_pair p q c (settled m)))
    go true e = refl
    go false true = refl
    go false false = settled-append p q c m

settled-add_linears : (at : Slot → ℕ) (ps : List Place) (cs : List ℤ) (m : Model) → settled (add_linears at ps cs m) ≡ add_linears at ps cs (settled m)
settled-add_linears at [] cs m = refl
settled-add_linears at (p ∷ ps) [] m = refl
settled-add_linears at (p ∷ ps) (c ∷ cs) m =
    settled-add_linears at ps cs (add_linear (at p.fst) (halves c) m) ∙ ap (add_linears at ps cs) (settled-add_linear (at p.fst) (halves c) m)

settled-log_pairs : (at : Slot → ℕ) (ps : List Place) (cs : List ℤ) (m : Model) → settled (log_pairs at ps cs m) ≡ add_pairs at ps cs (settled m)
settled-log_pairs at [] cs m = refl
settled-log_pairs at (p ∷ ps) [] m = refl
settled-log_pairs at (p ∷ ps) (c ∷ cs) m =
    settled-log_pairs at ps cs (log_pair (at p.fst) (at p.snd) (halves c) m)
    ∙ ap (add_pairs at ps cs) (settled-log_pair (at p.fst) (at p.snd) (halves c) m)

-- Theorem: a penalty that is placed with a log is, once the log is settled, placed in the model.
pub settled-logged : (at : Slot → ℕ) (p : Penalty) (m : Model) → settled (logged at p m) ≡ place at p (settled m)
unfolding logged place
settled-logged at p m =
    settled-log_pairs at twos p.pairs (add_linears at singles p.linear (add_offset (halves p.offset) m))
    ∙ ap (add_pairs at twos p.pairs) (settled-add_linears at singles p.linear (add_offset (halves p.offset) m))

-- and so are rows in turn
pub settled-logged_all : (rs : List Row) (m : Model) → settled (logged_all rs m) ≡ place_all rs (settled m)
unfolding logged_all place_all
settled-logged_all [] m = refl
settled-logged_all (r ∷ rs) m =
    settled-logged_all rs (logged (wire r) (row_of r.kind) m) ∙ ap (place_all rs) (settled-logged (wire r) (row_of r.kind) m)
