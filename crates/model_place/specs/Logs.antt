-- Rows in a log: how many pairs they add, how large the numbers get, and that the tables keep their lengths.
-- Assumes nothing.
use Rattle.std.specs.Prelude.{◌≡◌, refl, Bool, true, false, cond, List, [], ◌∷◌, ◌++◌, ℕ, zero, suc, ◌+◌, ◌*◌, ◌≤◌, eqb, ℤ, pos, negsuc, nat_abs, length, get_or}
use Rattle.std.proofs.Common.{sym, ap, ◌∙◌, arith, length-append, ne_eqb}
use Rattle.penalty.specs.declared.Penalty.{Penalty}
use Rattle.penalty.specs.Rows.{Slot, Place, singles, twos, row_of}
use Rattle.energy.specs.Plain.{Row, wire}
use Rattle.energy.specs.Circuit.{Circuit, Node, fixed, free, op, carry_of, nodes_of}
use Rattle.energy.specs.Model.{Entry, Model, empty, is_zero, key_of, add_offset, join_linear, halves, add_linears, place_all, weights, sizes, mass}
use Rattle.energy.specs.Fixing.{add_linear-pairs}
use Rattle.energy.specs.Sized.{Wired, sized-empty, sized-place_all}
use Rattle.energy.specs.Mass.{Few, few-row, mass-add_offset, mass-join_linear, mass-add_linears, abs-halves}
use Rattle.numbering.specs.State.{State, origin, role}
use Rattle.numbering.specs.Numbered.{gate_row, join_row, rows_from}
use Rattle.numbering.specs.Numbered as numbering
use Rattle.store_pairs.specs.Store.{canonical}
use Rattle.store_place.specs.Logged.{append_pair, log_pair, log_pairs, logged, logged_all, settled, settled-logged_all}
use Rattle.store_place.specs.Room.{filled_by, filled}
use Rattle.model_place.specs.Few.{total}

-- how many pairs a row adds at most
abbrev pub filled_of_row : Row → ℕ
filled_of_row r = filled (row_of r.kind).pairs

-- ---- how many pairs

filled-halves : (c : ℤ) → filled_by (halves c) ≡ filled_by c
filled-halves (pos zero) = refl
filled-halves (pos (suc n)) = ap (λ (b : Bool). cond b 0 1) (ne_eqb (suc n + suc n) 0 (λ e. omega arith) ∙ sym (ne_eqb (suc n) 0 (λ e. omega arith)))
filled-halves (negsuc n) = refl

pair-count : (p q : ℕ) (c : ℤ) (m : Model) → length (log_pair p q c m).pairs ≤ length m.pairs + filled_by c
unfolding log_pair
pair-count p q c m = go (is_zero c) (eqb p q)
  where
    go : (b e : Bool) → length (cond b m (cond e (join_linear p c m) (append_pair p q c m))).pairs ≤ length m.pairs + cond b 0 1
    go true e = omega arith
    go false true = omega arith
    go false false = omega (arith, length-append m.pairs ((key_of p q, c) ∷ []))

pairs-count : (at : Slot → ℕ) (ps : List Place) (cs : List ℤ) (m : Model) → length (log_pairs at ps cs m).pairs ≤ length m.pairs + filled cs
pairs-count at [] cs m = omega arith
pairs-count at (p ∷ ps) [] m = omega arith
pairs-count at (p ∷ ps) (c ∷ cs) m =
    omega (
      arith,
      pairs-count at ps cs (log_pair (at p.fst) (at p.snd) (halves c) m),
      pair-count (at p.fst) (at p.snd) (halves c) m,
      filled-halves c,
    )

linears-pairs : (at : Slot → ℕ) (ps : List Place) (cs : List ℤ) (m : Model) → (add_linears at ps cs m).pairs ≡ m.pairs
linears-pairs at [] cs m = refl
linears-pairs at (p ∷ ps) [] m = refl
linears-pairs at (p ∷ ps) (c ∷ cs) m = linears-pairs at ps cs _ ∙ add_linear-pairs (at p.fst) (halves c) m

pub logged-count : (at : Slot → ℕ) (p : Penalty) (m : Model) → length (logged at p m).pairs ≤ length m.pairs + filled p.pairs
unfolding logged
logged-count at p m =
    omega (
      arith,
      pairs-count at twos p.pairs (add_linears at singles p.linear (add_offset (halves p.offset) m)),
      ap length (linears-pairs at singles p.linear (add_offset (halves p.offset) m)),
    )

pub logged_all-count : (rs : List Row) (m : Model) → length (logged_all rs m).pairs ≤ length m.pairs + total filled_of_row rs
unfolding logged_all
logged_all-count [] m = omega arith
logged_all-count (r ∷ rs) m =
    omega (arith, logged_all-count rs (logged (wire r) (row_of r.kind) m), logged-count (wire r) (row_of r.kind) m)

-- ---- how large the numbers get

sizes-snoc : (s : List Entry) (e : Entry) → sizes (weights (s ++ e ∷ [])) ≡ sizes (weights s) + nat_abs e.1
sizes-snoc [] e = omega arith
sizes-snoc (f ∷ s) e = omega (arith, sizes-snoc s e)

mass-append : (p q : ℕ) (c : ℤ) (m : Model) → mass (append_pair p q c m) ≤ mass m + nat_abs c
unfolding mass
mass-append p q c m = omega (arith, sizes-snoc m.pairs (key_of p q, c))

mass-pair : (p q : ℕ) (c : ℤ) (m : Model) → mass (log_pair p q c m) ≤ mass m + nat_abs c
unfolding log_pair
mass-pair p q c m = go (is_zero c) (eqb p q)
  where
    go : (b e : Bool) → mass (cond b m (cond e (join_linear p c m) (append_pair p q c m))) ≤ mass m + nat_abs c
    go true e = omega arith
    go false true = mass-join_linear p c m
    go false false = mass-append p q c m

mass-pairs : (at : Slot → ℕ) (ps : List Place) (cs : List ℤ) (m : Model) → ((i : ℕ) → nat_abs (get_or cs i (pos 0)) ≤ 6)
    → mass (log_pairs at ps cs m) ≤ mass m + 12 * length ps
mass-pairs at [] cs m h = omega arith
mass-pairs at (p ∷ ps) [] m h = omega arith
mass-pairs at (p ∷ ps) (c ∷ cs) m h =
    omega (arith, mass-pairs at ps cs (log_pair (at p.fst) (at p.snd) (halves c) m) (λ i. h (suc i)), mass-pair (at p.fst) (at p.snd) (halves c) m, abs-halves c, h 0)

pub mass-logged : (at : Slot → ℕ) (p : Penalty) (m : Model) → Few p → mass (logged at p m) ≤ mass m + 264
unfolding logged
mass-logged at p m f =
    let o : Model = add_offset (halves p.offset) m in
    omega (arith, mass-pairs at twos p.pairs (add_linears at singles p.linear o) f.pairs, mass-add_linears at singles p.linear o f.linear, mass-add_offset (halves p.offset) m, abs-halves p.offset, f.offset)

pub mass-logged_all : (rs : List Row) (m : Model) → mass (logged_all rs m) ≤ mass m + 264 * length rs
unfolding logged_all
mass-logged_all [] m = omega arith
mass-logged_all (r ∷ rs) m =
    omega (arith, mass-logged_all rs (logged (wire r) (row_of r.kind) m), mass-logged (wire r) (row_of r.kind) m (few-row r.kind))

-- ---- one row more

pub logged_all-append : (rs ts : List Row) (m : Model) → logged_all (rs ++ ts) m ≡ logged_all ts (logged_all rs m)
unfolding logged_all
logged_all-append [] ts m = refl
logged_all-append (r ∷ rs) ts m = logged_all-append rs ts (logged (wire r) (row_of r.kind) m)

pub wired-left : (n : ℕ) (rs ts : List Row) → Wired n (rs ++ ts) → Wired n rs
wired-left n [] ts w = tt
wired-left n (r ∷ rs) ts w = (w.0, wired-left n rs ts w.1)

pub wired-right : (n : ℕ) (rs ts : List Row) → Wired n (rs ++ ts) → Wired n ts
wired-right n [] ts w = w
wired-right n (r ∷ rs) ts w = wired-right n rs ts w.1

-- ---- lengths

pub record Long (n : ℕ) (m : Model) : Type 0 where
  pub linear : length m.linear ≡ n
  pub has_linear : length m.has_linear ≡ n
  pub has_row : length m.has_row ≡ n

pub long-logged : (n : ℕ) (rs : List Row) → n ≤ 65536 → Wired n rs → Long n (logged_all rs (empty n))
unfolding canonical
long-logged n rs small w =
    let s = sized-place_all n rs w (empty n) (sized-empty n small) in
    let e : settled (logged_all rs (empty n)) ≡ place_all rs (empty n) = settled-logged_all rs (empty n) in
    record {
      linear = ap (λ (m : Model). length m.linear) e ∙ s.linear;
      has_linear = ap (λ (m : Model). length m.has_linear) e ∙ s.has_linear;
      has_row = ap (λ (m : Model). length m.has_row) e ∙ s.has_row;
    }

-- ---- a name has at most one row

pub one-row : (c : Circuit) (s : State) (q : ℕ) → length (numbering.row_of c s q) ≤ 1
one-row c s q = go (eqb (role s q) 1) (eqb (role s q) 4)
  where
    single : (d : Node) → length (gate_row s q d) ≤ 1
    single (fixed b) = omega arith
    single (free src) = omega arith
    single (op k x y z) = omega arith
    single (carry_of a) = omega arith

    go : (b e : Bool) → length (cond b (gate_row s q (nodes_of c.gates (origin s q))) (cond e (join_row c s q (origin s q) ∷ []) [])) ≤ 1
    go true e = single (nodes_of c.gates (origin s q))
    go false true = omega arith
    go false false = omega arith

pub rows-names : (c : Circuit) (s : State) (m q : ℕ) → length (rows_from c s q m) ≤ m
unfolding rows_from
rows-names c s zero q = omega arith
rows-names c s (suc m) q = omega (arith, length-append (numbering.row_of c s q) (rows_from c s (suc q) m), one-row c s q, rows-names c s m (suc q))
