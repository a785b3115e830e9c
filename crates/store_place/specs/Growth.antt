-- Laws for the callers: how far the log and the sum of all sizes grow, and what placing and settling then may ask.
-- Assumes nothing.
use Rattle.std.specs.Prelude.{Bool, true, false, cond, List, [], ◌∷◌, ◌++◌, ◌≡◌, refl, ℕ, suc, ◌+◌, ◌*◌, ◌^◌, ◌≤◌, ◌<◌, eqb, ℤ, pos, nat_abs, length, get_or}
use Rattle.std.proofs.Common.{ap, ◌∙◌, le_refl, arith, length-append, length-take}
use Rattle.penalty.specs.declared.Penalty.{Penalty}
use Rattle.penalty.specs.Rows.{Slot, Place, singles, twos, row_of}
use Rattle.energy.specs.Plain.{Row, wire}
use Rattle.energy.specs.Model.{Entry, Model, key_of, is_zero, add_offset, join_linear, add_linear, halves, add_linears, weights, sizes, mass}
use Rattle.energy.specs.Mass.{Few, few-row, either, abs-halves, mass-add_offset, mass-add_linears, mass-join_linear, sizes-add}
use Rattle.store_pairs.specs.Store.{load, canonical}
use Rattle.store.specs.declared.Totals.{Totals}
use Rattle.store.specs.Tables.{Tables, tables, model_of, hold}
use Rattle.store.specs.Held.{model-hold}
use Rattle.store_place.specs.Logged.{append_pair, log_pair, log_pairs, logged, logged_all, settled}
use Rattle.store_place.specs.Room.{filled_by, filled, filled-halves, Placing, Settling}

-- ---- placing and settling

weights-snoc : (s : List Entry) (e : Entry) → sizes (weights (s ++ e ∷ [])) ≡ sizes (weights s) + nat_abs e.1
weights-snoc [] e = omega arith
weights-snoc (f ∷ s) e = let r = weights-snoc s e in omega arith

mass-append : (p q : ℕ) (c : ℤ) (m : Model) → mass (append_pair p q c m) ≤ mass m + nat_abs c
unfolding mass
mass-append p q c m = omega (arith, weights-snoc m.pairs (key_of p q, c))

mass-log_pair : (p q : ℕ) (c : ℤ) (m : Model) → mass (log_pair p q c m) ≤ mass m + nat_abs c
unfolding log_pair
mass-log_pair p q c m =
    either (is_zero c) m _ _ (omega arith) (either (eqb p q) (join_linear p c m) (append_pair p q c m) _ (mass-join_linear p c m) (mass-append p q c m))

mass-log_pairs : (at : Slot → ℕ) (ps : List Place) (cs : List ℤ) (m : Model) → ((i : ℕ) → nat_abs (get_or cs i (pos 0)) ≤ 6)
    → mass (log_pairs at ps cs m) ≤ mass m + 12 * length ps
mass-log_pairs at [] cs m h = omega arith
mass-log_pairs at (p ∷ ps) [] m h = omega arith
mass-log_pairs at (p ∷ ps) (c ∷ cs) m h =
    omega (arith, mass-log_pairs at ps cs (log_pair (at p.fst) (at p.snd) (halves c) m) (λ i. h (suc i)), mass-log_pair (at p.fst) (at p.snd) (halves c) m, abs-halves c, h 0)

-- a penalty adds at most 264 halves to the sum of all sizes, in the log as in the model
pub mass-logged : (at : Slot → ℕ) (p : Penalty) (m : Model) → Few p → mass (logged at p m) ≤ mass m + 264
unfolding logged
mass-logged at p m f =
    let o : Model = add_offset (halves p.offset) m in
    omega (arith, mass-log_pairs at twos p.pairs (add_linears at singles p.linear o) f.pairs, mass-add_linears at singles p.linear o f.linear, mass-add_offset (halves p.offset) m, abs-halves p.offset, f.offset)

pub mass-logged_all : (rs : List Row) (m : Model) → mass (logged_all rs m) ≤ mass m + 264 * length rs
unfolding logged_all
mass-logged_all [] m = omega arith
mass-logged_all (r ∷ rs) m =
    omega (arith, mass-logged_all rs (logged (wire r) (row_of r.kind) m), mass-logged (wire r) (row_of r.kind) m (few-row r.kind))

-- settling does not make it larger
load-canonical : (s : List Entry) → load (canonical s) ≤ load s
unfolding canonical
load-canonical [] = le_refl 0
load-canonical (e ∷ s) = let r = load-canonical s in omega (arith, sizes-add e (canonical s))

pub mass-settled : (m : Model) → mass (settled m) ≤ mass m
unfolding mass
mass-settled m = omega (arith, load-canonical m.pairs)

-- the log grows by as many entries as the penalty has pairs that are not 0
log-length : (p q : ℕ) (c : ℤ) (m : Model) → length (log_pair p q c m).pairs ≤ length m.pairs + filled_by c
unfolding log_pair
log-length p q c m = go (is_zero c) (eqb p q)
  where
    go : (b e : Bool) → length (cond b m (cond e (join_linear p c m) (append_pair p q c m))).pairs ≤ length m.pairs + cond b 0 1
    go true e = omega arith
    go false true = omega arith
    go false false = omega (arith, length-append m.pairs ((key_of p q, c) ∷ []))

logs-length : (at : Slot → ℕ) (ps : List Place) (cs : List ℤ) (m : Model) → length (log_pairs at ps cs m).pairs ≤ length m.pairs + filled cs
logs-length at [] cs m = omega arith
logs-length at (p ∷ ps) [] m = omega arith
logs-length at (p ∷ ps) (c ∷ cs) m =
    omega (arith, logs-length at ps cs (log_pair (at p.fst) (at p.snd) (halves c) m), log-length (at p.fst) (at p.snd) (halves c) m, filled-halves c)

linear-pairs : (q : ℕ) (c : ℤ) (m : Model) → (add_linear q c m).pairs ≡ m.pairs
unfolding add_linear
linear-pairs q c m = go (is_zero c)
  where
    go : (b : Bool) → (cond b m (join_linear q c m)).pairs ≡ m.pairs
    go true = refl
    go false = refl

linears-pairs : (at : Slot → ℕ) (ps : List Place) (cs : List ℤ) (m : Model) → (add_linears at ps cs m).pairs ≡ m.pairs
linears-pairs at [] cs m = refl
linears-pairs at (p ∷ ps) [] m = refl
linears-pairs at (p ∷ ps) (c ∷ cs) m = linears-pairs at ps cs (add_linear (at p.fst) (halves c) m) ∙ linear-pairs (at p.fst) (halves c) m

pub logged-length : (at : Slot → ℕ) (p : Penalty) (m : Model) → length (logged at p m).pairs ≤ length m.pairs + filled p.pairs
unfolding logged
logged-length at p m =
    omega (arith, logs-length at twos p.pairs (add_linears at singles p.linear (add_offset (halves p.offset) m)), ap length (linears-pairs at singles p.linear (add_offset (halves p.offset) m)))

-- what placing and settling ask, from the bound on the sum of all sizes
pub placing : {l : List ℤ} {h r : List ℕ} (f : List ℕ) {ks : List ℕ} {ws : List ℤ} (t : Totals) (at : Slot → ℕ) (p : Penalty)
    → length h ≡ length l → length r ≡ length l → length ws ≡ length ks → ((s : Slot) → at s < length l) → Few p → t.count + filled p.pairs ≤ length ks
    → mass (model_of (tables t.offset l h r f ks ws t.count)) ≤ 2 ^ 40 → Placing l h r ks ws t at p
unfolding mass
placing f t at p lh lr even wired few room small =
    record { present = lh; rows = lr; even = even; wired = wired; few = few; room = room; offset = omega arith; small = omega arith }

pub settling : (l : List ℤ) (h r f : List ℕ) {ks : List ℕ} {ws : List ℤ} {sk : List ℕ} {sw : List ℤ} (t : Totals)
    → length ws ≡ length ks → length sk ≡ length ks → length sw ≡ length ks → t.count ≤ length ks
    → mass (model_of (tables t.offset l h r f ks ws t.count)) ≤ 2 ^ 40 → Settling ks ws sk sw t
unfolding mass
settling l h r f t even lk lw used small =
    record { even = even; scratch-keys = lk; scratch-weights = lw; used = used; small = omega arith }

-- one step of placing, on the tables: as many entries more as the penalty has pairs, and at most 264 halves
module _ (at : Slot → ℕ) (p : Penalty) (t u : Tables) (e : u ≡ hold (logged at p (model_of t)) t) where
  pub placed-model : model_of u ≡ logged at p (model_of t)
  placed-model = ap model_of e ∙ model-hold (logged at p (model_of t)) t

  pub placed-count : u.count ≤ t.count + filled p.pairs
  placed-count =
      omega (arith, ap (λ (x : Tables). x.count) e, logged-length at p (model_of t), length-take t.count t.entries)

  pub placed-mass : Few p → mass (model_of u) ≤ mass (model_of t) + 264
  placed-mass few = omega (arith, ap mass placed-model, mass-logged at p (model_of t) few)

-- and one step of settling
module _ (t u : Tables) (e : u ≡ hold (settled (model_of t)) t) where
  pub settled-model : model_of u ≡ settled (model_of t)
  settled-model = ap model_of e ∙ model-hold (settled (model_of t)) t

  pub settled-mass : mass (model_of u) ≤ mass (model_of t)
  settled-mass = omega (arith, ap mass settled-model, mass-settled (model_of t))
