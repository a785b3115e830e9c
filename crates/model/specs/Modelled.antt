-- The whole model: how each step's tables are the next step's, from blank tables to the finished model.
-- Assumes nothing.
use Rattle.std.specs.Prelude.{◌≡◌, Result, Ok, Err, Bool, true, false, cond, ℕ, suc, ◌+◌, ◌-◌, ◌^◌, ◌≤◌, ◌<◌, eqb, ltb, ℤ, ◌+ℤ◌, get_or, replicate}
use Rattle.std.proofs.Math.Path.{refl, ap}
use Rattle.std.proofs.Common.{sym, ◌∙◌, subst}
use mathlib.Core.List.{List, [], ◌∷◌, map}
use native.Mathlib.Omega.{arith}
use Rattle.std.proofs.Math.ListN.{length}
use Rattle.std.proofs.lemmas.List.{length-map}
use Rattle.units.specs.declared.Form.{Form}
use Rattle.units.specs.declared.Form.TheVariants.{Binary, Ising}
use Rattle.energy.specs.Circuit.{Circuit, Constraint}
use Rattle.energy.specs.Model as energy
use Rattle.energy.specs.Model.{Entry, Model, Sized, empty, add, quarters, ends, ising, variables, weights, mass}
use Rattle.energy.specs.Mass.{mass-place_all, mass-empty}
use Rattle.energy.specs.Fixing.{Fixes, fix_all, placed-fixed}
use Rattle.energy.proofs.Fixing.{sized-fix_all}
use Rattle.energy.specs.Clash.{none, at, clash}
use Rattle.energy.specs.Sized.{turned}
use Rattle.energy.specs.Finished.{in_form, sized-model}
use Rattle.energy.proofs.Finished.{fixes-within}
use Rattle.circuit.specs.File.{field}
use Rattle.circuit.specs.Meaning.{circuit_of}
use Rattle.circuit.specs.Count.{get_d_of}
use Rattle.numbering.specs.State.{State, names_of}
use Rattle.numbering.specs.Numbered.{bad_gates, rows_from, rows_of, named_of}
use Rattle.numbering.specs.Finished.{numbering, constraints-in}
use Rattle.store_pairs.specs.Store.{load, canonical}
use Rattle.store.specs.declared.Totals.{Totals}
use Rattle.store.specs.Tables.{Tables, tables, model_of, hold, Ready}
use Rattle.store_place.specs.Logged.{logged_all, settled, settled-logged_all}
use Rattle.store_place.specs.Room.{Settleable}
use Rattle.store_ising.specs.Turning.{Turning, turning}
use Rattle.model_finish.specs.declared.Counted.{Counted}
use Rattle.model_fixes.specs.declared.Clash.{Clash}
use Rattle.model_fixes.specs.Order.{fixes_of}
use Rattle.model.specs.Steps.{placed_of, finished_of}
use Rattle.model.specs.Demand.{fixes-are, placed-is, known_of}
use Rattle.model_rows.specs.Laid.{Good, no_constraint}
use Rattle.model_rows.specs.Rowed.{Has, has, fin, bad-has, have-past}
use Rattle.store.specs.Full.{full, model-full, step-full}
use Rattle.model_place.specs.Logs.{rows-names}
use Rattle.model_place.specs.Blank.{pairs_of, Logged, names-small, mass-to, count-to}
use Rattle.model_fixes.specs.Fixing.{Holds, Fixable, Reading, fixes_by, fixes-by, fix_all-length, fix_all-mass}

-- ---- how the whole ends

-- the finished model in the tables, with the variable count; or the qubit that is to be fixed to two values
abbrev pub ModelledAs : Form → Circuit → State → Result Counted Clash → List ℤ → List ℕ → List ℕ → List ℕ → List ℕ → List ℤ → Type 0
ModelledAs form c s (Ok x) l h r f ks ws =
    (clash (fixes_of c s) ≡ none) × Holds (pairs_of c) (finished_of form c s) x.totals l h r f ks ws × (x.variables ≡ variables (finished_of form c s))
ModelledAs form c s (Err e) l h r f ks ws = clash (fixes_of c s) ≡ at e.0.0

-- ---- settling

add-length : (e : Entry) (s : List Entry) → length (add e s) ≤ suc (length s)
unfolding add
add-length e [] = omega arith
add-length e (f ∷ s) = go (ltb e.0 f.0) (eqb e.0 f.0) (add-length e s)
  where
    go : (x y : Bool) → length (add e s) ≤ suc (length s) → length (cond x (e ∷ f ∷ s) (cond y ((f.0, f.1 +ℤ e.1) ∷ s) (f ∷ add e s))) ≤ suc (suc (length s))
    go true y h = omega arith
    go false true h = omega arith
    go false false h = omega arith

canonical-length : (l : List Entry) → length (canonical l) ≤ length l
unfolding canonical
canonical-length [] = omega arith
canonical-length (e ∷ l) = omega (arith, add-length e (canonical l), canonical-length l)

load-mass : (m : Model) → load m.pairs ≤ mass m
unfolding mass
load-mass m = omega arith

module _ (b : List ℕ) (bads constraints : ℕ) (s : State) (good : Good b bads constraints s) where
  abbrev c : Circuit
  c = circuit_of b

  abbrev n : ℕ
  n = names_of c

  abbrev K : ℕ
  K = pairs_of c

  pub pairs-most : K ≤ 10192
  pairs-most = omega (arith, good.gates-few, good.bads-few)

  log : Model
  log = logged_all (rows_from c s 2 (s.next - 2)) (empty n)

  log-room : length (logged_all (rows_from c s 2 (s.next - 2)) (empty n)).pairs ≤ K
  log-room = count-to b bads constraints s good s.next (omega (arith, (fin b bads constraints s good).first, (fin b bads constraints s good).last)) (omega arith)

  settled_is : settled (logged_all (rows_from c s 2 (s.next - 2)) (empty n)) ≡ placed_of c s
  unfolding placed_of rows_of canonical
  settled_is = settled-logged_all (rows_from c s 2 (s.next - 2)) (empty n)

  pub placed-room : length (placed_of c s).pairs ≤ K
  placed-room = omega (arith, ap (λ (m : Model). length m.pairs) settled_is, canonical-length (logged_all (rows_from c s 2 (s.next - 2)) (empty n)).pairs, log-room)

  module _ {t : Totals} {l : List ℤ} {h r ks : List ℕ} {ws : List ℤ} (logs : Logged c s s.next t l h r ks ws) where
    pub settleable : Settleable ks ws t
    settleable =
        let e : model_of (tables t.offset l h r (replicate n 0) ks ws t.count) ≡ logged_all (rows_from c s 2 (s.next - 2)) (empty n) =
        ap model_of logs.is ∙ model-full K (logged_all (rows_from c s 2 (s.next - 2)) (empty n)) in
        record {
          even = logs.weights ∙ sym logs.keys;
          most = omega (arith, logs.keys, pairs-most);
          used = omega (arith, logs.keys, log-room, ap (λ (x : Tables). x.count) logs.is);
          small = omega (arith, ap (λ (m : Model). load m.pairs) e, load-mass (logged_all (rows_from c s 2 (s.next - 2)) (empty n)), mass-to b bads constraints s good s.next (omega arith));
        }

    pub settles : {u : Totals} {ks' : List ℕ} {ws' : List ℤ} → length ks' ≡ length ks → length ws' ≡ length ws
        → ((l : List ℤ) (h r f : List ℕ) → tables u.offset l h r f ks' ws' u.count ≡ hold (settled (model_of (tables t.offset l h r f ks ws t.count))) (tables t.offset l h r f ks ws t.count))
        → Holds K (placed_of c s) u l h r (replicate n 0) ks' ws'
    settles lk lw step =
        record {
          keys = lk ∙ logs.keys;
          weights = lw ∙ logs.weights;
          is =
              step-full K (logged_all (rows_from c s 2 (s.next - 2)) (empty n)) settled logs.is (step l h r (replicate n 0)) log-room
              (omega (arith, canonical-length (logged_all (rows_from c s 2 (s.next - 2)) (empty n)).pairs, log-room))
              ∙ ap (full K) settled_is;
        }

  -- ---- fixing

  sized-placed : Sized n (placed_of c s)
  sized-placed =
      let f = fin b bads constraints s good in
      rw (placed-is c good.formed s good.is)
      (sized-model n (named_of c s) (numbering c good.formed s f) (record { fits = f.at_most; names = omega (arith, names-small b bads constraints s good) }))

  mass-placed : mass (placed_of c s) ≤ 2 ^ 40
  unfolding placed_of rows_of
  mass-placed =
      omega (
        arith,
        mass-place_all (rows_from c s 2 (s.next - 2)) (empty n),
        mass-empty n,
        rows-names c s (s.next - 2) 2,
        (fin b bads constraints s good).at_most,
        names-small b bads constraints s good,
      )

  unfixed : (q : ℕ) → get_or (placed_of c s).fixed q 0 ≡ 0
  unfolding placed_of
  unfixed q = placed-fixed n (rows_of c s) q

  fixable : Fixable n K (fixes_of c s) (placed_of c s)
  fixable =
      let f = fin b bads constraints s good in
      record {
        within =
            rw (fixes-are c good.formed s good.is)
            (fixes-within n (named_of c s) (numbering c good.formed s f) (record { fits = f.at_most; names = omega (arith, names-small b bads constraints s good) }) c.constraints
            (known_of (named_of c s).reached c.constraints (constraints-in c good.formed s f)));
        sized = sized-placed;
        small = mass-placed;
        room = placed-room;
        unfixed = unfixed;
      }

  zero_more : bads + 0 ≡ bads
  zero_more = omega arith

  -- a constraint's gate has a qubit
  constraint-has : (k : ℕ) → k < length c.constraints → Has b s.qubits (constraints + k) 0
  constraint-has k h =
      let g : get_or (map (λ (x : Constraint). x.gate) c.constraints) k 0 ≡ field b (constraints + k) 0 =
      get_d_of (λ (x : Constraint). x.gate) c.constraints k no_constraint 0 h ∙ ap (λ (x : Constraint). x.gate) (good.laid.constraint-is k h) in
      has b s.qubits (constraints + k) 0 (good.laid.constraint-whole k h) (omega arith)
      (rw g at (have-past s (bad_gates c) (map (λ (x : Constraint). x.gate) c.constraints) k (fin b bads constraints s good).reached (omega (arith, length-map c.constraints (λ (x : Constraint). x.gate)))))

  pub reading : {states count : ℕ} → states ≡ length c.bads → count ≡ length c.constraints → Reading b bads constraints s.qubits s.next states count
  reading {states} {count} e f =
      let some = good.formed.some in
      record {
        states-are = e;
        count-is = f;
        small = omega (arith, good.constraints-few);
        first = rw zero_more at (bad-has b bads constraints s good 0 (omega arith));
        first-is = good.laid.bad-is 0 (omega arith) ∙ ap (λ (i : ℕ). field b i 0) zero_more;
        high = omega (arith, (fin b bads constraints s good).first, (fin b bads constraints s good).last);
        has = λ k h. constraint-has k (omega arith);
        is = λ k h. good.laid.constraint-is k (omega arith);
      }

  fixes-same : fixes_by b s.qubits s.next ≡ fixes_of c s
  fixes-same = fixes-by b s.qubits s.origins s.roles s.next

  module _ {t : Totals} {l : List ℤ} {h r f ks : List ℕ} {ws : List ℤ} (holds : Holds K (placed_of c s) t l h r f ks ws) where
    model-same : model_of (tables t.offset l h r f ks ws t.count) ≡ placed_of c s
    model-same = ap model_of holds.is ∙ model-full K (placed_of c s)

    linear-same : length l ≡ n
    linear-same = ap (λ (x : Tables). length x.linear) holds.is ∙ sized-placed.linear

    pub to-fix : Fixable (length l) (length ks) (fixes_by b s.qubits s.next) (model_of (tables t.offset l h r f ks ws t.count))
        × Holds (length ks) (model_of (tables t.offset l h r f ks ws t.count)) t l h r f ks ws
    to-fix = (
      subst (λ (x : ℕ). Fixable x (length ks) (fixes_by b s.qubits s.next) (model_of (tables t.offset l h r f ks ws t.count))) (sym linear-same)
          (subst (λ (x : ℕ). Fixable n x (fixes_by b s.qubits s.next) (model_of (tables t.offset l h r f ks ws t.count))) (sym holds.keys)
          (subst (λ (x : Fixes). Fixable n K x (model_of (tables t.offset l h r f ks ws t.count))) (sym fixes-same)
          (subst (λ (x : Model). Fixable n K (fixes_of c s) x) (sym model-same) fixable))),
      subst (λ (x : ℕ). Holds x (model_of (tables t.offset l h r f ks ws t.count)) t l h r f ks ws) (sym holds.keys)
          (subst (λ (x : Model). Holds K x t l h r f ks ws) (sym model-same) holds),
    )

    pub from-clash : {q : ℕ} → clash (fixes_by b s.qubits s.next) ≡ at q → clash (fixes_of c s) ≡ at q
    from-clash e = ap clash (sym fixes-same) ∙ e

    pub from-done : {u : Totals} {l' : List ℤ} {h' r' f' ks' : List ℕ} {ws' : List ℤ}
        → Holds (length ks) (fix_all (fixes_by b s.qubits s.next) (model_of (tables t.offset l h r f ks ws t.count))) u l' h' r' f' ks' ws'
        → Holds K (fix_all (fixes_of c s) (placed_of c s)) u l' h' r' f' ks' ws'
    from-done {u} {l'} {h'} {r'} {f'} {ks'} {ws'} e =
        subst (λ (m : Model). Holds K (fix_all (fixes_of c s) m) u l' h' r' f' ks' ws') model-same
        (subst (λ (y : Fixes). Holds K (fix_all y (model_of (tables t.offset l h r f ks ws t.count))) u l' h' r' f' ks' ws') fixes-same
        (subst (λ (y : ℕ). Holds y (fix_all (fixes_by b s.qubits s.next) (model_of (tables t.offset l h r f ks ws t.count))) u l' h' r' f' ks' ws') holds.keys e))

    pub clash-same : clash (fixes_by b s.qubits s.next) ≡ none → clash (fixes_of c s) ≡ none
    clash-same e = ap clash (sym fixes-same) ∙ e

  -- ---- the form and the count

  abbrev fixed_model : Model
  fixed_model = fix_all (fixes_of c s) (placed_of c s)

  fixed-room : length fixed_model.pairs ≤ K
  fixed-room = omega (arith, fix_all-length (fixes_of c s) (placed_of c s), placed-room)

  ends-pairs : (es : List Entry) (m : Model) → (ends es m).pairs ≡ m.pairs
  unfolding ends
  ends-pairs [] m = refl
  ends-pairs (e ∷ es) m = ends-pairs es _

  quarters-length : (es : List Entry) → length (quarters es) ≡ length es
  quarters-length [] = refl
  quarters-length (e ∷ es) = ap suc (quarters-length es)

  ising-room : length (ising fixed_model).pairs ≤ K
  unfolding ising
  ising-room = omega (arith, ap length (ends-pairs (quarters fixed_model.pairs) (turned fixed_model)), quarters-length fixed_model.pairs, fixed-room)

  form-room : (form : Form) → length (in_form form fixed_model).pairs ≤ K
  form-room Binary = fixed-room
  form-room Ising = ising-room

  module _ {t : Totals} {l : List ℤ} {h r f ks : List ℕ} {ws : List ℤ} (holds : Holds K fixed_model t l h r f ks ws) where
    sized-fixed : Sized n fixed_model
    sized-fixed = sized-fix_all n (fixes_of c s) (placed_of c s) sized-placed

    pub rows_long : length r ≡ length h
    rows_long = ap (λ (x : Tables). length x.has_row) holds.is ∙ sized-fixed.has_row ∙ sym (ap (λ (x : Tables). length x.has_linear) holds.is ∙ sized-fixed.has_linear)

    pub to-turn : Turning l h ks ws t
    to-turn =
        let e : model_of (tables t.offset l h r f ks ws t.count) ≡ fixed_model = ap model_of holds.is ∙ model-full K fixed_model in
        let ready : Ready n ks ws (tables t.offset l h r f ks ws t.count) =
        record {
          even = holds.weights ∙ sym holds.keys;
          used = omega (arith, ap (λ (x : Tables). x.count) holds.is, fixed-room, holds.keys);
          sized = rw e sized-fixed;
          small = rw e (omega (arith, fix_all-mass (fixes_of c s) (placed_of c s), mass-placed));
        } in
        turning t ready

    pub finishes : (form : Form) (x : Counted) {l' : List ℤ} {h' : List ℕ} {ws' : List ℤ} → length ws' ≡ length ws
        → ((f : List ℕ) → tables x.totals.offset l' h' r f ks ws' x.totals.count ≡ hold (in_form form (model_of (tables t.offset l h r f ks ws t.count))) (tables t.offset l h r f ks ws t.count))
        → x.variables ≡ energy.counted h' r → clash (fixes_of c s) ≡ none
        → ModelledAs form c s (Ok x) l' h' r f ks ws'
    unfolding finished_of
    finishes form x {l'} {h'} {ws'} lw step v clear =
        let is : tables x.totals.offset l' h' r f ks ws' x.totals.count ≡ full K (in_form form fixed_model) =
        step-full K fixed_model (in_form form) holds.is (step f) fixed-room (form-room form) in (
          clear,
          record { keys = holds.keys; weights = lw ∙ holds.weights; is = is },
          v ∙ ap (λ (x : Tables). energy.counted x.has_linear x.has_row) is,
        )

-- the table of fixed values by another name
pub with-fixed : {k : ℕ} {m : Model} {t : Totals} {l : List ℤ} {h r f g ks : List ℕ} {ws : List ℤ} → g ≡ f → Holds k m t l h r f ks ws → Holds k m t l h r g ks ws
with-fixed {k} {m} {t} {l} {h} {r} {f} {g} {ks} {ws} e x = subst (λ (y : List ℕ). Holds k m t l h r y ks ws) (sym e) x
