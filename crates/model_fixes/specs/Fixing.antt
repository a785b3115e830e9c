-- Fixing: which qubit the k-th fix is of, what the code reads of it, and how the values that are entered one after the other and the pass over the pairs make the model of all fixes.
-- Assumes nothing.
use Rattle.std.specs.Prelude.{◌≡◌, Result, Ok, Err, Bool, true, false, not, cond, ℤ, get_or, set}
use Rattle.std.proofs.Math.Path.{refl, sym, ap, subst}
use Rattle.std.proofs.Common.{◌∙◌, arith, drop-cons, take-suc, lt-ltb, le-ltb}
use mathlib.Core.List.{List, [], ◌∷◌, ◌++◌}
use Prim.Native.Nat.{ℕ, zero, suc, ◌+◌, ◌-◌, ◌^◌, ◌≤◌, ◌<◌}
use Rattle.std.proofs.Math.Numerals.{add-one}
use Rattle.std.proofs.Math.Dec.{eqb}
use Rattle.std.proofs.Math.ListN.{length, take, drop, drop_of_length-le}
use Rattle.std.proofs.Math.Seq.{take-length}
use Rattle.energy.specs.Circuit.{Circuit, Constraint}
use Rattle.energy.specs.Model.{Entry, Model, Sized, touches, without, fix, mass}
use Rattle.energy.specs.Fixing.{mark, Fixes, Within, fix_all}
use Rattle.energy.proofs.Fixing.{fix-pairs}
use Rattle.energy.specs.Clash.{none, at, clash, clash_in, clash-table, clash-none}
use Rattle.energy.specs.Once.{enter, enter_all, sifted, enter_all-pairs, sized-enter_all, mass-enter_all}
use Rattle.energy.proofs.Once.{once-fix_all}
use Rattle.energy.specs.Finished.{forced}
use Rattle.energy.proofs.Mass.{mass-fix}
use Rattle.store_pairs.specs.Store.{zip, front}
use Rattle.circuit.specs.File.{field, byte1}
use Rattle.circuit.specs.Meaning.{constraint_at, circuit_of}
use Rattle.numbering.specs.State.{State, mk, qubit_of}
use Rattle.numbering.specs.Numbered.{bad_gates}
use Rattle.store.specs.declared.Totals.{Totals}
use Rattle.store.specs.Tables.{Tables, tables, model_of, hold, Ready}
use Rattle.store_sift.specs.Sifting.{model_by, MayEnter, Sifting, sifting}
use Rattle.model_fixes.specs.declared.Fix.{Fix}
use Rattle.model_fixes.specs.declared.Clash.{Clash}
use Rattle.model_fixes.specs.Order.{joined_qubit, fixes_of}
use Rattle.model_rows.specs.Laid.{no_constraint}
use Rattle.model_rows.specs.Rowed.{Has}
use Rattle.store.specs.Full.{full, step-full}

-- the tables hold the model m, with pair tables of k entries
pub record Holds (k : ℕ) (m : Model) (t : Totals) (l : List ℤ) (h r f ks : List ℕ) (ws : List ℤ) : Type 0 where
  pub keys : length ks ≡ k
  pub weights : length ws ≡ k
  pub is : tables t.offset l h r f ks ws t.count ≡ full k m

-- ---- the k-th fix, as the code reads it

-- how many fixes there are
pub fixes-length : (c : Circuit) (s : State) → length (fixes_of c s) ≡ length c.constraints + 3
unfolding fixes_of
fixes-length c s = omega (arith, go c.constraints)
  where
    go : (cs : List Constraint) → length (forced (qubit_of s) cs) ≡ length cs + 2
    go [] = refl
    go (x ∷ cs) = omega (arith, go cs)

-- no fix
abbrev pub nothing : ℕ × Bool
nothing = (0, false)

forced-at : (f : ℕ → ℕ) (cs : List Constraint) (k : ℕ) → k < length cs
    → get_or (forced f cs) k nothing ≡ (f (get_or cs k no_constraint).gate, (get_or cs k no_constraint).value)
forced-at f [] k h = absurd (omega arith)
forced-at f (x ∷ cs) zero h = refl
forced-at f (x ∷ cs) (suc k) h = forced-at f cs k (omega arith)

forced-true : (f : ℕ → ℕ) (cs : List Constraint) → get_or (forced f cs) (length cs) nothing ≡ (1, true)
forced-true f [] = refl
forced-true f (x ∷ cs) = forced-true f cs

forced-false : (f : ℕ → ℕ) (cs : List Constraint) → get_or (forced f cs) (suc (length cs)) nothing ≡ (0, false)
forced-false f [] = refl
forced-false f (x ∷ cs) = forced-false f cs

-- what the code of the k-th fix asks: the bytes, the table of qubits and the next name
pub record Reading (b : List ℕ) (bads constraints : ℕ) (qs : List ℕ) (next states count : ℕ) : Type 0 where
  pub states-are : states ≡ length (circuit_of b).bads
  pub count-is : count ≡ length (circuit_of b).constraints
  pub small : count ≤ 256
  pub first : Has b qs bads 0
  pub first-is : get_or (bad_gates (circuit_of b)) 0 0 ≡ field b bads 0
  pub high : 2 ≤ next
  pub has : (k : ℕ) → k < count → Has b qs (constraints + k) 0
  pub is : (k : ℕ) → k < count → get_or (circuit_of b).constraints k no_constraint ≡ constraint_at b (constraints + k)

-- the tables of origins and roles do not matter
abbrev pub fixes_by : List ℕ → List ℕ → ℕ → Fixes
fixes_by b qs next = fixes_of (circuit_of b) (mk qs [] [] next)

pub fixes-by : (b qs os rs : List ℕ) (next : ℕ) → fixes_by b qs next ≡ fixes_of (circuit_of b) (mk qs os rs next)
unfolding fixes_of joined_qubit
fixes-by b qs os rs next = refl

-- a fix as a pair
abbrev pub pair_of : Fix → ℕ × Bool
pair_of f = (f.qubit.0, f.on)

module _ {b : List ℕ} {bads constraints : ℕ} {qs : List ℕ} {next states count : ℕ} (r : Reading b bads constraints qs next states count) where
  abbrev c : Circuit
  c = circuit_of b

  pub fixes-count : length (fixes_by b qs next) ≡ count + 3
  fixes-count = fixes-length c (mk qs [] [] next) ∙ omega (arith, r.count-is)

  -- the joined qubit: the last join's, or that of a sole bad state
  pub joined-many : 1 < states → next - 1 ≡ joined_qubit c (mk qs [] [] next)
  unfolding joined_qubit
  joined-many h = rw (lt-ltb 1 (length c.bads) (omega (arith, r.states-are)))

  pub joined-one : states ≤ 1 → get_or qs (field b bads 0) 0 - 1 ≡ joined_qubit c (mk qs [] [] next)
  unfolding joined_qubit
  joined-one h = rw (le-ltb 1 (length c.bads) (omega (arith, r.states-are)), r.first-is)

  pub at_first : (q : ℕ) → q ≡ joined_qubit c (mk qs [] [] next) → (q, true) ≡ get_or (fixes_by b qs next) 0 nothing
  unfolding fixes_of
  at_first q e = ap (λ (x : ℕ). (x, true)) e

  pub at-constraint : (k q one : ℕ) → k < count → q ≡ get_or qs (field b (constraints + k) 0) 0 - 1 → one ≡ byte1 b (constraints + k)
      → (q, eqb one 1) ≡ get_or (fixes_by b qs next) (k + 1) nothing
  unfolding fixes_of
  at-constraint k q one h e f =
      rw add-one
      (sym
      (forced-at (qubit_of (mk qs [] [] next)) c.constraints k (omega (arith, r.count-is))
      ∙ ap (λ (x : Constraint). (get_or qs x.gate 0 - 1, x.value)) (r.is k h)
      ∙ ap (λ (x : ℕ). (x, eqb (byte1 b (constraints + k)) 1)) (sym e)
      ∙ ap (λ (x : ℕ). (q, eqb x 1)) (sym f)))

  pub at_true : (k : ℕ) → k ≡ count + 1 → (1, true) ≡ get_or (fixes_by b qs next) k nothing
  unfolding fixes_of
  at_true k e =
      let n : k ≡ suc (length c.constraints) = omega (arith, r.count-is) in
      rw n (sym (forced-true (qubit_of (mk qs [] [] next)) c.constraints))

  pub at-false : (k : ℕ) → k ≡ count + 2 → (0, false) ≡ get_or (fixes_by b qs next) k nothing
  unfolding fixes_of
  at-false k e =
      let n : k ≡ suc (suc (length c.constraints)) = omega (arith, r.count-is) in
      rw n (sym (forced-false (qubit_of (mk qs [] [] next)) c.constraints))

-- ---- lists of pairs get no longer

without-length : (q : ℕ) (s : List Entry) → length (without q s) ≤ length s
unfolding without
without-length q [] = omega arith
without-length q (e ∷ s) = go (touches q e.0) (without-length q s)
  where
    go : (x : Bool) → length (without q s) ≤ length s → length (cond x (without q s) (e ∷ without q s)) ≤ suc (length s)
    go true h = omega arith
    go false h = omega arith

fix-length : (q : ℕ) (b : Bool) (m : Model) → length (fix q b m).pairs ≤ length m.pairs
fix-length q b m = rw (fix-pairs q b m) (without-length q m.pairs)

pub fix_all-length : (fs : Fixes) (m : Model) → length (fix_all fs m).pairs ≤ length m.pairs
unfolding fix_all
fix_all-length [] m = omega arith
fix_all-length (f ∷ fs) m = omega (arith, fix_all-length fs (fix f.0 f.1 m), fix-length f.0 f.1 m)

pub fix_all-mass : (fs : Fixes) (m : Model) → mass (fix_all fs m) ≤ mass m
unfolding fix_all
fix_all-mass [] m = omega arith
fix_all-mass (f ∷ fs) m = omega (arith, fix_all-mass fs (fix f.0 f.1 m), mass-fix f.0 f.1 m)

within-at : (n : ℕ) (fs : Fixes) (k : ℕ) → k < length fs → Within n fs → (get_or fs k nothing).0 < n
within-at n [] k h w = absurd (omega arith)
within-at n (f ∷ fs) zero h w = w.0
within-at n (f ∷ fs) (suc k) h w = within-at n fs k (omega arith) w.1

-- ---- what fixing asks, and how it ends

-- what fixing asks of the model before it: n qubits and k pairs, nothing fixed, and no large number
pub record Fixable (n k : ℕ) (fs : Fixes) (m : Model) : Type 0 where
  pub within : Within n fs
  pub sized : Sized n m
  pub small : mass m ≤ 2 ^ 40
  pub room : length m.pairs ≤ k
  pub unfixed : (q : ℕ) → get_or m.fixed q 0 ≡ 0

-- how fixing ends: with the first clash, or with all fixes made
abbrev pub FixedAs : ℕ → Fixes → Model → Result Totals Clash → List ℤ → List ℕ → List ℕ → List ℕ → List ℕ → List ℤ → Type 0
FixedAs k fs m (Ok t) l h r f ks ws = (clash fs ≡ none) × Holds k (fix_all fs m) t l h r f ks ws
FixedAs k fs m (Err e) l h r f ks ws = clash fs ≡ at e.0.0

-- by the answer that was found
pub fixed-by : (k : ℕ) (fs : Fixes) (m : Model) {x y : Result Totals Clash} (l : List ℤ) (h r f ks : List ℕ) (ws : List ℤ) → x ≡ y → FixedAs k fs m x l h r f ks ws → FixedAs k fs m y l h r f ks ws
fixed-by k fs m l h r f ks ws e = subst (λ (x : Result Totals Clash). FixedAs k fs m x l h r f ks ws) e

-- ---- entering the values

-- what entering asks of the model without its pairs
pub record Enterable (n : ℕ) (fs : Fixes) (m : Model) : Type 0 where
  pub within : Within n fs
  pub sized : Sized n m
  pub small : mass m ≤ 2 ^ 40
  pub unfixed : (q : ℕ) → get_or m.fixed q 0 ≡ 0

-- the values of these fixes are entered, whatever the pairs
pub record Entered (fs : Fixes) (from : Totals) (l₀ : List ℤ) (h₀ r₀ f₀ : List ℕ) (t : Totals) (l : List ℤ) (h r f : List ℕ) : Type 0 where
  pub count : t.count ≡ from.count
  pub is : (s : List Entry) → model_by t.offset l h r f s ≡ enter_all fs (model_by from.offset l₀ h₀ r₀ f₀ s)

-- how entering ends: with the first clash, or with all values entered
abbrev pub EnteredAs : Fixes → Totals → List ℤ → List ℕ → List ℕ → List ℕ → Result Totals Clash → List ℤ → List ℕ → List ℕ → List ℕ → Type 0
EnteredAs fs from l₀ h₀ r₀ f₀ (Ok t) l h r f = (clash fs ≡ none) × Entered fs from l₀ h₀ r₀ f₀ t l h r f
EnteredAs fs from l₀ h₀ r₀ f₀ (Err e) l h r f = clash fs ≡ at e.0.0

-- by the answer that was found
pub ended : (fs : Fixes) (from : Totals) (l₀ : List ℤ) (h₀ r₀ f₀ : List ℕ) {x y : Result Totals Clash} (l : List ℤ) (h r f : List ℕ) → x ≡ y
    → EnteredAs fs from l₀ h₀ r₀ f₀ x l h r f → EnteredAs fs from l₀ h₀ r₀ f₀ y l h r f
ended fs from l₀ h₀ r₀ f₀ l h r f e = subst (λ (x : Result Totals Clash). EnteredAs fs from l₀ h₀ r₀ f₀ x l h r f) e

-- before a turn of the loop: the first j are entered, without a clash
pub record Entering (fs : Fixes) (j : ℕ) (from : Totals) (l₀ : List ℤ) (h₀ r₀ f₀ : List ℕ) (t : Totals) (l : List ℤ) (h r f : List ℕ) : Type 0 where
  pub within : j ≤ length fs
  pub left : clash_in f (drop j fs) ≡ clash fs
  pub entered : Entered (take j fs) from l₀ h₀ r₀ f₀ t l h r f

other-mark : (b : Bool) → cond b 1 2 ≡ mark (not b)
other-mark true = refl
other-mark false = refl

-- the test before a value is entered
test-step : (x : ℕ × Bool) (fs : Fixes) (f : List ℕ)
    → clash_in f (x ∷ fs) ≡ cond (eqb (get_or f x.0 0) (cond x.1 1 2)) (at x.0) (clash_in (set f x.0 (mark x.1)) fs)
unfolding clash_in
test-step x fs f = ap (λ (y : ℕ). cond (eqb (get_or f x.0 0) y) (at x.0) (clash_in (set f x.0 (mark x.1)) fs)) (sym (other-mark x.1))

enter_all-snoc : (fs : Fixes) (f : ℕ × Bool) (m : Model) → enter_all (fs ++ f ∷ []) m ≡ enter f.0 f.1 (enter_all fs m)
unfolding enter_all
enter_all-snoc [] f m = refl
enter_all-snoc (g ∷ fs) f m = enter_all-snoc fs f (enter g.0 g.1 m)

module _ {n : ℕ} {fs : Fixes} {from : Totals} {l₀ : List ℤ} {h₀ r₀ f₀ : List ℕ} (enterable : Enterable n fs (model_by from.offset l₀ h₀ r₀ f₀ [])) where
  pub none-entered : Entering fs 0 from l₀ h₀ r₀ f₀ from l₀ h₀ r₀ f₀
  unfolding enter_all
  none-entered =
      record {
        within = omega arith;
        left = clash-table f₀ fs (rw enterable.sized.fixed enterable.within) enterable.unfixed;
        entered = record { count = refl; is = λ s. refl };
      }

  module _ {j : ℕ} {t : Totals} {l : List ℤ} {h r f : List ℕ} (entering : Entering fs j from l₀ h₀ r₀ f₀ t l h r f) where
    abbrev now-model : Model
    now-model = model_by t.offset l h r f []

    pub sized-now : Sized n now-model
    sized-now = rw (entering.entered.is []) (sized-enter_all n (take j fs) (model_by from.offset l₀ h₀ r₀ f₀ []) enterable.sized)

    mass-now : mass now-model ≤ 2 ^ 40
    mass-now = omega (arith, ap mass (entering.entered.is []), mass-enter_all (take j fs) (model_by from.offset l₀ h₀ r₀ f₀ []), enterable.small)

    module _ (more : j < length fs) {x : ℕ × Bool} (e : x ≡ get_or fs j nothing) where
      below : x.0 < n
      below = rw e (within-at n fs j more enterable.within)

      pub in-fixed : x.0 < length f
      in-fixed = omega (arith, below, sized-now.fixed)

      pub may-enter : MayEnter x.0 t l h r f
      unfolding mass
      may-enter =
          record {
            linear = omega (arith, below, sized-now.linear);
            present = omega (arith, below, sized-now.has_linear);
            row = omega (arith, below, sized-now.has_row);
            fixed = in-fixed;
            small = omega (arith, mass-now);
          }

      test : clash fs ≡ cond (eqb (get_or f x.0 0) (cond x.1 1 2)) (at x.0) (clash_in (set f x.0 (mark x.1)) (drop (suc j) fs))
      test =
          sym entering.left
          ∙ ap (clash_in f) (drop-cons fs j nothing more ∙ ap (λ (y : ℕ × Bool). y ∷ drop (suc j) fs) (sym e))
          ∙ test-step x (drop (suc j) fs) f

      pub stops : eqb (get_or f x.0 0) (cond x.1 1 2) ≡ true → clash fs ≡ at x.0
      stops h = test ∙ rw h

      pub goes_on : eqb (get_or f x.0 0) (cond x.1 1 2) ≡ false
          → {u : Totals} {l' : List ℤ} {h' r' f' : List ℕ} → u.count ≡ t.count
          → ((s : List Entry) → model_by u.offset l' h' r' f' s ≡ enter x.0 x.1 (model_by t.offset l h r f s))
          → Entering fs (j + 1) from l₀ h₀ r₀ f₀ u l' h' r' f'
      goes_on clear {u} {l'} {h'} {r'} {f'} ec step =
          rw add-one
          (record {
            within = more;
            left = ap (λ (y : Model). clash_in y.fixed (drop (suc j) fs)) (step []) ∙ sym (test ∙ rw clear);
            entered =
                record {
                  count = ec ∙ entering.entered.count;
                  is = λ s.
                      step s
                      ∙ ap (enter x.0 x.1) (entering.entered.is s)
                      ∙ sym (enter_all-snoc (take j fs) x (model_by from.offset l₀ h₀ r₀ f₀ s))
                      ∙ ap (λ (ys : Fixes). enter_all ys (model_by from.offset l₀ h₀ r₀ f₀ s)) (ap (λ (y : ℕ × Bool). take j fs ++ y ∷ []) e ∙ sym (take-suc fs j nothing more));
                };
          })

    pub all-entered : length fs ≤ j → (clash fs ≡ none) × Entered fs from l₀ h₀ r₀ f₀ t l h r f
    unfolding clash_in
    all-entered done =
        let e : j ≡ length fs = omega (arith, entering.within) in
        let d : drop j fs ≡ [] = drop_of_length-le fs done in (
          sym entering.left ∙ ap (clash_in f) d,
          subst (λ (ys : Fixes). Entered ys from l₀ h₀ r₀ f₀ t l h r f) (ap (λ (i : ℕ). take i fs) e ∙ take-length fs) entering.entered,
        )

-- ---- and then the pass over the pairs

module _ {n k : ℕ} {fs : Fixes} (from : Totals) (l₀ : List ℤ) (h₀ r₀ f₀ ks : List ℕ) (ws : List ℤ) (fixable : Fixable n k fs (model_of (tables from.offset l₀ h₀ r₀ f₀ ks ws from.count))) where
  abbrev m₀ : Model
  m₀ = model_of (tables from.offset l₀ h₀ r₀ f₀ ks ws from.count)

  pub enterable : Enterable n fs (model_by from.offset l₀ h₀ r₀ f₀ [])
  unfolding mass
  enterable =
      let z = fixable.sized in
      record {
        within = fixable.within;
        sized = record { linear = z.linear; has_linear = z.has_linear; has_row = z.has_row; fixed = z.fixed; inside = tt; names = z.names };
        small = omega (arith, fixable.small);
        unfixed = fixable.unfixed;
      }

  module _ (holds : Holds k m₀ from l₀ h₀ r₀ f₀ ks ws) {t : Totals} {l : List ℤ} {h r f : List ℕ} (entered : Entered fs from l₀ h₀ r₀ f₀ t l h r f) where
    abbrev m₁ : Model
    m₁ = enter_all fs m₀

    model_is : model_of (tables t.offset l h r f ks ws t.count) ≡ m₁
    model_is = ap (λ (c : ℕ). model_of (tables t.offset l h r f ks ws c)) entered.count ∙ entered.is (take from.count (zip ks ws))

    room : length m₁.pairs ≤ k
    room = omega (arith, ap length (enter_all-pairs fs m₀), fixable.room)

    tables-are : tables t.offset l h r f ks ws t.count ≡ full k m₁
    tables-are i =
        let m = (entered.is (take from.count (zip ks ws))) i in
        record {
          offset = m.offset;
          linear = m.linear;
          has_linear = m.has_linear;
          has_row = m.has_row;
          fixed = m.fixed;
          entries = (ap (λ (x : Tables). x.entries) holds.is ∙ ap (λ (s : List Entry). front s k) (sym (enter_all-pairs fs m₀))) i;
          count = (entered.count ∙ ap (λ (x : Tables). x.count) holds.is ∙ ap length (sym (enter_all-pairs fs m₀))) i;
        }

    pub siftable : Sifting f l h ks ws t
    siftable =
        let ready : Ready n ks ws (tables t.offset l h r f ks ws t.count) =
        record {
          even = holds.weights ∙ sym holds.keys;
          used = omega (arith, entered.count, ap (λ (x : Tables). x.count) holds.is, fixable.room, holds.keys);
          sized = rw model_is (sized-enter_all n fs m₀ fixable.sized);
          small = rw model_is (omega (arith, mass-enter_all fs m₀, fixable.small));
        } in
        sifting t ready

    pub all-fixed : clash fs ≡ none → {u : Totals} {l' : List ℤ} {h' ks' : List ℕ} {ws' : List ℤ} → length ks' ≡ length ks → length ws' ≡ length ws
        → ((rs : List ℕ)
        → tables u.offset l' h' rs f ks' ws' u.count
        ≡ hold (sifted (model_of (tables t.offset l h rs f ks ws t.count))) (tables t.offset l h rs f ks ws t.count))
        → Holds k (fix_all fs m₀) u l' h' r f ks' ws'
    all-fixed clear lk lw step =
        let e : fix_all fs m₀ ≡ sifted m₁ = once-fix_all n fs m₀ fixable.sized fixable.within (clash-none fs clear) fixable.unfixed in
        record {
          keys = lk ∙ holds.keys;
          weights = lw ∙ holds.weights;
          is =
              step-full k m₁ sifted tables-are (step r) room (omega (arith, ap (λ (m : Model). length m.pairs) e, fix_all-length fs m₀, fixable.room))
              ∙ ap (full k) (sym e);
        }
