-- Placing: one pair by its tests, one turn of each loop, and the tables at the end.
-- Assumes nothing.
use Rattle.std.proofs.Common.{◌⊎◌, inl, inr}
use Rattle.std.proofs.lemmas.List.{length-map, nil_from_length}
use mathlib.Core.Bool.{Bool, true, false, cond}
use mathlib.Core.List.{List, [], ◌∷◌, ◌++◌}
use mathlib.Core.Path.{◌≡◌, refl, sym, ap, ap₂, ◌∙◌}
use Prim.Native.Nat.{ℕ, zero, suc, ◌+◌, ◌-◌, ◌*◌, ◌≤◌, ◌<◌}
use native.Mathlib.Omega.{arith}
use lib.Dec.{eqb}
use lib.IntN.{ℤ, pos, nat_abs, ◌+ℤ◌}
use lib.ListN.{length, take, drop, set, get_or, take-append-drop}
use lib.Seq.{take-append-add, drop-append-add, drop-drop, length-take-le}
use borrow.Author.Tests.{eq-eqb, ne_eqb}
use Rattle.penalty.specs.declared.Penalty.{Penalty}
use Rattle.penalty.specs.Rows.{Slot, Place, singles, twos}
use Rattle.energy.specs.Model.{Entry, Model, key_of, is_zero, join_linear, add_linear, halves, add_linears, sizes}
use Rattle.energy.specs.Mass.{sizes-gain, abs-halves}
use Rattle.store_pairs.specs.Store.{zip, over}
use Rattle.store_pairs.specs.Over.{over-more}
use Rattle.store_pairs.proofs.Tables.{length-zip}
use Rattle.store.specs.Tables.{Tables, tables, model_of, with_linear, hold, gained, marked}
use Rattle.store_place.specs.Wiring.{firsts, seconds}
use Rattle.store_place.specs.Logged.{append_pair, log_pair, log_pairs, logged}
use Rattle.store_place.specs.Room.{filled_by, filled, filled-halves, Longer}
use Rattle.store.proofs.Adding.{zero_test, other_test, add-linear-is, gained-length, gained-sizes}

-- ---- one pair, by its tests

pub pair-none : (p q : ℕ) (c : ℤ) (m : Model) → c ≡ pos 0 → m ≡ log_pair p q c m
unfolding log_pair
pair-none p q c m e = ap (λ (b : Bool). cond b m (cond (eqb p q) (join_linear p c m) (append_pair p q c m))) (sym (zero_test c e))

pair-equal : (p q : ℕ) (c : ℤ) (m : Model) → (c ≡ pos 0 → ⊥) → p ≡ q → join_linear p c m ≡ log_pair p q c m
unfolding log_pair
pair-equal p q c m f e =
    ap₂ (λ (b d : Bool). cond b m (cond d (join_linear p c m) (append_pair p q c m))) (sym (other_test c f)) (sym (eq-eqb p q e))

pair-new : (p q : ℕ) (c : ℤ) (m : Model) → (c ≡ pos 0 → ⊥) → (p ≡ q → ⊥) → append_pair p q c m ≡ log_pair p q c m
unfolding log_pair
pair-new p q c m f e =
    ap₂ (λ (b d : Bool). cond b m (cond d (join_linear p c m) (append_pair p q c m))) (sym (other_test c f)) (sym (ne_eqb p q e))

filled-other : (c : ℤ) → (c ≡ pos 0 → ⊥) → filled_by c ≡ 1
filled-other c f = ap (λ (b : Bool). cond b 0 1) (other_test c f)

-- a pair of equal qubits; c' is what the machine reads back of c
pub was-equal : (o : ℤ) (l l' : List ℤ) (h h' r f ks : List ℕ) (ws : List ℤ) (n p q : ℕ) (c c' : ℤ) → c' ≡ c → (c ≡ pos 0 → ⊥) → p ≡ q
    → l' ≡ set l p (get_or l p (pos 0) +ℤ c') → h' ≡ set h p 1
    → model_of (tables o l' h' r f ks ws n) ≡ log_pair p q c (model_of (tables o l h r f ks ws n))
was-equal o l l' h h' r f ks ws n p q c c' e g same x y =
    ap₂ (λ (a : List ℤ) (b : List ℕ). model_of (tables o a b r f ks ws n)) (x ∙ ap (λ (z : ℤ). set l p (get_or l p (pos 0) +ℤ z)) e) y
    ∙ pair-equal p q c (model_of (tables o l h r f ks ws n)) g same

module _ (T T' : List Entry) (n : ℕ) (e : Entry) (room : n < length T) (is : T' ≡ take n T ++ e ∷ drop (n + 1) T) where
  at_n : length (take n T) ≡ n
  at_n = length-take-le n T (omega arith)

  appended-front : take (n + 1) T' ≡ take n T ++ e ∷ []
  appended-front =
      ap₂ take (ap (λ (k : ℕ). k + 1) (sym at_n)) is ∙ take-append-add (take n T) (e ∷ drop (n + 1) T) 1

  appended-back : drop (n + 1) T' ≡ drop (n + 1) T
  appended-back =
      ap₂ drop (ap (λ (k : ℕ). k + 1) (sym at_n)) is ∙ drop-append-add (take n T) (e ∷ drop (n + 1) T) 1

-- a pair of two qubits
module _ (ks ks' : List ℕ) (ws ws' : List ℤ) (n r p q k : ℕ) (c c' : ℤ) (even : length ws ≡ length ks) (back : c' ≡ c) (g : c ≡ pos 0 → ⊥)
    (room : n + filled_by c ≤ length ks) (key : k ≡ key_of p q) (count : r ≡ n + 1)
    (is : zip ks' ws' ≡ take n (zip ks ws) ++ (k, c') ∷ drop (n + 1) (zip ks ws)) where
  there : n < length (zip ks ws)
  there = omega (arith, length-zip ks ws even, filled-other c g)

  entry : zip ks' ws' ≡ take n (zip ks ws) ++ (key_of p q, c) ∷ drop (n + 1) (zip ks ws)
  entry = is ∙ ap₂ (λ (a : ℕ) (b : ℤ). take n (zip ks ws) ++ (a, b) ∷ drop (n + 1) (zip ks ws)) key back

  pub was-new : (o : ℤ) (l : List ℤ) (h rs f : List ℕ) → (p ≡ q → ⊥)
      → model_of (tables o l h (set (set rs q 1) p 1) f ks' ws' r) ≡ log_pair p q c (model_of (tables o l h rs f ks ws n))
  was-new o l h rs f ne =
      ap with-pairs (ap (λ (i : ℕ). take i (zip ks' ws')) count ∙ appended-front (zip ks ws) (zip ks' ws') n (key_of p q, c) there entry)
      ∙ pair-new p q c (model_of (tables o l h rs f ks ws n)) g ne
    where
      with-pairs : List Entry → Model
      with-pairs s = record { offset = o; linear = l; has_linear = h; has_row = set (set rs q 1) p 1; fixed = f; pairs = s }

  pub new-longer : Longer n r (filled_by c) (zip ks ws) (zip ks' ws')
  new-longer =
      record {
        grows = omega arith;
        most = omega (arith, filled-other c g);
        rest = rw count (appended-back (zip ks ws) (zip ks' ws') n (key_of p q, c) there entry);
      }

-- ---- the loops: what is left to add equals what there was

-- the coefficients at these qubits
unfoldable pub adds_at : List ℕ → List ℤ → Model → Model
adds_at [] cs m = m
adds_at (q ∷ qs) [] m = m
adds_at (q ∷ qs) (c ∷ cs) m = adds_at qs cs (add_linear q (halves c) m)

unfoldable pub logged_at : List ℕ → List ℕ → List ℤ → Model → Model
logged_at [] qs cs m = m
logged_at (p ∷ ps) [] cs m = m
logged_at (p ∷ ps) (q ∷ qs) [] m = m
logged_at (p ∷ ps) (q ∷ qs) (c ∷ cs) m = logged_at ps qs cs (log_pair p q (halves c) m)

pub adds-at : (at : Slot → ℕ) (ps : List Place) (cs : List ℤ) (m : Model) → adds_at (firsts at ps) cs m ≡ add_linears at ps cs m
unfolding adds_at
adds-at at [] cs m = refl
adds-at at (p ∷ ps) [] m = refl
adds-at at (p ∷ ps) (c ∷ cs) m = adds-at at ps cs (add_linear (at p.fst) (halves c) m)

pub logs_at : (at : Slot → ℕ) (ps : List Place) (cs : List ℤ) (m : Model) → logged_at (firsts at ps) (seconds at ps) cs m ≡ log_pairs at ps cs m
unfolding logged_at
logs_at at [] cs m = refl
logs_at at (p ∷ ps) [] m = refl
logs_at at (p ∷ ps) (c ∷ cs) m = logs_at at ps cs (log_pair (at p.fst) (at p.snd) (halves c) m)

adds-step : (q : ℕ) (qs : List ℕ) (c : ℤ) (cs : List ℤ) (m : Model) → adds_at (q ∷ qs) (c ∷ cs) m ≡ adds_at qs cs (add_linear q (halves c) m)
unfolding adds_at
adds-step q qs c cs m = refl

logs-step : (p : ℕ) (ps : List ℕ) (q : ℕ) (qs : List ℕ) (c : ℤ) (cs : List ℤ) (m : Model) → logged_at (p ∷ ps) (q ∷ qs) (c ∷ cs) m ≡ logged_at ps qs cs (log_pair p q (halves c) m)
unfolding logged_at
logs-step p ps q qs c cs m = refl

-- the coefficients cs are left, for the qubits qs
pub record Linears (at : Slot → ℕ) (ps : List Place) (cs₀ : List ℤ) (l₀ : List ℤ) (h₀ : List ℕ) (l : List ℤ) (h : List ℕ) (qs : List ℕ) (cs : List ℤ) : Type 0 where
  pub linear : length l ≡ length l₀
  pub present : length h ≡ length h₀
  pub below : (i : ℕ) → i < length qs → get_or qs i 0 < length l₀
  pub few : (i : ℕ) → nat_abs (get_or cs i (pos 0)) ≤ 6
  pub left : (m : Model) → adds_at qs cs (with_linear l h m) ≡ add_linears at ps cs₀ (with_linear l₀ h₀ m)
  pub size : sizes l + 12 * length qs ≤ sizes l₀ + 12 * length ps

module _ {at : Slot → ℕ} {ps : List Place} {cs₀ : List ℤ} {l₀ : List ℤ} {h₀ : List ℕ} {l : List ℤ} {h : List ℕ} {qs qs' : List ℕ} {cs cs' : List ℤ} {q : ℕ} {c : ℤ}
    (inv : Linears at ps cs₀ l₀ h₀ l h qs cs) (step : (qs ≡ q ∷ qs') × (cs ≡ c ∷ cs')) where
  qubits : (i : ℕ) → i < length (q ∷ qs') → get_or (q ∷ qs') i 0 < length l₀
  qubits = rw step.0 at inv.below

  coefficients : (i : ℕ) → nat_abs (get_or (c ∷ cs') i (pos 0)) ≤ 6
  coefficients = rw step.1 at inv.few

  pub qubit-below : q < length l₀
  qubit-below = qubits 0 (omega arith)

  pub coefficient-few : nat_abs c ≤ 6
  coefficient-few = coefficients 0

  pub linear-turn : {l' : List ℤ} {h' : List ℕ} (z : ℤ) → z ≡ halves c → length h' ≡ length h
      → l' ≡ gained q z l → h' ≡ marked q z h → Linears at ps cs₀ l₀ h₀ l' h' qs' cs'
  linear-turn {l'} {h'} z e same p r =
      record {
        linear = ap length p ∙ gained-length q z l ∙ inv.linear;
        present = same ∙ inv.present;
        below = λ i k. qubits (suc i) (omega (arith, k));
        few = λ i. coefficients (suc i);
        left = λ m.
            ap₂ (λ (a : List ℤ) (b : List ℕ). adds_at qs' cs' (with_linear a b m)) p r
            ∙ ap (adds_at qs' cs') (
            sym (add-linear-is q z l h m)
            ∙ ap (λ (z : ℤ). add_linear q z (with_linear l h m)) e)
            ∙ sym (adds-step q qs' c cs' (with_linear l h m))
            ∙ sym (ap₂ (λ (a : List ℕ) (b : List ℤ). adds_at a b (with_linear l h m)) step.0 step.1)
            ∙ inv.left m;
        size = rw p (omega (arith, inv.size, ap length step.0, gained-sizes q z l, abs-halves c, coefficient-few, ap nat_abs e));
      }

-- the qubits at the slots are in the tables
pub firsts-below : (at : Slot → ℕ) (n : ℕ) → ((s : Slot) → at s < n) → (ps : List Place) (j : ℕ) → j < length ps → get_or (firsts at ps) j 0 < n
firsts-below at n h [] j k = absurd (omega arith)
firsts-below at n h (p ∷ ps) zero k = h p.fst
firsts-below at n h (p ∷ ps) (suc j) k = firsts-below at n h ps j (omega arith)

pub seconds-below : (at : Slot → ℕ) (n : ℕ) → ((s : Slot) → at s < n) → (ps : List Place) (j : ℕ) → j < length ps → get_or (seconds at ps) j 0 < n
seconds-below at n h [] j k = absurd (omega arith)
seconds-below at n h (p ∷ ps) zero k = h p.snd
seconds-below at n h (p ∷ ps) (suc j) k = seconds-below at n h ps j (omega arith)

-- before the first turn all are left
pub linear-starts : (at : Slot → ℕ) (ps : List Place) (cs : List ℤ) (l : List ℤ) (h : List ℕ) {qs : List ℕ} → qs ≡ firsts at ps
    → ((s : Slot) → at s < length l) → ((i : ℕ) → nat_abs (get_or cs i (pos 0)) ≤ 6) → Linears at ps cs l h l h qs cs
linear-starts at ps cs l h {qs} e wired few =
    record {
      linear = refl;
      present = refl;
      below = rw e (λ i k. firsts-below at (length l) wired ps i (omega (arith, k, length-map ps (λ (p : Place). at p.fst))));
      few = few;
      left = λ m. ap (λ (s : List ℕ). adds_at s cs (with_linear l h m)) e ∙ adds-at at ps cs (with_linear l h m);
      size = omega (arith, ap length e, length-map ps (λ (p : Place). at p.fst));
    }

-- at the end nothing is left
adds-none : (qs : List ℕ) (cs : List ℤ) (m : Model) → (qs ≡ []) ⊎ (cs ≡ []) → adds_at qs cs m ≡ m
unfolding adds_at
adds-none [] cs m e = refl
adds-none (q ∷ qs) [] m e = refl
adds-none (q ∷ qs) (c ∷ cs) m (inl e) = let n : length (q ∷ qs) ≡ 0 = ap length e in absurd (omega (arith, n))
adds-none (q ∷ qs) (c ∷ cs) m (inr e) = let n : length (c ∷ cs) ≡ 0 = ap length e in absurd (omega (arith, n))

pub linear-done : {at : Slot → ℕ} {ps : List Place} {cs₀ : List ℤ} {l₀ : List ℤ} {h₀ : List ℕ} {l : List ℤ} {h : List ℕ} {qs : List ℕ} {cs : List ℤ}
    → Linears at ps cs₀ l₀ h₀ l h qs cs → (qs ≡ []) ⊎ (cs ≡ []) → (m : Model) → with_linear l h m ≡ add_linears at ps cs₀ (with_linear l₀ h₀ m)
linear-done {l = l} {h} {qs} {cs} inv done m = sym (adds-none qs cs (with_linear l h m) done) ∙ inv.left m

-- ---- the pairs

pub drop-later : (n r : ℕ) (S T : List Entry) → n ≤ r → drop n S ≡ drop n T → drop r S ≡ drop r T
drop-later n r S T h e =
    let at : n + (r - n) ≡ r = omega arith in
    ap (λ (k : ℕ). drop k S) (sym at) ∙ sym (drop-drop (r - n) n S) ∙ ap (drop (r - n)) e ∙ drop-drop (r - n) n T ∙ ap (λ (k : ℕ). drop k T) at

-- a pair adds at most its size to the linear table
log_pair-sizes : (p q : ℕ) (c : ℤ) (m : Model) → sizes (log_pair p q c m).linear ≤ sizes m.linear + nat_abs c
unfolding log_pair
log_pair-sizes p q c m = go (is_zero c) (eqb p q)
  where
    go : (b e : Bool) → sizes (cond b m (cond e (join_linear p c m) (append_pair p q c m))).linear ≤ sizes m.linear + nat_abs c
    go true e = omega arith
    go false true = sizes-gain m.linear p c
    go false false = omega arith

-- the coefficients cs are left, for the qubits ps and qs
pub record Logging (at : Slot → ℕ) (is : List Place) (cs₀ : List ℤ) (l₀ : List ℤ) (h₀ r₀ ks₀ : List ℕ) (ws₀ : List ℤ) (n₀ : ℕ) (l : List ℤ) (h r ks : List ℕ) (ws : List ℤ) (n : ℕ) (ps qs : List ℕ) (cs : List ℤ) : Type 0 where
  pub linear : length l ≡ length l₀
  pub present : length h ≡ length h₀
  pub rows : length r ≡ length r₀
  pub keys : length ks ≡ length ks₀
  pub weights : length ws ≡ length ws₀
  pub first : (i : ℕ) → i < length ps → get_or ps i 0 < length l₀
  pub second : (i : ℕ) → i < length qs → get_or qs i 0 < length l₀
  pub few : (i : ℕ) → nat_abs (get_or cs i (pos 0)) ≤ 6
  pub left : (o : ℤ) (f : List ℕ)
      → logged_at ps qs cs (model_of (tables o l h r f ks ws n)) ≡ log_pairs at is cs₀ (model_of (tables o l₀ h₀ r₀ f ks₀ ws₀ n₀))
  pub grows : n₀ ≤ n
  pub room : n + filled cs ≤ n₀ + filled cs₀
  pub rest : drop n (zip ks ws) ≡ drop n (zip ks₀ ws₀)
  pub size : sizes l + 12 * length ps ≤ sizes l₀ + 12 * length is

module _ {at : Slot → ℕ} {is : List Place} {cs₀ : List ℤ} {l₀ : List ℤ} {h₀ r₀ ks₀ : List ℕ} {ws₀ : List ℤ} {n₀ : ℕ} {l : List ℤ} {h r ks : List ℕ} {ws : List ℤ} {n : ℕ}
    {ps ps' qs qs' : List ℕ} {cs cs' : List ℤ} {p q : ℕ} {c : ℤ}
    (inv : Logging at is cs₀ l₀ h₀ r₀ ks₀ ws₀ n₀ l h r ks ws n ps qs cs) (step : ((ps ≡ p ∷ ps') × (qs ≡ q ∷ qs')) × (cs ≡ c ∷ cs')) where
  firsts-left : (i : ℕ) → i < length (p ∷ ps') → get_or (p ∷ ps') i 0 < length l₀
  firsts-left = rw step.0.0 at inv.first

  seconds-left : (i : ℕ) → i < length (q ∷ qs') → get_or (q ∷ qs') i 0 < length l₀
  seconds-left = rw step.0.1 at inv.second

  few-left : (i : ℕ) → nat_abs (get_or (c ∷ cs') i (pos 0)) ≤ 6
  few-left = rw step.1 at inv.few

  pub first-below : p < length l₀
  first-below = firsts-left 0 (omega arith)

  pub second-below : q < length l₀
  second-below = seconds-left 0 (omega arith)

  pub pair-few : nat_abs c ≤ 6
  pair-few = few-left 0

  pub pairs-room : (k : ℕ) → n₀ + filled cs₀ ≤ k → n + filled_by (halves c) ≤ k
  pairs-room k fits = omega (arith, inv.room, ap filled step.1, filled-halves c)

  pub pairs-turn : {l' : List ℤ} {h' r' ks' : List ℕ} {ws' : List ℤ} {n' : ℕ} (z : ℤ) → z ≡ halves c
      → length l' ≡ length l → length h' ≡ length h → length r' ≡ length r → length ks' ≡ length ks → length ws' ≡ length ws
      → ((o : ℤ) (f : List ℕ) → model_of (tables o l' h' r' f ks' ws' n') ≡ log_pair p q z (model_of (tables o l h r f ks ws n)))
      → Longer n n' (filled_by z) (zip ks ws) (zip ks' ws')
      → Logging at is cs₀ l₀ h₀ r₀ ks₀ ws₀ n₀ l' h' r' ks' ws' n' ps' qs' cs'
  pairs-turn {l'} {h'} {r'} {ks'} {ws'} {n'} z e ll lh lr lk lw turn long =
      let same : filled_by z ≡ filled_by c = ap filled_by e ∙ filled-halves c in
      let more : l' ≡ (log_pair p q z (model_of (tables (pos 0) l h r [] ks ws n))).linear = ap (λ (m : Model). m.linear) (turn (pos 0) []) in
      record {
        linear = ll ∙ inv.linear;
        present = lh ∙ inv.present;
        rows = lr ∙ inv.rows;
        keys = lk ∙ inv.keys;
        weights = lw ∙ inv.weights;
        first = λ i k. firsts-left (suc i) (omega (arith, k));
        second = λ i k. seconds-left (suc i) (omega (arith, k));
        few = λ i. few-left (suc i);
        left = λ o f.
            ap (logged_at ps' qs' cs') (
            turn o f ∙ ap (λ (z : ℤ). log_pair p q z (model_of (tables o l h r f ks ws n))) e)
            ∙ sym (logs-step p ps' q qs' c cs' (model_of (tables o l h r f ks ws n)))
            ∙ sym (ap (λ (s : List ℕ). logged_at s (q ∷ qs') (c ∷ cs') (model_of (tables o l h r f ks ws n))) step.0.0)
            ∙ sym (ap₂ (λ (s : List ℕ) (t : List ℤ). logged_at ps s t (model_of (tables o l h r f ks ws n))) step.0.1 step.1)
            ∙ inv.left o f;
        grows = omega (arith, inv.grows, long.grows);
        room = omega (arith, inv.room, long.most, ap filled step.1, same);
        rest = long.rest ∙ drop-later n n' (zip ks ws) (zip ks₀ ws₀) long.grows inv.rest;
        size =
            omega (
              arith,
              inv.size,
              ap length step.0.0,
              ap sizes more,
              log_pair-sizes p q z (model_of (tables (pos 0) l h r [] ks ws n)),
              abs-halves c,
              pair-few,
              ap nat_abs e,
            );
      }

-- before the first turn all are left
pub pairs-starts : (at : Slot → ℕ) (is : List Place) (cs : List ℤ) (l : List ℤ) (h r ks : List ℕ) (ws : List ℤ) (n : ℕ) {ps qs : List ℕ} → ps ≡ firsts at is → qs ≡ seconds at is
    → ((s : Slot) → at s < length l) → ((i : ℕ) → nat_abs (get_or cs i (pos 0)) ≤ 6) → Logging at is cs l h r ks ws n l h r ks ws n ps qs cs
pairs-starts at is cs l h r ks ws n {ps} {qs} e e' wired few =
    record {
      linear = refl;
      present = refl;
      rows = refl;
      keys = refl;
      weights = refl;
      first = rw e (λ i k. firsts-below at (length l) wired is i (omega (arith, k, length-map is (λ (p : Place). at p.fst))));
      second = rw e' (λ i k. seconds-below at (length l) wired is i (omega (arith, k, length-map is (λ (p : Place). at p.snd))));
      few = few;
      left = λ o f.
          ap₂ (λ (s t : List ℕ). logged_at s t cs (model_of (tables o l h r f ks ws n))) e e' ∙ logs_at at is cs (model_of (tables o l h r f ks ws n));
      grows = omega arith;
      room = omega arith;
      rest = refl;
      size = omega (arith, ap length e, length-map is (λ (p : Place). at p.fst));
    }

-- at the end nothing is left
logs-none : (ps qs : List ℕ) (cs : List ℤ) (m : Model) → ((ps ≡ []) ⊎ (qs ≡ [])) ⊎ (cs ≡ []) → logged_at ps qs cs m ≡ m
unfolding logged_at
logs-none [] qs cs m e = refl
logs-none (p ∷ ps) [] cs m e = refl
logs-none (p ∷ ps) (q ∷ qs) [] m e = refl
logs-none (p ∷ ps) (q ∷ qs) (c ∷ cs) m (inl (inl e)) = let n : length (p ∷ ps) ≡ 0 = ap length e in absurd (omega (arith, n))
logs-none (p ∷ ps) (q ∷ qs) (c ∷ cs) m (inl (inr e)) = let n : length (q ∷ qs) ≡ 0 = ap length e in absurd (omega (arith, n))
logs-none (p ∷ ps) (q ∷ qs) (c ∷ cs) m (inr e) = let n : length (c ∷ cs) ≡ 0 = ap length e in absurd (omega (arith, n))

-- an iterator over the three tables ends where one of them does
pub one-ended : {A X Y Z : Type 0} {P : X → Type 0} {Q : Y → Type 0} {R : Z → Type 0} {ps qs : List ℕ} {cs : List ℤ}
    → (A × (((x : X) × ((length ps ≡ 0) × P x)) ⊎ ((y : Y) × ((length qs ≡ 0) × Q y)))) ⊎ ((z : Z) × ((length cs ≡ 0) × R z))
    → ((ps ≡ []) ⊎ (qs ≡ [])) ⊎ (cs ≡ [])
one-ended (inl (a, inl s)) = inl (inl (nil_from_length _ s.1.0))
one-ended (inl (a, inr s)) = inl (inr (nil_from_length _ s.1.0))
one-ended (inr s) = inr (nil_from_length _ s.1.0)

pub pairs-done : {at : Slot → ℕ} {is : List Place} {cs₀ : List ℤ} {l₀ : List ℤ} {h₀ r₀ ks₀ : List ℕ} {ws₀ : List ℤ} {n₀ : ℕ} {l : List ℤ} {h r ks : List ℕ} {ws : List ℤ} {n : ℕ}
    {ps qs : List ℕ} {cs : List ℤ}
    → Logging at is cs₀ l₀ h₀ r₀ ks₀ ws₀ n₀ l h r ks ws n ps qs cs → ((ps ≡ []) ⊎ (qs ≡ [])) ⊎ (cs ≡ [])
    → (o : ℤ) (f : List ℕ) → model_of (tables o l h r f ks ws n) ≡ log_pairs at is cs₀ (model_of (tables o l₀ h₀ r₀ f ks₀ ws₀ n₀))
pairs-done {l = l} {h} {r} {ks} {ws} {n} {ps} {qs} {cs} inv done o f =
    sym (logs-none ps qs cs (model_of (tables o l h r f ks ws n)) done) ∙ inv.left o f

-- ---- the tables at the end: a model that the tables hold, with a longer log
pub held : (t u : Tables) (m : Model) (k : ℕ) → t.count ≤ length t.entries → model_of t ≡ m → Longer u.count t.count k u.entries t.entries → t ≡ hold m u
held t u m k fits e long =
    let pairs : take t.count t.entries ≡ m.pairs = ap (λ (m : Model). m.pairs) e in
    let count : t.count ≡ length m.pairs = sym (length-take-le t.count t.entries fits) ∙ ap length pairs in
    let entries : t.entries ≡ over m.pairs u.count u.entries =
    sym (take-append-drop t.count t.entries)
    ∙ ap₂ ◌++◌ pairs (long.rest ∙ ap (λ (i : ℕ). drop i u.entries) count)
    ∙ sym (over-more m.pairs u.count u.entries (omega (arith, long.grows))) in
    λ i. record {
      offset = (e i).offset;
      linear = (e i).linear;
      has_linear = (e i).has_linear;
      has_row = (e i).has_row;
      fixed = (e i).fixed;
      entries = entries i;
      count = count i;
    }

-- the whole of placing: the offset, the linear coefficients, the pairs
pub all_placed : (o o' : ℤ) (l l₁ : List ℤ) (h h₁ r f ks : List ℕ) (ws : List ℤ) (n : ℕ) (at : Slot → ℕ) (p : Penalty)
    → o' ≡ o +ℤ halves p.offset
    → ((m : Model) → with_linear l₁ h₁ m ≡ add_linears at singles p.linear (with_linear l h m))
    → log_pairs at twos p.pairs (model_of (tables o' l₁ h₁ r f ks ws n)) ≡ logged at p (model_of (tables o l h r f ks ws n))
unfolding logged
all_placed o o' l l₁ h h₁ r f ks ws n at p e s =
    ap (log_pairs at twos p.pairs) (s (model_of (tables o' l h r f ks ws n)) ∙ ap (λ (z : ℤ). add_linears at singles p.linear (model_of (tables z l h r f ks ws n))) e)
