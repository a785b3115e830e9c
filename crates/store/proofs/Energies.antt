-- The loops that count and that sum an energy: what is counted or summed, and what is left, is the whole.
-- Assumes nothing.
use mathlib.Core.Bool.{Bool}
use mathlib.Core.List.{List, [], ◌∷◌}
use mathlib.Core.Path.{◌≡◌, refl, sym, ap, ap₂, ◌∙◌}
use Prim.Native.Nat.{ℕ, suc, ◌+◌, ◌≤◌, ◌<◌}
use native.Mathlib.Numerals.{add-one}
use Rattle.std.proofs.Common.{add-zero, ◌≢◌, ◌⊎◌, inl, inr}
use Rattle.std.proofs.lemmas.Bool.Decides.{nat_tests}
use native.Mathlib.Omega.{arith}
use lib.IntN.{ℤ, pos, nat_abs, ◌+ℤ◌, +ℤ_assoc, +ℤ_idl, +ℤ_idr}
use lib.ListN.{length, take, drop, get_or, drop_of_length-le}
use lib.Seq.{drop-cons}
use mir.Syntax.{w64}
use mir.Val.{SFits}
use Rattle.laws.specs.Abs.{abs-add, fits-abs}
use Rattle.units.specs.declared.Form.{Form}
use Rattle.units.specs.declared.Form.TheVariants.{Binary, Ising}
use Rattle.energy.specs.Plain.{Setting}
use Rattle.energy.specs.Model.{Entry, Inside, low, high, counted, linear_by, pairs_by, energy_by, energy_in, sizes}
use Rattle.energy.specs.Mass.{abs-gated, abs-signed, linear-size, pairs-size}
use Rattle.store_pairs.specs.Store.{zip, load}
use Rattle.store_pairs.proofs.Tables.{zip-nil}
use Rattle.store.specs.declared.Totals.{Totals}
use Rattle.store.specs.Tables.{tables, model_of, one_at}
use Rattle.store.specs.Evaluating.{weight_in, joint_in, energy-in, Evaluating}

-- ---- the count

pub record Counting (h r : List ℕ) (n i : ℕ) : Type 0 where
  pub within : i ≤ length h
  pub small : n ≤ i
  pub whole : n + counted (drop i h) (drop i r) ≡ counted h r

counted_step : (h r : List ℕ) (i : ℕ) → i < length h → i < length r → counted (drop i h) (drop i r) ≡ one_at h r i + counted (drop (suc i) h) (drop (suc i) r)
unfolding counted
counted_step h r i a b = ap₂ counted (drop-cons h i 0 a) (drop-cons r i 0 b)

counted-nil : (r : List ℕ) → counted [] r ≡ 0
unfolding counted
counted-nil r = refl

module _ {h r : List ℕ} {n i : ℕ} (m : Counting h r n i) (same : length r ≡ length h) (more : i < length h) where
  turn : (k : ℕ) → k ≤ 1 → one_at h r i ≡ k → Counting h r (n + k) (i + 1)
  turn k few e =
      record {
        within = omega arith;
        small = omega (arith, m.small);
        whole = rw add-one (omega (arith, m.whole, counted_step h r i more (omega arith)));
      }

  pub counts : (get_or h i 0 ≡ 1) ⊎ (get_or r i 0 ≡ 1) → Counting h r (n + 1) (i + 1)
  counts one = turn 1 (omega arith) (grind (arith, nat_tests))

  pub skips : get_or h i 0 ≢ 1 → get_or r i 0 ≢ 1 → Counting h r n (i + 1)
  skips a b = let e = turn 0 (omega arith) (grind (arith, nat_tests)) in rw add-zero at e

pub count-done : {h r : List ℕ} {n i : ℕ} → Counting h r n i → length h ≤ i → n ≡ counted h r
count-done {h} {r} {n} {i} m done =
    omega (arith, m.whole, ap (λ (s : List ℕ). counted s (drop i r)) (drop_of_length-le h done), counted-nil (drop i r))

-- ---- the linear coefficients

-- a coefficient times a value is no larger
pub weight-small : (form : Form) (b : Bool) (c : ℤ) → nat_abs (weight_in form b c) ≤ nat_abs c
weight-small Binary b c = abs-gated b c
weight-small Ising b c = abs-signed b c

pub record Weighing (form : Form) (σ : Setting) (l : List ℤ) (e : ℤ) (i : ℕ) : Type 0 where
  pub within : i ≤ length l
  pub small : nat_abs e + sizes (drop i l) ≤ sizes l
  pub whole : e +ℤ linear_by (weight_in form) σ i (drop i l) ≡ linear_by (weight_in form) σ 0 l

linear-cons : (f : Bool → ℤ → ℤ) (σ : Setting) (q : ℕ) (c : ℤ) (cs : List ℤ) → linear_by f σ q (c ∷ cs) ≡ f (σ q) c +ℤ linear_by f σ (suc q) cs
unfolding linear_by
linear-cons f σ q c cs = refl

linear-nil : (f : Bool → ℤ → ℤ) (σ : Setting) (q : ℕ) → linear_by f σ q [] ≡ pos 0
unfolding linear_by
linear-nil f σ q = refl

module _ {form : Form} {σ : Setting} {l : List ℤ} {e : ℤ} {i : ℕ} (m : Weighing form σ l e i) (more : i < length l) where
  entry : ℤ
  entry = get_or l i (pos 0)

  step : drop i l ≡ get_or l i (pos 0) ∷ drop (suc i) l
  step = drop-cons l i (pos 0) more

  pub coef-small : nat_abs (get_or l i (pos 0)) ≤ sizes l
  coef-small = omega (arith, m.small, ap sizes step)

  pub weigh-small : (x : ℤ) → x ≡ weight_in form (σ i) (get_or l i (pos 0)) → nat_abs (e +ℤ x) ≤ sizes l
  weigh-small x is = omega (arith, m.small, ap sizes step, abs-add e x, ap nat_abs is, weight-small form (σ i) (get_or l i (pos 0)))

  pub weigh-turn : {t : ℤ} (x : ℤ) → x ≡ weight_in form (σ i) (get_or l i (pos 0)) → t ≡ e +ℤ x → Weighing form σ l t (i + 1)
  weigh-turn {t} x is sum =
      rw add-one
      (record {
        within = omega arith;
        small = omega (arith, m.small, ap sizes step, abs-add e x, ap nat_abs is, ap nat_abs sum, weight-small form (σ i) (get_or l i (pos 0)));
        whole =
            ap (λ (z : ℤ). z +ℤ linear_by (weight_in form) σ (suc i) (drop (suc i) l)) (sum ∙ ap (λ (z : ℤ). e +ℤ z) is)
            ∙ +ℤ_assoc e (weight_in form (σ i) (get_or l i (pos 0))) (linear_by (weight_in form) σ (suc i) (drop (suc i) l))
            ∙ ap (λ (z : ℤ). e +ℤ z) (sym (ap (linear_by (weight_in form) σ i) step ∙ linear-cons (weight_in form) σ i (get_or l i (pos 0)) (drop (suc i) l)))
            ∙ m.whole;
      })

pub weigh-done : {form : Form} {σ : Setting} {l : List ℤ} {e : ℤ} {i : ℕ} → Weighing form σ l e i → length l ≤ i → e ≡ linear_by (weight_in form) σ 0 l
weigh-done {form} {σ} {l} {e} {i} m done =
    sym (+ℤ_idr e)
    ∙ ap (λ (z : ℤ). e +ℤ z) (sym (ap (linear_by (weight_in form) σ i) (drop_of_length-le l done) ∙ linear-nil (weight_in form) σ i))
    ∙ m.whole

-- ---- the pairs

-- T is summed, s is left of it
pub record Joining (form : Form) (j : Bool → Bool → Bool) (σ : Setting) (k : ℕ) (T : List Entry) (e : ℤ) (s : List Entry) : Type 0 where
  pub small : nat_abs e + load s ≤ load T
  pub whole : e +ℤ pairs_by (weight_in form) j σ s ≡ pairs_by (weight_in form) j σ T
  pub inside : Inside k s

pairs-cons : (f : Bool → ℤ → ℤ) (j : Bool → Bool → Bool) (σ : Setting) (x : Entry) (s : List Entry)
    → pairs_by f j σ (x ∷ s) ≡ f (j (σ (low x.0)) (σ (high x.0))) x.1 +ℤ pairs_by f j σ s
unfolding pairs_by
pairs-cons f j σ x s = refl

pairs-nil : (f : Bool → ℤ → ℤ) (j : Bool → Bool → Bool) (σ : Setting) → pairs_by f j σ [] ≡ pos 0
unfolding pairs_by
pairs-nil f j σ = refl

-- before the first
pub join-starts : (form : Form) (j : Bool → Bool → Bool) (σ : Setting) (k : ℕ) (T : List Entry) {s : List Entry} → s ≡ T → Inside k T → Joining form j σ k T (pos 0) s
join-starts form j σ k T same inside =
    record {
      small = omega (arith, ap load same);
      whole = ap (λ (t : List Entry). pos 0 +ℤ pairs_by (weight_in form) j σ t) same ∙ +ℤ_idl (pairs_by (weight_in form) j σ T);
      inside = rw same inside;
    }

module _ {form : Form} {j : Bool → Bool → Bool} {σ : Setting} {k : ℕ} {T : List Entry} {e : ℤ} {ks ls : List ℕ} {ws vs : List ℤ} {key : ℕ} {weight : ℤ}
    (m : Joining form j σ k T e (zip ks ws)) (step : (ks ≡ key ∷ ls) × (ws ≡ weight ∷ vs)) where
  next : zip ks ws ≡ (key, weight) ∷ zip ls vs
  next = ap₂ zip step.0 step.1

  abbrev term : ℤ
  term = weight_in form (j (σ (low key)) (σ (high key))) weight

  next-inside : Inside k ((key, weight) ∷ zip ls vs)
  next-inside = rw next at m.inside

  pub low_below : low key < k
  low_below = omega (arith, next-inside.0, next-inside.1)

  pub high-below : high key < k
  high-below = next-inside.1

  pub weight-below : nat_abs weight ≤ load T
  weight-below = omega (arith, m.small, ap load next)

  pub join-small : (x : ℤ) → x ≡ term → nat_abs (e +ℤ x) ≤ load T
  join-small x is =
      omega (arith, m.small, ap load next, abs-add e x, ap nat_abs is, weight-small form (j (σ (low key)) (σ (high key))) weight)

  pub join-turn : {t : ℤ} (x : ℤ) → x ≡ term → t ≡ e +ℤ x → Joining form j σ k T t (zip ls vs)
  join-turn {t} x is sum =
      record {
        small = omega (arith, m.small, ap load next, abs-add e x, ap nat_abs is, ap nat_abs sum, weight-small form (j (σ (low key)) (σ (high key))) weight);
        whole =
            ap (λ (z : ℤ). z +ℤ pairs_by (weight_in form) j σ (zip ls vs)) (sum ∙ ap (λ (z : ℤ). e +ℤ z) is)
            ∙ +ℤ_assoc e term (pairs_by (weight_in form) j σ (zip ls vs))
            ∙ ap (λ (z : ℤ). e +ℤ z) (sym (ap (pairs_by (weight_in form) j σ) next ∙ pairs-cons (weight_in form) j σ (key, weight) (zip ls vs)))
            ∙ m.whole;
        inside = next-inside.2;
      }

zip-none : (ks : List ℕ) (ws : List ℤ) → (ks ≡ []) ⊎ (ws ≡ []) → zip ks ws ≡ []
zip-none ks ws (inl h) = ap (λ (ks : List ℕ). zip ks ws) h
zip-none ks ws (inr h) = ap (zip ks) h ∙ zip-nil ks

pub join-done : {form : Form} {j : Bool → Bool → Bool} {σ : Setting} {k : ℕ} {T : List Entry} {e : ℤ} {ks : List ℕ} {ws : List ℤ} → Joining form j σ k T e (zip ks ws)
    → (ks ≡ []) ⊎ (ws ≡ []) → e ≡ pairs_by (weight_in form) j σ T
join-done {form} {j} {σ} {k} {T} {e} {ks} {ws} m done =
    sym (+ℤ_idr e)
    ∙ ap (λ (z : ℤ). e +ℤ z) (sym (ap (pairs_by (weight_in form) j σ) (zip-none ks ws done) ∙ pairs-nil (weight_in form) j σ))
    ∙ m.whole

-- ---- the two sums, and the offset with them, are in range, and are the energy

pub offset-fits : {l : List ℤ} {ks : List ℕ} {ws : List ℤ} {t : Totals} {vs : List ℕ} → Evaluating l ks ws t vs → SFits w64 t.offset
offset-fits {l} {ks} {ws} {t} {vs} r = fits-abs w64 _ (omega (arith, r.small))

module _ (form : Form) (σ : Setting) {l : List ℤ} {ks : List ℕ} {ws : List ℤ} {t : Totals} {vs : List ℕ} (r : Evaluating l ks ws t vs) {a b : ℤ}
    (p : a ≡ linear_by (weight_in form) σ 0 l) (q : b ≡ pairs_by (weight_in form) (joint_in form) σ (take t.count (zip ks ws))) where
  a_small : nat_abs a ≤ sizes l
  a_small = omega (arith, ap nat_abs p, linear-size (weight_in form) (weight-small form) σ 0 l)

  b-small : nat_abs b ≤ load (take t.count (zip ks ws))
  b-small = omega (arith, ap nat_abs q, pairs-size (weight_in form) (weight-small form) σ (joint_in form) (take t.count (zip ks ws)))

  pub sum-fits : SFits w64 (a +ℤ b)
  sum-fits = fits-abs w64 _ (omega (arith, abs-add a b, a_small, b-small, r.small))

  pub all-fits : SFits w64 (t.offset +ℤ (a +ℤ b))
  all-fits = fits-abs w64 _ (omega (arith, abs-add a b, abs-add t.offset (a +ℤ b), a_small, b-small, r.small))

  pub all-is : (h rs f : List ℕ) → t.offset +ℤ (a +ℤ b) ≡ energy_in form σ (model_of (tables t.offset l h rs f ks ws t.count))
  unfolding energy_by
  all-is h rs f = ap₂ (λ (x y : ℤ). t.offset +ℤ (x +ℤ y)) p q ∙ sym (energy-in form σ (model_of (tables t.offset l h rs f ks ws t.count)))
