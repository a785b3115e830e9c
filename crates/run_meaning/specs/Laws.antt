-- What a run's answer means: laws of the definitions.
--     run-energy       the energy is the finished model's energy at the completed values
--     energy-same      values that are not needed do not matter to it
--     shows-fixed      a fixed qubit's value shows its fixed value where it was not given
--     energy-exact     the f64 is exactly the halves
-- Assumes nothing.
use Rattle.std.specs.Prelude.{◌≡◌, ◌⊎◌, Bool, true, false, ℕ, suc, ◌+◌, ◌^◌, ◌≤◌, ◌<◌, eqb, ℤ, nat_abs, get_or}
use Rattle.std.proofs.Math.Path.{refl, sym, ap, ap₂}
use Rattle.std.proofs.Common.{◌∙◌, add-zero, eq-eqb, ne_eqb}
use Rattle.std.proofs.Math.Logic.{inl, inr}
use mathlib.Core.List.{List, [], ◌∷◌}
use native.Mathlib.Omega.{arith}
use Rattle.std.proofs.Math.IntN.{pos, ◌+ℤ◌}
use Rattle.std.specs.Float.Ieee.Exact.{HasValue}
use Rattle.units.specs.declared.Form.{Form}
use Rattle.units.specs.declared.Form.TheVariants.{Binary, Ising}
use Rattle.units.specs.Halves.{negative, energy_of, exact}
use Rattle.energy.specs.Plain.{Setting}
use Rattle.energy.specs.Circuit.{Constraint}
use Rattle.energy.specs.Numbering.{Named, Numbering}
use Rattle.energy.specs.Model.{Entry, Model, low, high, gated, signed, linear_by, pairs_by, energy_by, binary_energy, energy_in, mass}
use Rattle.energy.specs.Mass.{energy-size}
use Rattle.energy.specs.Fixing.{complete}
use Rattle.energy.specs.Finished.{Room, Known, model, finished, fixes, in_form}
use Rattle.energy.proofs.Finished.{after-fixing, either-form}
use Rattle.run_values.specs.Need.{table, put, Net, fixed_at, step, need_of}
use Rattle.run_rules.specs.Layout.{Formed}
use Rattle.run_values.specs.Fuel.{need_of-step}

-- The energy of the finished model at the values found is, in either form, the energy before fixing at those values completed by the fixed ones.
pub run-energy : (n : ℕ) (d : Named) → (num : Numbering d) (room : Room n d) (cs : List Constraint) (known : Known d.reached cs) (form : Form) (σ : Setting)
    → energy_in form σ (in_form form (finished n d cs)) ≡ binary_energy (complete (fixes d cs) σ) (model n d)
run-energy n d num room cs known form σ = either-form n d num room cs known form σ ∙ after-fixing n d num room cs known σ

-- two settings agree at the ends of the pairs
abbrev pub SameEnds : Setting → Setting → List Entry → Type 0
SameEnds σ τ [] = Unit {0}
SameEnds σ τ (e ∷ s) = (σ (low e.0) ≡ τ (low e.0)) × (σ (high e.0) ≡ τ (high e.0)) × SameEnds σ τ s

module _ (f : Bool → ℤ → ℤ) (none : (b : Bool) → f b (pos 0) ≡ pos 0) (j : Bool → Bool → Bool) (σ τ : Setting) where
  linear-same : (q : ℕ) (cs : List ℤ) → ((i : ℕ) → (get_or cs i (pos 0) ≡ pos 0) ⊎ (σ (q + i) ≡ τ (q + i))) → linear_by f σ q cs ≡ linear_by f τ q cs
  unfolding linear_by
  linear-same q [] h = refl
  linear-same q (c ∷ cs) h = ap₂ ◌+ℤ◌ (here (h 0)) (linear-same (suc q) cs (λ i. there i (h (suc i))))
    where
      here : (c ≡ pos 0) ⊎ (σ (q + 0) ≡ τ (q + 0)) → f (σ q) c ≡ f (τ q) c
      here (inl e) = rw e (none (σ q) ∙ sym (none (τ q)))
      here (inr e) = ap (λ (b : Bool). f b c) (rw (add-zero q) at e)

      there : (i : ℕ) → (get_or cs i (pos 0) ≡ pos 0) ⊎ (σ (q + suc i) ≡ τ (q + suc i)) → (get_or cs i (pos 0) ≡ pos 0) ⊎ (σ (suc q + i) ≡ τ (suc q + i))
      there i (inl e) = inl e
      there i (inr e) = let k : q + suc i ≡ suc q + i = omega arith in inr (rw k at e)

  pairs-same : (s : List Entry) → SameEnds σ τ s → pairs_by f j σ s ≡ pairs_by f j τ s
  unfolding pairs_by
  pairs-same [] h = refl
  pairs-same (e ∷ s) h = rw (h.0, h.1, pairs-same s h.2)

  by-same : (m : Model) → ((q : ℕ) → (get_or m.linear q (pos 0) ≡ pos 0) ⊎ (σ q ≡ τ q)) → SameEnds σ τ m.pairs → energy_by f j σ m ≡ energy_by f j τ m
  unfolding energy_by
  by-same m h k = rw (linear-same 0 m.linear (λ i. shift i (h i)), pairs-same m.pairs k)
    where
      shift : (i : ℕ) → (get_or m.linear i (pos 0) ≡ pos 0) ⊎ (σ i ≡ τ i) → (get_or m.linear i (pos 0) ≡ pos 0) ⊎ (σ (0 + i) ≡ τ (0 + i))
      shift i (inl e) = inl e
      shift i (inr e) = let k : 0 + i ≡ i = omega arith in inr (rw k e)

-- Values that are not needed do not matter: only those where a linear coefficient is not 0, and those at the ends of a pair.
pub energy-same : (form : Form) (σ τ : Setting) (m : Model) → ((q : ℕ) → (get_or m.linear q (pos 0) ≡ pos 0) ⊎ (σ q ≡ τ q)) → SameEnds σ τ m.pairs
    → energy_in form σ m ≡ energy_in form τ m
energy-same Binary σ τ m h k = by-same gated (λ b. go b) _ σ τ m h k
  where
    go : (b : Bool) → gated b (pos 0) ≡ pos 0
    go true = refl
    go false = refl
energy-same Ising σ τ m h k = by-same signed (λ b. go b) _ σ τ m h k
  where
    go : (b : Bool) → signed b (pos 0) ≡ pos 0
    go true = refl
    go false = refl

-- A fixed qubit that was not given shows its fixed value.
pub shows-fixed : (u : Net) → Formed u.circuit u.state → (q : ℕ) → q < u.state.next → (t : List ℕ) → get_or t q 0 ≡ 2 → (fixed_at u q ≡ 0 → ⊥)
    → need_of u q t ≡ put q (eqb (fixed_at u q) 2) t
unfolding step
shows-fixed u formed q named t e f = need_of-step u formed q named t ∙ rw (eq-eqb (get_or t q 0) 2 e, ne_eqb (fixed_at u q) 0 f)

-- A value that is given, or was found before, stays.
pub stays : (u : Net) → Formed u.circuit u.state → (q : ℕ) → q < u.state.next → (t : List ℕ) → (get_or t q 0 ≡ 2 → ⊥) → need_of u q t ≡ table t
unfolding step
stays u formed q named t f = need_of-step u formed q named t ∙ rw (ne_eqb (get_or t q 0) 2 f)

-- The f64 of a run is exactly its halves.
pub energy-exact : (form : Form) (σ : Setting) (m : Model) → mass m ≤ 2 ^ 40
    → HasValue (energy_of (energy_in form σ m) form).value (negative (energy_in form σ m)) (nat_abs (energy_in form σ m)) 2
energy-exact form σ m h = exact (energy_in form σ m) (omega (arith, energy-size form σ m))
