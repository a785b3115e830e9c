-- A run asks of the linear coefficients only the energy: so those past the names, which are 0, do not matter.
-- Assumes nothing.
use Rattle.std.specs.Prelude.{◌≡◌, Bool, ◌&&◌, eqb, ltb, ℤ, pos, length, get_or, take, drop}
use Rattle.std.proofs.Math.Path.{refl, ap, ap₂, sym}
use Rattle.std.proofs.Common.{◌∙◌, arith}
use Rattle.std.proofs.Math.Bool.{true, false}
use Rattle.std.specs.Bool.{beq}
use mathlib.Core.List.{List, [], ◌∷◌}
use Prim.Native.Nat.{ℕ, zero, suc, ◌≤◌}
use Rattle.std.proofs.Math.IntN.{◌+ℤ◌}
use Rattle.units.specs.declared.Form.{Form}
use Rattle.units.specs.declared.Form.TheVariants.{Binary, Ising}
use Rattle.energy.specs.Plain.{Setting}
use Rattle.energy.specs.Model.{Model, linear_by, energy_by, energy_in, gated, signed, pairs_by}
use Rattle.energy.specs.Stored.{Additive, gated-add, signed_add, additive-zero}
use Rattle.store.specs.Tables.{with_linear}
use Rattle.circuit.specs.declared.Refusal.TheVariants.{FewValues, OtherCount}
use Rattle.run_meaning.specs.Need.{Got, table, stopped}
use Rattle.run_meaning.specs.Ran.{Built, done, refusal, answer, setting_of, true_nids, finished, choose, unknowns, valued, within, beside, ran}

module _ (f : Bool → ℤ → ℤ) (fa : Additive f) (σ : Setting) where
  linear-none : (q : ℕ) (l : List ℤ) → ((i : ℕ) → get_or l i (pos 0) ≡ pos 0) → linear_by f σ q l ≡ pos 0
  unfolding linear_by
  linear-none q [] h = refl
  linear-none q (c ∷ l) h =
      ap₂ ◌+ℤ◌ (ap (f (σ q)) (h 0) ∙ additive-zero f fa (σ q)) (linear-none (suc q) l (λ i. h (suc i)))

  -- coefficients that are 0 from n on
  linear-cut : (n q : ℕ) (l : List ℤ) → ((i : ℕ) → n ≤ i → get_or l i (pos 0) ≡ pos 0) → linear_by f σ q (take n l) ≡ linear_by f σ q l
  unfolding linear_by
  linear-cut zero q l h = sym (linear-none q l (λ i. h i (omega arith)))
  linear-cut (suc n) q [] h = refl
  linear-cut (suc n) q (c ∷ l) h = ap (λ (x : ℤ). f (σ q) c +ℤ x) (linear-cut n (suc q) l (λ i k. h (suc i) (omega arith)))

-- the model with its first n linear coefficients alone
abbrev pub cut : ℕ → Model → Model
cut n m = with_linear (take n m.linear) m.has_linear m

module _ (n : ℕ) (m : Model) (zeros : (i : ℕ) → n ≤ i → get_or m.linear i (pos 0) ≡ pos 0) (σ : Setting) where
  energy_by-cut : (f : Bool → ℤ → ℤ) → Additive f → (j : Bool → Bool → Bool) → energy_by f j σ (cut n m) ≡ energy_by f j σ m
  unfolding energy_by
  energy_by-cut f fa j = ap (λ (x : ℤ). m.offset +ℤ (x +ℤ pairs_by f j σ m.pairs)) (linear-cut f fa σ n 0 m.linear zeros)

  energy-cut : (form : Form) → energy_in form σ (cut n m) ≡ energy_in form σ m
  energy-cut Binary = energy_by-cut gated gated-add ◌&&◌
  energy-cut Ising = energy_by-cut signed signed_add beq

-- a run from it
abbrev pub cut_off : ℕ → Built → Built
cut_off n u = record { circuit = u.circuit; state = u.state; model = cut n u.model; form = u.form }

module _ (n : ℕ) (u : Built) (zeros : (i : ℕ) → n ≤ i → get_or u.model.linear i (pos 0) ≡ pos 0) where
  finished-cut : (g : Got) → finished (cut_off n u) g ≡ finished u g
  finished-cut (table t) =
      ap (λ (h : ℤ). done (answer u.form h (true_nids u.state u.circuit.bads t)) t) (energy-cut n u.model zeros (setting_of t) u.form)
  finished-cut (stopped x) = refl

  within-cut : (vs : List ℤ) → within (cut_off n u) vs ≡ within u vs
  unfolding within valued
  within-cut vs = go (eqb (length vs) (length u.circuit.inputs))
    where
      go : (b : Bool) → choose b (λ t. finished (cut_off n u) (valued (cut_off n u) vs t)) (done (refusal OtherCount)) (unknowns u)
          ≡ choose b (λ t. finished u (valued u vs t)) (done (refusal OtherCount)) (unknowns u)
      go true = finished-cut (valued u vs (unknowns u))
      go false = refl

  -- the run is the same
  pub ran-cut : (vs : List ℤ) (t : List ℕ) → ran (cut_off n u) vs t ≡ ran u vs t
  unfolding ran
  ran-cut vs t = go (ltb (length t) u.state.next)
    where
      go : (b : Bool) → choose b (done (refusal FewValues)) (λ t. beside (drop u.state.next t) (within (cut_off n u) vs)) t
          ≡ choose b (done (refusal FewValues)) (λ t. beside (drop u.state.next t) (within u vs)) t
      go true = refl
      go false = ap (beside (drop u.state.next t)) (within-cut vs)
