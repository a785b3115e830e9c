-- What the code of the energy asks of the tables, and the energy in either form.
-- Assumes nothing.
use Rattle.std.specs.Prelude.{Bool, ◌&&◌, List, ◌≡◌, refl, ℕ, ◌+◌, ◌^◌, ◌≤◌, ℤ, nat_abs, length, take}
use Rattle.std.specs.Bool.{beq}
use Rattle.std.proofs.Common.{sym, ◌∙◌}
use Rattle.units.specs.declared.Form.{Form}
use Rattle.units.specs.declared.Form.TheVariants.{Binary, Ising}
use Rattle.energy.specs.Plain.{Setting}
use Rattle.energy.specs.Model.{Model, Inside, gated, signed, energy_by, energy_in, sizes, mass}
use Rattle.store_pairs.specs.Store.{zip, load}
use Rattle.store.specs.declared.Totals.{Totals}
use Rattle.store.specs.Tables.{tables, Ready}

-- a coefficient times a value, and the product of two values, in each form
abbrev pub weight_in : Form → Bool → ℤ → ℤ
weight_in Binary = gated
weight_in Ising = signed

abbrev pub joint_in : Form → Bool → Bool → Bool
joint_in Binary = ◌&&◌
joint_in Ising = beq

pub energy-in : (form : Form) (σ : Setting) (m : Model) → energy_in form σ m ≡ energy_by (weight_in form) (joint_in form) σ m
energy-in Binary σ m = refl
energy-in Ising σ m = refl

pub record Pairs (ks : List ℕ) (ws : List ℤ) (n : ℕ) (vs : List ℕ) : Type 0 where
  pub even : length ws ≡ length ks
  pub used : n ≤ length ks
  pub inside : Inside (length vs) (take n (zip ks ws))
  pub small : load (take n (zip ks ws)) ≤ 2 ^ 40

pub record Evaluating (l : List ℤ) (ks : List ℕ) (ws : List ℤ) (t : Totals) (vs : List ℕ) : Type 0 where
  pub values : length vs ≡ length l
  pub even : length ws ≡ length ks
  pub used : t.count ≤ length ks
  pub inside : Inside (length l) (take t.count (zip ks ws))
  pub small : nat_abs t.offset + sizes l + load (take t.count (zip ks ws)) ≤ 2 ^ 40

-- a model of the build meets them, with a value for each qubit
pub evaluating : {n : ℕ} {l : List ℤ} {h r f ks : List ℕ} {ws : List ℤ} (t : Totals) (vs : List ℕ) → length vs ≡ n
    → Ready n ks ws (tables t.offset l h r f ks ws t.count) → Evaluating l ks ws t vs
unfolding mass
evaluating {n} {l} {h} {r} {f} {ks} {ws} t vs same ready =
    record {
      values = same ∙ sym ready.sized.linear;
      even = ready.even;
      used = ready.used;
      inside = rw ready.sized.linear ready.sized.inside;
      small = ready.small;
    }
