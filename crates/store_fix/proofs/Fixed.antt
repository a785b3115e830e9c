-- The whole of fixing, from its parts.
-- Assumes nothing.
use mathlib.Core.Bool.{Bool, cond}
use mathlib.Core.List.{List}
use mathlib.Core.Path.{◌≡◌, ap, ◌∙◌}
use Prim.Native.Nat.{ℕ, ◌+◌, ◌^◌, ◌≤◌}
use native.Mathlib.Omega.{arith}
use lib.IntN.{ℤ, pos, nat_abs, ◌+ℤ◌}
use lib.ListN.{length, take, set, get_or}
use mir.Syntax.{w64}
use mir.Val.{SFits}
use Rattle.laws.specs.Abs.{fits-abs}
use Rattle.energy.specs.Model.{Model, gated, give, without, clear, fix, sizes, mass}
use Rattle.energy.specs.Mass.{offset-within}
use Rattle.energy.proofs.Mass.{mass-fix}
use Rattle.store_pairs.specs.Store.{zip, over, load}
use Rattle.store.specs.Tables.{tables, model_of, hold, with_linear, Ready}
use Rattle.store_fix.specs.Fixing.{Taking}

module _ {o : ℤ} {l : List ℤ} {h r f ks : List ℕ} {ws : List ℤ} {n : ℕ} (ready : Ready (length l) ks ws (tables o l h r f ks ws n)) where
  abbrev m₀ : Model
  m₀ = model_of (tables o l h r f ks ws n)

  pub load-small : load (take n (zip ks ws)) + sizes l ≤ mass m₀
  unfolding mass
  load-small = omega arith

  pub taking : Taking ks ws n l h
  taking =
      record {
        even = ready.even;
        used = ready.used;
        present = ready.sized.has_linear;
        inside = ready.sized.inside;
        names = ready.sized.names;
        small = omega (arith, load-small, ready.small);
      }

  pub old-fits : SFits w64 o
  old-fits = fits-abs w64 _ (omega (arith, ready.small, offset-within m₀))

  module _ (q : ℕ) (on : Bool) {l₁ : List ℤ} {h₁ : List ℕ}
      (given : (z : Model) → with_linear l₁ h₁ z ≡ give q on (take n (zip ks ws)) (with_linear l h z)) where
    -- the model once the pairs are given, and fixed
    fixed-is : clear q on (with_linear l₁ h₁ m₀) ≡ fix q on m₀
    unfolding fix
    fixed-is = ap (clear q on) (given m₀)

    pub offset-small : nat_abs (o +ℤ gated on (get_or l₁ q (pos 0))) ≤ 2 ^ 40
    offset-small =
        omega (arith, ap (λ (m : Model). nat_abs m.offset) fixed-is, offset-within (fix q on m₀), mass-fix q on m₀, ready.small)

    pub sum-fits : {g : ℤ} → g ≡ gated on (get_or l₁ q (pos 0)) → SFits w64 (o +ℤ g)
    sum-fits {g} e = fits-abs w64 _ (omega (arith, offset-small, ap (λ (z : ℤ). nat_abs (o +ℤ z)) e))

    pub all-fixed : (ks' : List ℕ) (ws' : List ℤ) (count : ℕ) (g o' : ℤ) {l₂ : List ℤ} {h₂ r₂ f₂ : List ℕ} → count ≡ length (without q (take n (zip ks ws)))
        → zip ks' ws' ≡ over (without q (take n (zip ks ws))) n (zip ks ws)
        → g ≡ gated on (get_or l₁ q (pos 0)) → o' ≡ o +ℤ g → l₂ ≡ set l₁ q (pos 0) → h₂ ≡ set h₁ q 0 → r₂ ≡ set r q 0 → f₂ ≡ set f q (cond on 2 1)
        → tables o' l₂ h₂ r₂ f₂ ks' ws' count ≡ hold (fix q on m₀) (tables o l h r f ks ws n)
    all-fixed ks' ws' count g o' {l₂} {h₂} {r₂} {f₂} ec et eg eo el eh er ef =
        parts ∙ ap (λ (m : Model). hold m (tables o l h r f ks ws n)) fixed-is
      where
        parts : tables o' l₂ h₂ r₂ f₂ ks' ws' count ≡ hold (clear q on (with_linear l₁ h₁ m₀)) (tables o l h r f ks ws n)
        parts i =
            record {
              offset = (eo ∙ ap (λ (z : ℤ). o +ℤ z) eg) i;
              linear = el i;
              has_linear = eh i;
              has_row = er i;
              fixed = ef i;
              entries = et i;
              count = ec i;
            }
