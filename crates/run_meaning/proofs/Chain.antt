-- Needing lists one after the other. Assumes nothing.
use mathlib.Core.Path.{◌≡◌, refl, sym, ap, ◌∙◌}
use mathlib.Core.List.{List, [], ◌∷◌, ◌++◌}
use Prim.Native.Nat.{ℕ}
use Rattle.run_values.specs.declared.Stop.{Stop}
use Rattle.run_values.specs.Need.{Got, table, stopped, and_then, each}
use Rattle.run_values.specs.Fuel.{and_then-ext}

pub each_append : (v : ℕ → List ℕ → Got) (xs ys t : List ℕ) → each v (xs ++ ys) t ≡ and_then (each v xs t) (each v ys)
unfolding each
each_append v [] ys t = refl
each_append v (x ∷ xs) ys t = and_then-ext (v x t) (each v (xs ++ ys)) (λ u. and_then (each v xs u) (each v ys)) (each_append v xs ys) ∙ assoc (v x t)
  where
    assoc : (g : Got) → and_then g (λ u. and_then (each v xs u) (each v ys)) ≡ and_then (and_then g (each v xs)) (each v ys)
    assoc (table u) = refl
    assoc (stopped x) = refl

pub then-stop : (v : ℕ → List ℕ → Got) (xs ys t : List ℕ) {x : Stop} → stopped x ≡ each v xs t → stopped x ≡ each v (xs ++ ys) t
then-stop v xs ys t e = ap (λ (g : Got). and_then g (each v ys)) e ∙ sym (each_append v xs ys t)

pub then-on : (v : ℕ → List ℕ → Got) (xs ys t : List ℕ) {u : List ℕ} → table u ≡ each v xs t → each v ys u ≡ each v (xs ++ ys) t
then-on v xs ys t e = ap (λ (g : Got). and_then g (each v ys)) e ∙ sym (each_append v xs ys t)
