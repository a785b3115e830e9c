-- The one equation of a value that is needed: a step whose recursive calls are such values again. Nothing outside this file speaks of fuel.
--     need_of-step    the equation
-- Assumes nothing.
use Rattle.std.specs.Prelude.{◌≡◌, Bool, true, false, eqb, get_or}
use Rattle.std.proofs.Math.Path.{refl, ap}
use mathlib.Core.List.{List, [], ◌∷◌}
use Prim.Native.Nat.{ℕ, zero, suc, ◌<◌}
use Rattle.std.proofs.Common.{arith}
use Rattle.energy.specs.Circuit.{Circuit}
use Rattle.numbering.specs.State.{State}
use Rattle.run_rules.specs.Rules.{operands, depth}
use Rattle.run_values.specs.Need.{Got, table, stopped, and_then, decide, each, put, settle, Net, law_in, fixed_at, follow, step, need, need_of}
use Rattle.run_rules.specs.Layout.{AllLess, Formed}

pub and_then-ext : (g : Got) (f h : List ℕ → Got) → ((t : List ℕ) → f t ≡ h t) → and_then g f ≡ and_then g h
and_then-ext (table t) f h e = e t
and_then-ext (stopped x) f h e = refl

-- two functions that agree on what is less deep than d
module _ (c : Circuit) (s : State) (n d : ℕ) (v w : ℕ → List ℕ → Got)
    (agree : (x : ℕ) → x < n → depth c s x < d → (t : List ℕ) → v x t ≡ w x t) where
  each-ext : (xs : List ℕ) → AllLess c s n d xs → (t : List ℕ) → each v xs t ≡ each w xs t
  unfolding each
  each-ext [] a t = refl
  each-ext (x ∷ xs) a t = rw (agree x a.0 a.1 t) (and_then-ext (w x t) (each v xs) (each w xs) (each-ext xs a.2))

module _ (u : Net) (formed : Formed u.circuit u.state) where
  module _ (q : ℕ) (named : q < u.state.next) (v w : ℕ → List ℕ → Got)
      (agree : (x : ℕ) → x < u.state.next → depth u.circuit u.state x < depth u.circuit u.state q → (t : List ℕ) → v x t ≡ w x t) where
    follow-ext : (t : List ℕ) → follow u v q t ≡ follow u w q t
    unfolding follow
    follow-ext t =
        ap (λ (g : Got). and_then g (settle (law_in u q) q))
        (each-ext u.circuit u.state u.state.next (depth u.circuit u.state q) v w agree (operands (law_in u q)) (formed.falls q named) t)

    inner : (b : Bool) (t : List ℕ) → decide b (follow u v q) (put q (eqb (fixed_at u q) 2)) t ≡ decide b (follow u w q) (put q (eqb (fixed_at u q) 2)) t
    inner true t = follow-ext t
    inner false t = refl

    outer : (a b : Bool) (t : List ℕ)
        → decide a (decide b (follow u v q) (put q (eqb (fixed_at u q) 2))) table t ≡ decide a (decide b (follow u w q) (put q (eqb (fixed_at u q) 2))) table t
    outer true b t = inner b t
    outer false b t = refl

    step-ext : (t : List ℕ) → step u v q t ≡ step u w q t
    unfolding step
    step-ext t = outer (eqb (get_or t q 0) 2) (eqb (fixed_at u q) 0) t

  -- fuel beyond the depth changes nothing
  fuel : (f h q : ℕ) → q < u.state.next → depth u.circuit u.state q < f → depth u.circuit u.state q < h → (t : List ℕ) → need u f q t ≡ need u h q t
  unfolding need
  fuel zero h q n a b t = absurd (omega arith)
  fuel (suc f) zero q n a b t = absurd (omega arith)
  fuel (suc f) (suc h) q n a b t = step-ext q n (need u f) (need u h) (λ x m l t. fuel f h x m (omega arith) (omega arith) t) t

  pub need_of-step : (q : ℕ) → q < u.state.next → (t : List ℕ) → need_of u q t ≡ step u (need_of u) q t
  unfolding need_of need
  need_of-step q n t =
      step-ext q n (need u (depth u.circuit u.state q)) (need_of u)
      (λ x m l t. fuel (depth u.circuit u.state q) (suc (depth u.circuit u.state x)) x m l (omega arith) t) t
