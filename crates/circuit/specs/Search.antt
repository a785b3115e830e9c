-- The first of some numbers that passes a test, and whether an earlier one passes it.
-- Assumes nothing.
use Prim.Native.Nat.{ℕ, zero, suc, ◌+◌, ◌-◌, ◌≤◌, ◌<◌}
use Rattle.std.specs.Prelude.{◌≡◌, refl, Bool, true, ◌||◌, [], None, Option, Some}
use Rattle.std.proofs.Common.{sym, ◌∙◌, arith}
use Rattle.std.proofs.Math.Path.{ap}
use Rattle.std.proofs.Math.Bool.{false}
use Rattle.circuit.specs.File.{either, cons_if, those}

-- the first of the m numbers from n on that passes the test
unfoldable pub first_such : (ℕ → Bool) → ℕ → ℕ → Option ℕ
first_such p n zero = None
first_such p n (suc m) =
    let rest = first_such p (suc n) m in
    either (p n) (Some n) rest

-- some number below n passes the test
unfoldable pub any_before : (ℕ → Bool) → ℕ → Bool
any_before p zero = false
any_before p (suc n) = any_before p n || p n

-- ---- a loop from 0 to N, at n: what is left

module _ (p : ℕ → Bool) where
  first_more : (n m k : ℕ) → m ≡ suc k → first_such p n m ≡ either (p n) (Some n) (first_such p (n + 1) k)
  unfolding first_such
  first_more n m k e = rw (e, native.Mathlib.Numerals.add-one)

  pub first_such-step : (n N : ℕ) → n < N → first_such p n (N - n) ≡ either (p n) (Some n) (first_such p (n + 1) (N - (n + 1)))
  first_such-step n N h = first_more n (N - n) (N - (n + 1)) (omega arith)

  first_done : (n m : ℕ) → m ≡ 0 → first_such p n m ≡ None
  unfolding first_such
  first_done n m e = rw e

  pub first_such-end : (n N : ℕ) → N ≤ n → first_such p n (N - n) ≡ None
  first_such-end n N h = first_done n (N - n) (omega arith)

  -- a turn of the loop: it stops at n, goes on, or has come to the end
  module _ (n N : ℕ) (whole : Option ℕ) (left : first_such p n (N - n) ≡ whole) where
    pub stop : n < N → p n ≡ true → Some n ≡ whole
    stop l e = sym (rw e at (first_such-step n N l)) ∙ left

    pub go_on : n < N → p n ≡ false → first_such p (n + 1) (N - (n + 1)) ≡ whole
    go_on l e = sym (rw e at (first_such-step n N l)) ∙ left

    pub end : N ≤ n → None ≡ whole
    end l = sym (first_such-end n N l) ∙ left

  pub all_left : (N : ℕ) → first_such p 0 (N - 0) ≡ first_such p 0 N
  all_left N = ap (first_such p 0) (omega arith)

  those-more : (n m k : ℕ) → m ≡ suc k → those p n m ≡ cons_if (p n) n (those p (n + 1) k)
  unfolding those
  those-more n m k e = rw (e, native.Mathlib.Numerals.add-one)

  pub those-step : (n N : ℕ) → n < N → those p n (N - n) ≡ cons_if (p n) n (those p (n + 1) (N - (n + 1)))
  those-step n N h = those-more n (N - n) (N - (n + 1)) (omega arith)

  those-done : (n m : ℕ) → m ≡ 0 → those p n m ≡ []
  unfolding those
  those-done n m e = rw e

  pub those-end : (n N : ℕ) → N ≤ n → those p n (N - n) ≡ []
  those-end n N h = those-done n (N - n) (omega arith)

-- what stands at n was not found, and the rest neither
here : (b : Bool) (n : ℕ) (rest : Option ℕ) → either b (Some n) rest ≡ None → (b ≡ false) × (rest ≡ None)
here true n rest e = let z : ◌≡◌ {A = ℕ} 0 1 = cc in absurd (omega arith)
here false n rest e = (refl, e)

module _ (p : ℕ → Bool) where
  -- where nothing is found, no number passes the test
  pub found_nowhere : (m n : ℕ) → first_such p n m ≡ None → (k : ℕ) → n ≤ k → k < n + m → p k ≡ false
  unfolding first_such
  found_nowhere zero n e k l h = absurd (omega arith)
  found_nowhere (suc m) n e k l h =
      go (native.Mathlib.Decide.dec_le (suc n) k) (here (p n) n (first_such p (suc n) m) e) (λ f d. found_nowhere m (suc n) f k d (omega arith))
    where
      go : Dec (suc n ≤ k) → (p n ≡ false) × (first_such p (suc n) m ≡ None) → (first_such p (suc n) m ≡ None → suc n ≤ k → p k ≡ false) → p k ≡ false
      go (yes d) both next = next both.1 d
      go (no d) both next = ap p (omega arith) ∙ both.0
