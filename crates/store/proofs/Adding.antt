-- One linear entry: what the code's tests say of `gained` and `marked`, and that these two are the model's `add_linear`.
-- Assumes nothing.
use mathlib.Core.Bool.{Bool, true, false, cond}
use mathlib.Core.List.{List}
use mathlib.Core.Path.{◌≡◌, refl, sym, ap, ◌∙◌}
use Prim.Native.Nat.{ℕ, ◌+◌, ◌≤◌}
use native.Mathlib.Omega.{arith}
use lib.IntN.{ℤ, pos, negsuc, nat_abs, ◌+ℤ◌}
use lib.ListN.{length, set, get_or, length-set}
use borrow.Author.Tests.{eqb-true}
use Rattle.energy.specs.Model.{Model, is_zero, join_linear, add_linear, gated, sizes}
use Rattle.energy.specs.Mass.{sizes-gain}
use Rattle.store.specs.Tables.{gained, marked, with_linear}

pub zero_test : (c : ℤ) → c ≡ pos 0 → is_zero c ≡ true
zero_test c e = ap is_zero e

pub other_test : (c : ℤ) → (c ≡ pos 0 → ⊥) → is_zero c ≡ false
other_test c f = go (is_zero c) refl
  where
    back : (c : ℤ) → is_zero c ≡ true → c ≡ pos 0
    back (pos n) e = ap pos (eqb-true n 0 e)
    back (negsuc n) e = let z : ◌≡◌ {A = ℕ} 0 1 = cc in let y : ⊥ = omega arith in absurd y

    go : (b : Bool) → is_zero c ≡ b → b ≡ false
    go true e = absurd (f (back c e))
    go false e = refl

-- adding 0 changes nothing
pub not-gained : (q : ℕ) (c : ℤ) (l : List ℤ) (h : List ℕ) → c ≡ pos 0 → (l ≡ gained q c l) × (h ≡ marked q c h)
unfolding gained marked
not-gained q c l h e = (
  ap (λ (b : Bool). cond b l (set l q (get_or l q (pos 0) +ℤ c))) (sym (zero_test c e)),
  ap (λ (b : Bool). cond b h (set h q 1)) (sym (zero_test c e)),
)

-- adding another number does; c' is what the machine reads back of it
pub was-gained : (q : ℕ) (c c' : ℤ) (l l' : List ℤ) (h h' : List ℕ) → c' ≡ c → (c ≡ pos 0 → ⊥) → l' ≡ set l q (get_or l q (pos 0) +ℤ c') → h' ≡ set h q 1
    → (l' ≡ gained q c l) × (h' ≡ marked q c h)
unfolding gained marked
was-gained q c c' l l' h h' e f p r = (
  p ∙ ap (λ (z : ℤ). set l q (get_or l q (pos 0) +ℤ z)) e ∙ ap (λ (b : Bool). cond b l (set l q (get_or l q (pos 0) +ℤ c))) (sym (other_test c f)),
  r ∙ ap (λ (b : Bool). cond b h (set h q 1)) (sym (other_test c f)),
)

pub add-linear-is : (q : ℕ) (c : ℤ) (l : List ℤ) (h : List ℕ) (m : Model) → add_linear q c (with_linear l h m) ≡ with_linear (gained q c l) (marked q c h) m
unfolding add_linear gained marked
add-linear-is q c l h m = go (is_zero c)
  where
    go : (b : Bool)
        → cond b (with_linear l h m) (join_linear q c (with_linear l h m))
        ≡ with_linear (cond b l (set l q (get_or l q (pos 0) +ℤ c))) (cond b h (set h q 1)) m
    go true = refl
    go false = refl

-- ---- sizes

pub gained-length : (q : ℕ) (c : ℤ) (l : List ℤ) → length (gained q c l) ≡ length l
unfolding gained
gained-length q c l = go (is_zero c)
  where
    go : (b : Bool) → length (cond b l (set l q (get_or l q (pos 0) +ℤ c))) ≡ length l
    go true = refl
    go false = length-set l q (get_or l q (pos 0) +ℤ c)

pub gained-sizes : (q : ℕ) (c : ℤ) (l : List ℤ) → sizes (gained q c l) ≤ sizes l + nat_abs c
unfolding gained
gained-sizes q c l = go (is_zero c)
  where
    go : (b : Bool) → sizes (cond b l (set l q (get_or l q (pos 0) +ℤ c))) ≤ sizes l + nat_abs c
    go true = omega arith
    go false = sizes-gain l q c

-- ---- what is given times a value

pub not-given : (on : Bool) (at : ℕ) (w : ℤ) (l : List ℤ) (h : List ℕ) → on ≡ false → (l ≡ gained at (gated on w) l) × (h ≡ marked at (gated on w) h)
not-given on at w l h o = not-gained at (gated on w) l h (ap (λ (b : Bool). gated b w) o)
