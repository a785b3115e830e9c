-- What a signed number's text comes to, by the sign and the size.
-- Assumes nothing.
use mathlib.Core.Path.{◌≡◌, ap, sym, ◌∙◌}
use mathlib.Core.List.{List, ◌++◌}
use Prim.Native.Nat.{ℕ}
use lib.IntN.{ℤ, nat_abs}
use mir.Syntax.{w64}
use mir.Val.{SFits, to_z, of_z}
use mir.Facts.{to_z-of_z}
use Rattle.text.specs.Signed.{with_sign, sign, sign_first}

module _ (f : ℕ → List ℕ) (z : ℤ) {n : ℕ} (fits : SFits w64 z) where
  -- the parts, by what the machine reads back of the number
  pub parts : n ≡ nat_abs (to_z w64 (of_z w64 z)) → with_sign f z ≡ sign (to_z w64 (of_z w64 z)) ++ f n
  parts size = ap (with_sign f) (sym (to_z-of_z fits)) ∙ sign_first f _ ∙ ap (λ (n : ℕ). sign (to_z w64 (of_z w64 z)) ++ f n) (sym size)
