-- The values of the model's names stand before the first byte that is none. Assumes nothing.
use Prim.Native.Nat.{ℕ, zero, suc, ◌≤◌}
use mathlib.Core.Bool.{cond}
use mathlib.Core.List.{List, [], ◌∷◌}
use mathlib.Core.Path.{◌≡◌, refl, ap, ◌∙◌}
use native.Mathlib.Omega.{arith}
use lib.Dec.{leb}
use lib.ListN.{length, take}
use Rattle.std.proofs.Common.{length-take}
use Rattle.std.specs.List.{take_while, prefix_len}
use Rattle.std.proofs.lemmas.List.Sums.{take_while-cons}
use Rattle.cases.specs.Lines.{named}

are : (s : List ℕ) → take_while (λ (v : ℕ). leb v 2) s ≡ named s
unfolding named
are [] = refl
are (v ∷ vs) = take_while-cons (λ (v : ℕ). leb v 2) v vs ∙ ap (λ (t : List ℕ). cond (leb v 2) (v ∷ t) []) (are vs)

again : (s : List ℕ) (n : ℕ) → take (length (take n s)) s ≡ take n s
again s zero = refl
again [] (suc n) = refl
again (x ∷ s) (suc n) = ap (λ (t : List ℕ). x ∷ t) (again s n)

pub counted : (s : List ℕ) (n : ℕ) → n ≡ length (take_while (λ (v : ℕ). leb v 2) s) → (n ≤ length s) × (take n s ≡ named s)
counted s n e = (simp e (simp length-take (omega arith)), ap (λ (k : ℕ). take k s) e ∙ again s (prefix_len (λ (v : ℕ). leb v 2) s) ∙ are s)
