-- Pair tables that were lent in one, and are the caller's again.
-- Assumes nothing.
use Rattle.std.proofs.Common.{◌≡◌, ap₂, List, ℕ, ℤ}
use Rattle.store.specs.Tables.{tables}

pub back : {o : ℤ} {l : List ℤ} {h r f ks ks' : List ℕ} {ws ws' : List ℤ} {n : ℕ} → ks' ≡ ks → ws' ≡ ws → tables o l h r f ks' ws' n ≡ tables o l h r f ks ws n
back {o} {l} {h} {r} {f} {n = n} p q = ap₂ (λ (a : List ℕ) (b : List ℤ). tables o l h r f a b n) p q
