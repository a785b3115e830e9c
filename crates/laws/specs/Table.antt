-- Tables: a list that is written at one place, and read with a default where it has no entry.
-- Assumes nothing.
use Rattle.std.specs.Prelude.{◌≡◌, refl, List, [], ◌∷◌, ℕ, zero, suc, get_or, set, replicate}
use Rattle.std.proofs.Common.{◌∙◌, get_or-set_other}
use Rattle.std.proofs.Math.Decide.{ℕ_discrete}

module _ {A : Type 0} where
  -- an entry that is set to the default, inside or past the end
  pub set-default : (l : List A) (i : ℕ) (d : A) → get_or (set l i d) i d ≡ d
  set-default [] i d = refl
  set-default (x ∷ l) zero d = refl
  set-default (x ∷ l) (suc i) d = set-default l i d

  -- setting some entry to the default leaves one that has it
  pub set-leaves : (l : List A) (i q : ℕ) (d : A) → get_or l q d ≡ d → get_or (set l i d) q d ≡ d
  set-leaves l i q d e = go (ℕ_discrete q i)
    where
      go : Dec (q ≡ i) → get_or (set l i d) q d ≡ d
      go (yes k) = rw k (set-default l i d)
      go (no k) = get_or-set_other l i q d d k ∙ e

  -- a table of the default
  pub get_or-same : (n q : ℕ) (d : A) → get_or (replicate n d) q d ≡ d
  get_or-same zero q d = refl
  get_or-same (suc n) zero d = refl
  get_or-same (suc n) (suc q) d = get_or-same n q d
