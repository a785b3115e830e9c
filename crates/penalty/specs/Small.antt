-- Every coefficient of the table is even, and at most 6 in size, as proofs/Small.antt shows. A store's sums stay in range by the one, and the Ising form is whole by the other.
-- Assumes nothing.
use Rattle.std.specs.Prelude.{List, [], ◌∷◌, Bool, true, ◌&&◌, ◌≤◌, leb, ℤ, nat_abs}
use Rattle.laws.specs.Half.{Even, evenb}

abbrev pub small : ℤ → Bool
small c = leb (nat_abs c) 6 && evenb c

abbrev pub each : List ℤ → Bool
each [] = true
each (c ∷ cs) = small c && each cs

-- what the test says of a coefficient
pub record Small (c : ℤ) : Type 0 where
  pub size : nat_abs c ≤ 6
  pub even : Even c
