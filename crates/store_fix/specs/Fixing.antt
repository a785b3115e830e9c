-- What the code of fixing asks, and the other end of a pair as it finds it.
-- Assumes nothing: these are definitions.
use Rattle.std.specs.Prelude.{cond, Option, Some, None, List, ◌≡◌, ℕ, ◌+◌, ◌^◌, ◌≤◌, ℤ, length, take}
use Rattle.energy.specs.Model.{Inside, touches, neighbour, sizes}
use Rattle.store_pairs.specs.Store.{zip, load}

-- the other qubit of a pair with q; a pair without q has none
abbrev pub end : ℕ → ℕ → Option ℕ
end q k = cond (touches q k) (Some (neighbour q k)) None

pub record Taking (ks : List ℕ) (ws : List ℤ) (n : ℕ) (l : List ℤ) (h : List ℕ) : Type 0 where
  pub even : length ws ≡ length ks
  pub used : n ≤ length ks
  pub present : length h ≡ length l
  pub inside : Inside (length l) (take n (zip ks ws))
  pub names : length l ≤ 65536
  pub small : load (take n (zip ks ws)) + sizes l ≤ 2 ^ 40
