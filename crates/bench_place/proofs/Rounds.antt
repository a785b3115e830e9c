-- What the timing program's loops keep: tables that grow by one penalty at a time.
-- Assumes nothing.
use mathlib.Core.List.{List}
use mathlib.Core.Path.{◌≡◌, ap}
use Prim.Native.Nat.{ℕ, ◌+◌, ◌*◌, ◌≤◌}
use native.Mathlib.Omega.{arith}
use lib.IntN.{ℤ, pos}
use lib.ListN.{replicate}
use Rattle.penalty.specs.declared.Kind.TheVariants.{Full}
use Rattle.penalty.specs.declared.Penalty.{Penalty}
use Rattle.penalty.specs.Rows.{Slot, row_of}
use Rattle.energy.specs.Model.{sizes, mass}
use Rattle.energy.specs.Mass.{few-row, mass-empty}
use Rattle.store.specs.Tables.{Tables, tables, model_of, hold}
use Rattle.store_place.specs.Logged.{logged}
use Rattle.store_place.specs.Room.{filled, filled_row}
use Rattle.store_place.specs.Growth.{placed-count, placed-mass}

-- a zeroed table weighs nothing
pub zeros-weigh : {l : List ℤ} (n : ℕ) → l ≡ replicate n (pos 0) → sizes l ≡ 0
unfolding mass
zeros-weigh n e = rw e (omega (arith, mass-empty n))

pub record Growing (t : Tables) (i : ℕ) : Type 0 where
  pub count : t.count ≤ 10 * i
  pub size : mass (model_of t) ≤ 264 * i

pub grow-turn : (at : Slot → ℕ) (p : Penalty) (t u : Tables) (i : ℕ) → Growing t i → p ≡ row_of Full → u ≡ hold (logged at p (model_of t)) t → Growing u (i + 1)
grow-turn at p t u i g e h =
    record {
      count = omega (arith, g.count, placed-count at p t u h, ap (λ (p : Penalty). filled p.pairs) e, filled_row Full);
      size = omega (arith, g.size, placed-mass at p t u h (rw e (few-row Full)));
    }

-- at the start
pub grow-starts : (l : List ℤ) (h r f ks : List ℕ) (ws : List ℤ) → sizes l ≡ 0 → Growing (tables (pos 0) l h r f ks ws 0) 0
unfolding mass
grow-starts l h r f ks ws e = record { count = omega arith; size = omega arith }
