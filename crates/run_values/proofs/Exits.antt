-- What a `?` returns where a step stops.
-- Assumes nothing.
use mathlib.Core.Path.{◌≡◌}
use mathlib.Core.List.{List}
use Prim.Native.Nat.{ℕ}
use Rattle.std.specs.Prelude.{Result}
use Rattle.std.specs.Result.{IsErrAnd}
use Rattle.laws.specs.Handed.{handed_on}
use Rattle.run_values.specs.declared.Stop.{Stop}
use Rattle.run_values.specs.Need.{Got, stopped, went}

pub returned : (r : Result (Unit {0}) Stop) (t : List ℕ) {x : Stop} {g : Got} → IsErrAnd r (λ y. y ≡ x) → stopped x ≡ g → went r t ≡ g
returned r t h e = rw (handed_on r h) e
