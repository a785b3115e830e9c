-- One row placed, or none, as the definition has it.
-- Assumes nothing.
use mathlib.Core.Path.{◌≡◌, sym, ap, ◌∙◌}
use mathlib.Core.List.{List}
use Prim.Native.Nat.{ℕ, ◌≤◌}
use native.Mathlib.Omega.{arith}
use lib.IntN.{ℤ}
use lib.ListN.{length}
use Rattle.penalty.specs.declared.Kind.{Kind}
use Rattle.penalty.specs.declared.Penalty.{Penalty}
use Rattle.penalty.specs.Rows.{row_of}
use Rattle.store_pairs.proofs.Tables.{length-zip}
use Rattle.store_place.specs.declared.Wires.{Wires}
use Rattle.store.specs.Tables.{Tables, tables, model_of, hold}
use Rattle.store_place.specs.Wiring.{slots_of}
use Rattle.store_place.specs.Logged.{logged}
use Rattle.model_rows.specs.declared.Placed.{Placed}
use Rattle.std.specs.Prelude.{Option, Some, None}
use Rattle.model_rows.specs.Found.{placed_by}
use Rattle.store.specs.Held.{hold-same}

pub row-placed : {p : Option Placed} {k : Kind} {w : Wires} {x : Penalty} {u : Tables} (t : Tables) → p ≡ Some (record { kind = k; wires = w }) → x ≡ row_of k → u ≡ hold (logged (slots_of w) x (model_of t)) t → u ≡ hold (placed_by p (model_of t)) t
row-placed {w = w} t e f g =
    g ∙ ap (λ (x : Penalty). hold (logged (slots_of w) x (model_of t)) t) f ∙ ap (λ (p : Option Placed). hold (placed_by p (model_of t)) t) (sym e)

pub none-placed : {p : Option Placed} (o : ℤ) (l : List ℤ) (h r f ks : List ℕ) (ws : List ℤ) (n : ℕ) → p ≡ None → length ws ≡ length ks → n ≤ length ks
    → tables o l h r f ks ws n ≡ hold (placed_by p (model_of (tables o l h r f ks ws n))) (tables o l h r f ks ws n)
none-placed o l h r f ks ws n e even used =
    hold-same (tables o l h r f ks ws n) (omega (arith, length-zip ks ws even))
    ∙ ap (λ (p : Option Placed). hold (placed_by p (model_of (tables o l h r f ks ws n))) (tables o l h r f ks ws n)) (sym e)
