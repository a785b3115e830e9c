-- The row of a name, put together from what the code read.
-- Assumes nothing.
use mathlib.Core.Path.{◌≡◌, refl, ap}
use mathlib.Core.List.{List, [], ◌∷◌}
use Prim.Native.Nat.{ℕ, ◌+◌, ◌-◌}
use native.Mathlib.Omega.{arith}
use lib.ListN.{get_or}
use borrow.Author.Tests.{eq-eqb, ne_eqb}
use Rattle.units.specs.declared.Qubit.{Qubit}
use Rattle.units.specs.Name.{qubit}
use Rattle.penalty.specs.declared.Kind.TheVariants.{Or}
use Rattle.circuit.specs.File.{field}
use Rattle.store_place.specs.declared.Wires.{Wires}
use Rattle.model_rows.specs.declared.Placed.{Placed}
use Rattle.std.specs.Prelude.{Option, Some}
use Rattle.model_rows.specs.Found.{join_at, found}

or-wires : {p r : Qubit} {x y q : ℕ} → p.0 ≡ x → r.0 ≡ y
    → ◌≡◌ {A = Wires} (record { x1 = p; x2 = r; x3 = p; z = qubit q; a = qubit q; k = qubit q })
    (record { x1 = qubit x; x2 = qubit y; x3 = qubit x; z = qubit (q + 0); a = qubit q; k = qubit (q + 0) })
or-wires {q = q} e f i =
    let z : q ≡ q + 0 = omega arith in
    record { x1 = qubit (e i); x2 = qubit (f i); x3 = qubit (e i); z = qubit (z i); a = qubit q; k = qubit (z i) }

abbrev or-row : Wires → Option Placed
or-row w = Some (record { kind = Or; wires = w })

module _ (b : List ℕ) (bads : ℕ) (qs : List ℕ) (j q : ℕ) {r : Qubit} (other : r.0 ≡ get_or qs (field b (bads + j) 0) 0 - 1) where
  pub first-join : {p : Qubit} → j ≡ 1 → p.0 ≡ get_or qs (field b bads 0) 0 - 1
      → or-row (record { x1 = p; x2 = r; x3 = p; z = qubit q; a = qubit q; k = qubit q }) ≡ found (join_at b bads qs j q ∷ [])
  first-join e f = rw (eq-eqb j 1 e) (ap or-row (or-wires f other))

  pub later-join : (j ≡ 1 → ⊥)
      → or-row (record { x1 = qubit (q - 1); x2 = r; x3 = qubit (q - 1); z = qubit q; a = qubit q; k = qubit q }) ≡ found (join_at b bads qs j q ∷ [])
  later-join n = rw (ne_eqb j 1 n) (ap or-row (or-wires refl other))
