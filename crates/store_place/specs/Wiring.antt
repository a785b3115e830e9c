-- The qubits at the slots of a penalty.
-- Assumes nothing: these are definitions.
use Rattle.std.specs.Prelude.{List, map, ℕ}
use Rattle.penalty.specs.Rows.{Slot, in₁, in₂, in₃, res, aux, car, Place}
use Rattle.store_place.specs.declared.Wires.{Wires}

-- the qubit at each slot of a penalty
abbrev pub slots_of : Wires → Slot → ℕ
slots_of w in₁ = w.x1.0
slots_of w in₂ = w.x2.0
slots_of w in₃ = w.x3.0
slots_of w res = w.z.0
slots_of w aux = w.a.0
slots_of w car = w.k.0

-- the qubits at the first, and at the second, of each of these places
abbrev pub firsts : (Slot → ℕ) → List Place → List ℕ
firsts at ps = map (λ (p : Place). at p.fst) ps

abbrev pub seconds : (Slot → ℕ) → List Place → List ℕ
seconds at ps = map (λ (p : Place). at p.snd) ps
