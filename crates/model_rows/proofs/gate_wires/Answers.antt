-- `model_rows::gate_wires` meets its contract.
use Rattle.std.proofs.Common.{◌≡◌, ap, ◌∙◌, ℕ, ◌+◌, ◌-◌, ◌≤◌, arith, get_or}
use Rattle.circuit.specs.File.{field}
use Rattle.units.specs.declared.Qubit.{Qubit}
use Rattle.units.specs.Name.{qubit}
use Rattle.penalty.specs.declared.Kind.{Kind}
use Rattle.penalty.specs.declared.Kind.TheVariants.{Not, And, Nand, Matriarch1, Or, Half, Full}
use Rattle.energy.specs.Plain.{more, mid}
use Rattle.store_place.specs.declared.Wires.{Wires}
use Rattle.model_rows.proofs.gate_wires.Goals as goal

middle : (k : Kind) → mid k ≤ more k
middle Not = omega arith
middle And = omega arith
middle Nand = omega arith
middle Matriarch1 = omega arith
middle Or = omega arith
middle Half = omega arith
middle Full = omega arith

same : (q : ℕ) {p₁ p₂ p₃ : Qubit} {x y w u m : ℕ} (k : Kind) → more k ≤ q → p₁.0 ≡ x → p₂.0 ≡ y → p₃.0 ≡ w → u ≡ more k → m ≡ mid k
    → ◌≡◌ {A = Wires} (record { x1 = p₁; x2 = p₂; x3 = p₃; z = qubit q; a = qubit (q - u); k = qubit (q - u + m) })
    (record { x1 = qubit x; x2 = qubit y; x3 = qubit w; z = qubit (q - more k + more k); a = qubit (q - more k); k = qubit (q - more k + mid k) })
same q k few e f g h l i =
    let up : q ≡ q - more k + more k = omega arith in
    record {
      x1 = qubit (e i);
      x2 = qubit (f i);
      x3 = qubit (g i);
      z = qubit (up i);
      a = qubit (q - h i);
      k = qubit (q - h i + l i);
    }

pub named_by-x2-requires : goal.named_by-x2-requires
named_by-x2-requires c = rw c.shape_of-shape.ensures.second c.requires.0.other

pub named_by-x3-requires : goal.named_by-x3-requires
named_by-x3-requires c = rw c.shape_of-shape.ensures.third c.requires.0.last

pub overflow_add-result : goal.overflow_add-result
overflow_add-result c =
    let s = c.shape_of-shape.ensures in
    omega (arith, s.bounds, middle c.args.kind, s.mid, s.more)

pub returns : goal.returns
returns c =
    let a = c.args in
    let s = c.shape_of-shape.ensures in
    let slot : ℕ → ℕ = λ (i : ℕ). get_or a.qubits.now (field a.circuit.now a.g i) 0 - 1 in
    same a.q a.kind (omega (arith, s.bounds, s.more, c.requires.1))
    c.named_by-x1.ensures
    (c.named_by-x2.ensures ∙ ap slot s.second)
    (c.named_by-x3.ensures ∙ ap slot s.third)
    s.more
    s.mid
