-- The visit's one equation: a visit is one step whose recursive calls are visits again. Nothing outside this file speaks of fuel.
--     visit_of-step    the equation
--     visit-fresh     of a gate with no qubit
--     visit-had       of a gate that has one
-- Assumes nothing.
use Rattle.std.specs.Prelude.{◌≡◌, Bool, true, false, eqb, get_or}
use Rattle.std.proofs.Math.Path.{refl}
use Rattle.std.proofs.Common.{◌∙◌, arith, eq-eqb, ne_eqb}
use mathlib.Core.List.{List, [], ◌∷◌, ◌++◌}
use Prim.Native.Nat.{ℕ, zero, suc, ◌<◌}
use Rattle.energy.specs.Circuit.{Gate, ConstFalse, ConstTrue, InputBit, Not, And, Nand, Or, Matriarch1, CarryHalfAdder, CarryFullAdder, ResultHalfAdder, ResultFullAdder, Quotient, Remainder, Nodes, Node, fixed, free, op, carry_of, node, nodes_of, Before, AllBelow}
use Rattle.energy.specs.Numbering.{reads}
use Rattle.numbering.specs.State.{State, slot}
use Rattle.numbering.specs.Visit.{choose, operands, each, process, step, visit, visit_of, process_of}

pub each_append : (v : ℕ → State → State) (xs ys : List ℕ) (s : State) → each v (xs ++ ys) s ≡ each v ys (each v xs s)
unfolding each
each_append v [] ys s = refl
each_append v (x ∷ xs) ys s = each_append v xs ys (v x s)

-- what a gate visits comes earlier
pub operands-below : (N : Nodes) (g : ℕ) (gate : Gate) → Before N g (node gate) → AllBelow g (operands gate)
operands-below N g ConstFalse b = search (tt, b)
operands-below N g ConstTrue b = search (tt, b)
operands-below N g InputBit b = search (tt, b)
operands-below N g (Not x) b = search (tt, b)
operands-below N g (And x y) b = search (tt, b)
operands-below N g (Nand x y) b = search (tt, b)
operands-below N g (Or x y) b = search (tt, b)
operands-below N g (Matriarch1 x y) b = search (tt, b)
operands-below N g (CarryHalfAdder x) b = search (tt, b)
operands-below N g (CarryFullAdder x) b = search (tt, b)
operands-below N g (ResultHalfAdder x y) b = search (tt, b)
operands-below N g (ResultFullAdder x y z) b = search (tt, b)
operands-below N g (Quotient i n d) b = search (tt, b)
operands-below N g (Remainder i n d) b = search (tt, b)

pub reads-below : (N : Nodes) (g : ℕ) (n : Node) → Before N g n → AllBelow g (reads n)
reads-below N g (fixed b) h = tt
reads-below N g (free src) h = h
reads-below N g (op k x y z) h = tt
reads-below N g (carry_of x) h = tt

-- two functions that agree below g process g alike
module _ (v w : ℕ → State → State) (g : ℕ) (agree : (x : ℕ) → x < g → (s : State) → v x s ≡ w x s) where
  each-ext : (xs : List ℕ) → AllBelow g xs → (s : State) → each v xs s ≡ each w xs s
  unfolding each
  each-ext [] b s = refl
  each-ext (x ∷ xs) b s = rw (agree x b.0 s) (each-ext xs b.1 (w x s))

  module _ (gs : List Gate) (bf : Before (nodes_of gs) g (nodes_of gs g)) where
    process-ext : (s : State) → process v g (get_or gs g ConstFalse) s ≡ process w g (get_or gs g ConstFalse) s
    unfolding process
    process-ext s =
        rw (each-ext (operands (get_or gs g ConstFalse)) (operands-below (nodes_of gs) g (get_or gs g ConstFalse) bf) s)
        (each-ext (reads (nodes_of gs g)) (reads-below (nodes_of gs) g (nodes_of gs g) bf) _)

    steps : (d : Bool) (s : State) → choose d (process v g (get_or gs g ConstFalse)) (λ s. s) s ≡ choose d (process w g (get_or gs g ConstFalse)) (λ s. s) s
    steps true s = process-ext s
    steps false s = refl

    step-ext : (s : State) → step gs v g s ≡ step gs w g s
    unfolding step
    step-ext s = steps (eqb (slot s g) 0) s

module _ (gs : List Gate) (ordered : (g : ℕ) → Before (nodes_of gs) g (nodes_of gs g)) where
  -- fuel beyond the gate's number changes nothing
  fuel : (f h g : ℕ) → g < f → g < h → (s : State) → visit gs f g s ≡ visit gs h g s
  unfolding visit
  fuel zero h g gf gh s = absurd (omega arith)
  fuel (suc f) zero g gf gh s = absurd (omega arith)
  fuel (suc f) (suc h) g gf gh s =
      step-ext (visit gs f) (visit gs h) g (λ x xg s. fuel f h x (omega arith) (omega arith) s) gs (ordered g) s

  module _ (g : ℕ) (s : State) where
    pub visit_of-step : visit_of gs g s ≡ step gs (visit_of gs) g s
    unfolding visit_of visit
    visit_of-step =
        step-ext (visit gs g) (visit_of gs) g (λ x xg s. fuel g (suc x) x (omega arith) (omega arith) s) gs (ordered g) s

    -- a gate with no qubit is processed
    pub visit-fresh : slot s g ≡ 0 → visit_of gs g s ≡ process_of gs g s
    unfolding step
    visit-fresh e = visit_of-step ∙ rw (eq-eqb (slot s g) 0 e)

    -- a gate that has a qubit keeps it, and nothing else changes
    pub visit-had : (slot s g ≡ 0 → ⊥) → visit_of gs g s ≡ s
    unfolding step
    visit-had n = visit_of-step ∙ rw (ne_eqb (slot s g) 0 n)
