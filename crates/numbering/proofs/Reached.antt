-- "Unreached gates get nothing": a gate has a qubit exactly when it is reached from a bad state or a constraint.
-- Assumes nothing.
use Rattle.std.proofs.Math.Path.{◌≡◌, subst}
use Rattle.std.specs.Prelude.{refl, ◌⊎◌, ℕ, zero, suc, ◌≤◌, ◌<◌, get_or}
use Rattle.std.proofs.Common.{sym, ◌∙◌, inl, inr, arith}
use mathlib.Core.List.{List, [], ◌∷◌}
use Rattle.std.proofs.Math.Decide.{ℕ_discrete}
use Rattle.energy.specs.Circuit.{Circuit, Gate, ConstFalse, ConstTrue, InputBit, Not, And, Nand, Or, Matriarch1, CarryHalfAdder, CarryFullAdder, ResultHalfAdder, ResultFullAdder, Quotient, Remainder, node, nodes_of, Before, AllBelow}
use Rattle.energy.specs.Numbering.{In, in_left, reads}
use Rattle.numbering.specs.State.{State, slot, start}
use Rattle.numbering.specs.Visit.{take, operands, each, process, visit_of}
use Rattle.numbering.specs.Numbered.{roots, numbered, visit_roots, joins_of, number}
use Rattle.numbering.specs.Fuel.{operands-below, reads-below, visit-fresh, visit-had}
use Rattle.numbering.specs.Laws.{AllHave, Placed, take-there}
use Rattle.numbering.specs.Rows.{in_right, in_either}
use Rattle.numbering.specs.Finished.{Formed, Finished, finished, start_none, roots-had, roots-fresh, before-joins, joins-keep}
use Rattle.numbering.specs.Reached.{visited, Reached, root, from}

-- ---- only what is reached

-- Where R holds of a gate, and with a gate of what it visits, it holds of every gate that a visit gave a qubit.
module _ (gs : List Gate) (ordered : (g : ℕ) → Before (nodes_of gs) g (nodes_of gs g)) (R : ℕ → Type 0)
    (down : (g : ℕ) → R g → (x : ℕ) → In x (visited gs g) → R x) where
  abbrev Only : State → Type 0
  Only s = (h : ℕ) → 1 ≤ slot s h → R h

  abbrev Keeps : (ℕ → State → State) → ℕ → Type 0
  Keeps v g = (x : ℕ) → x < g → R x → (s : State) → Only s → Only (v x s)

  each-only : (v : ℕ → State → State) (g : ℕ) → Keeps v g → (xs : List ℕ) → AllBelow g xs → ((x : ℕ) → In x xs → R x) → (s : State) → Only s → Only (each v xs s)
  unfolding each
  each-only v g keeps [] b r s only = only
  each-only v g keeps (x ∷ xs) b r s only =
      each-only v g keeps xs b.1 (λ y i. r y (inr i)) (v x s) (keeps x b.0 (r x (inl refl)) s only)

  process-only : (v : ℕ → State → State) (g : ℕ) → Keeps v g → R g → (s : State) → Only s → Only (process v g (get_or gs g ConstFalse) s)
  unfolding process
  process-only v g keeps r s only =
      each-only v g keeps (reads (nodes_of gs g)) (reads-below (nodes_of gs) g (nodes_of gs g) (ordered g))
      (λ x i. down g r x (in_right x (operands (get_or gs g ConstFalse)) (reads (nodes_of gs g)) i))
      (take g (nodes_of gs g) (each v (operands (get_or gs g ConstFalse)) s))
      (λ h has. named h (ℕ_discrete h g) has)
    where
      before : Only (each v (operands (get_or gs g ConstFalse)) s)
      before =
          each-only v g keeps (operands (get_or gs g ConstFalse)) (operands-below (nodes_of gs) g (get_or gs g ConstFalse) (ordered g))
          (λ x i. down g r x (in_left x (operands (get_or gs g ConstFalse)) (reads (nodes_of gs g)) i)) s only

      named : (h : ℕ) → Dec (h ≡ g) → 1 ≤ slot (take g (nodes_of gs g) (each v (operands (get_or gs g ConstFalse)) s)) h → R h
      named h (yes e) has = subst R (sym e) r
      named h (no n) has = before h (rw (take-there g (nodes_of gs g) (each v (operands (get_or gs g ConstFalse)) s) h n) at has)

  visit-only-below : (n g : ℕ) → g < n → R g → (s : State) → Only s → Only (visit_of gs g s)
  visit-only-below zero g l r s only = absurd (omega arith)
  visit-only-below (suc n) g l r s only = go (ℕ_discrete (slot s g) 0) (λ x h. visit-only-below n x (omega arith))
    where
      go : Dec (slot s g ≡ 0) → Keeps (visit_of gs) g → Only (visit_of gs g s)
      go (yes e) keeps = rw (visit-fresh gs ordered g s e) (process-only (visit_of gs) g keeps r s only)
      go (no n) keeps = rw (visit-had gs ordered g s n) only

  pub visit-only : (g : ℕ) → R g → (s : State) → Only s → Only (visit_of gs g s)
  visit-only g = visit-only-below (suc g) g (omega arith)

  roots-only : (rs : List ℕ) → ((x : ℕ) → In x rs → R x) → (s t : State) → Only s → visit_roots gs rs s ≡ numbered t → Only t
  unfolding visit_roots
  roots-only [] r s t only e = let same : s ≡ t = cc in subst Only same only
  roots-only (g ∷ rs) r s t only e =
      go (ℕ_discrete (slot s g) 0) (λ z. roots-only rs (λ y i. r y (inr i)) (visit_of gs g s) t (visit-only g (r g (inl refl)) s only) (sym (roots-fresh gs ordered g rs s z) ∙ e))
    where
      go : Dec (slot s g ≡ 0) → (slot s g ≡ 0 → Only t) → Only t
      go (yes z) rest = rest z
      go (no n) rest = let z : ◌≡◌ {A = ℕ} 0 1 = cc (roots-had gs ordered g rs s n) in absurd (omega arith)

-- ---- all that is reached

-- a gate that has a qubit has operands that have one
operands-have : (t : State) (h : ℕ) (gate : Gate) → Placed t h (node gate) → AllHave t (operands gate)
operands-have t h ConstFalse p = tt
operands-have t h ConstTrue p = tt
operands-have t h InputBit p = tt
operands-have t h (Not x) p = (p.1.has, tt)
operands-have t h (And x y) p = (p.1.has, (p.2.has, tt))
operands-have t h (Nand x y) p = (p.1.has, (p.2.has, tt))
operands-have t h (Or x y) p = (p.1.has, (p.2.has, tt))
operands-have t h (Matriarch1 x y) p = (p.1.has, (p.2.has, tt))
operands-have t h (CarryHalfAdder x) p = (p.0, tt)
operands-have t h (CarryFullAdder x) p = (p.0, tt)
operands-have t h (ResultHalfAdder x y) p = (p.1.has, (p.2.has, tt))
operands-have t h (ResultFullAdder x y z) p = (p.1.has, (p.2.has, (p.3.has, tt)))
operands-have t h (Quotient i n d) p = tt
operands-have t h (Remainder i n d) p = tt

have-in : (t : State) (xs : List ℕ) → AllHave t xs → (x : ℕ) → In x xs → 1 ≤ slot t x
have-in t [] a x i = absurd i
have-in t (y ∷ xs) a x (inl e) = rw e a.0
have-in t (y ∷ xs) a x (inr i) = have-in t xs a.1 x i

module _ (c : Circuit) (formed : Formed c) (t : State) (e : number c ≡ numbered t) where
  fin : Finished c t
  fin = finished c formed t e

  visited-have : (g : ℕ) → 1 ≤ slot t g → (x : ℕ) → In x (visited c.gates g) → 1 ≤ slot t x
  visited-have g has x i = go (in_either x (operands (get_or c.gates g ConstFalse)) (reads (nodes_of c.gates g)) i)
    where
      go : In x (operands (get_or c.gates g ConstFalse)) ⊎ In x (reads (nodes_of c.gates g)) → 1 ≤ slot t x
      go (inl j) = have-in t (operands (get_or c.gates g ConstFalse)) (operands-have t g (get_or c.gates g ConstFalse) (fin.placed g has)) x j
      go (inr j) = have-in t (reads (nodes_of c.gates g)) (fin.full g has) x j

  -- a reached gate has a qubit
  pub reached_has : (g : ℕ) → Reached c g → 1 ≤ slot t g
  reached_has g (root i) = have-in t (roots c) fin.reached g i
  reached_has g (from h r i) = visited-have h (reached_has h r) g i

  -- and no other gate has one
  pub has-reached : (g : ℕ) → 1 ≤ slot t g → Reached c g
  has-reached g has =
      let (s, f, j) = before-joins c t e in
      roots-only c.gates formed.ordered (Reached c) (λ h r x i. from h r i) (roots c) (λ x i. root i) (start c) s
      (λ h a. absurd (omega (arith, start_none c h))) f g (rw (joins-keep (joins_of c) 1 s, j) has)
