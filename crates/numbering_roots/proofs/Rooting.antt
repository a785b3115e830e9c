-- The plain mathematics of the loops over the roots and over the join steps: what is left to do from here is what there was to do.
--     Rooting     the roots `rest` are left, and the tables have come from s₀ to s
--     Joining     the join steps from j on are left
-- b are the circuit's bytes and l the lists' starts.
-- Assumes nothing.
use mathlib.Core.Path.{◌≡◌, refl, sym, ◌∙◌}
use mathlib.Core.List.{List, ◌∷◌}
use Prim.Native.Nat.{ℕ, suc, ◌+◌, ◌*◌, ◌-◌, ◌≤◌, ◌<◌}
use native.Mathlib.Nat.{sub-eq-zero_of_le}
use native.Mathlib.Omega.{arith}
use lib.ListN.{length}
use Rattle.energy.specs.Circuit.{AllBelow}
use Rattle.circuit.specs.File.{field}
use Rattle.units.specs.declared.Qubit.{Qubit}
use Rattle.units.specs.Name.{first_new}
use Rattle.circuit.specs.Meaning.{circuit_of}
use Rattle.numbering.specs.State.{State, mk, slot, start}
use Rattle.numbering.specs.Visit.{give, visit_of}
use Rattle.numbering.specs.Numbered.{roots, Outcome, refused, numbered, visit_roots, join_names, joins_of, number}
use Rattle.numbering.specs.Laws.{visit-visited}
use Rattle.numbering.specs.Finished.{roots-had, roots-fresh, number_is, start-inv, olong, rlong, fits}
use Rattle.numbering.specs.Read.{gates_in, gates_from, Ready, Prepared}
use Rattle.numbering.proofs.Cycle.{ready_with, gates-more, gates-done}

pub record Rooting (b l all : List ℕ) (s₀ : State) (rest : List ℕ) (s : State) : Type 0 where
  pub ready : Ready b l s
  pub below : AllBelow (length (gates_in b)) rest
  pub same : visit_roots (gates_in b) rest s ≡ visit_roots (gates_in b) all s₀

pub rooting-start : {b l : List ℕ} {s : State} (all : List ℕ) → Ready b l s → AllBelow (length (gates_in b)) all → Rooting b l all s all s
rooting-start all ready below = record { ready = ready; below = below; same = refl }

-- y is the gate as the code read it
module _ {b l all : List ℕ} {s₀ s : State} {n to y : ℕ} (h : n < to) (w : Rooting b l all s₀ (gates_from b 0 n (to - n)) s) (e : y ≡ field b n 0) where
  turn : Rooting b l all s₀ (y ∷ gates_from b 0 (n + 1) (to - (n + 1))) s
  turn = rw (e, ← gates-more b 0 n to h) w

  pub root-inside : y < length (gates_in b)
  root-inside = turn.below.0

  pub root-refused : (slot s y ≡ 0 → ⊥) → refused y s ≡ visit_roots (gates_in b) all s₀
  root-refused ne = sym (roots-had (gates_in b) turn.ready.ordered y (gates_from b 0 (n + 1) (to - (n + 1))) s ne) ∙ turn.same

  pub root-on : {t : State} → slot s y ≡ 0 → t ≡ visit_of (gates_in b) y s → Rooting b l all s₀ (gates_from b 0 (n + 1) (to - (n + 1))) t
  root-on z f =
      let v = visit-visited (gates_in b) turn.ready.ordered y turn.below.0 s turn.ready.inv in
      record {
        ready = rw f (ready_with turn.ready v.inv);
        below = turn.below.1;
        same = rw f (sym (roots-fresh (gates_in b) turn.ready.ordered y (gates_from b 0 (n + 1) (to - (n + 1))) s z) ∙ turn.same);
      }

pub root-end : {b l all : List ℕ} {s₀ s : State} {n to : ℕ} → to ≤ n → Rooting b l all s₀ (gates_from b 0 n (to - n)) s
    → numbered s ≡ visit_roots (gates_in b) all s₀
unfolding visit_roots
root-end {b} {n = n} {to} h w = let z = rw (gates-done b 0 n to h) at w in z.same

-- ---- join steps: j is the next

pub record Joining (s₀ : State) (steps : ℕ) (s : State) (j : ℕ) : Type 0 where
  pub some : 1 ≤ j
  pub same : join_names j (suc steps - j) s ≡ join_names 1 steps s₀
  pub at : s.next + 1 ≡ s₀.next + j

pub joining-start : (s : State) (steps : ℕ) → Joining s steps s 1
joining-start s steps = let e : suc steps - 1 ≡ steps = omega arith in record { some = omega arith; same = rw e; at = omega arith }

join_more : (j steps : ℕ) (s : State) → j ≤ steps → join_names j (suc steps - j) s ≡ join_names (j + 1) (suc steps - (j + 1)) (give j 4 s)
unfolding join_names
join_more j steps s h = let e : suc steps - j ≡ suc (suc steps - (j + 1)) = omega arith in rw e

pub joining-on : {s₀ s : State} {steps j : ℕ} → j ≤ steps → Joining s₀ steps s j → Joining s₀ steps (give j 4 s) (j + 1)
joining-on {s = s} {steps} {j} h w = record { some = omega arith; same = sym (join_more j steps s h) ∙ w.same; at = omega (arith, w.at) }

pub joining-end : {s₀ s : State} {steps j : ℕ} → suc steps ≤ j → Joining s₀ steps s j → s ≡ join_names 1 steps s₀
unfolding join_names
joining-end h w = rw (sub-eq-zero_of_le h) at w.same

-- ---- the whole numbering

-- the lent tables are what they were left as
pub back : {q o r q' o' r' : List ℕ} {n : ℕ} {x : Outcome} → q ≡ q' → o ≡ o' → r ≡ r' → numbered (mk q' o' r' n) ≡ x → numbered (mk q o r n) ≡ x
back e f g h = rw (e, f, g) h

pub back-refused : {q o r q' o' r' : List ℕ} {n g : ℕ} {x : Outcome} → q ≡ q' → o ≡ o' → r ≡ r' → refused g (mk q' o' r' n) ≡ x → refused g (mk q o r n) ≡ x
back-refused e f g h = rw (e, f, g) h

-- the tables (mk q o r 2) are clear, and `first` is the first new name, as the code has it
module _ {b l : List ℕ} {from bads others : ℕ} {q o r : List ℕ} {first : Qubit} (p : Prepared b l from bads others)
    (clear : mk q o r 2 ≡ start (circuit_of b)) (two : first ≡ first_new) where
  cleared : mk q o r first.0 ≡ start (circuit_of b)
  cleared = rw two clear

  stretch : from + bads + others - from ≡ bads + others
  stretch = omega arith

  pub roots-asked : Ready b l (mk q o r first.0) × (from ≤ from + bads + others) × (16 * (from + bads + others) ≤ length b)
      × AllBelow (length (gates_in b)) (gates_from b 0 from (from + bads + others - from))
  roots-asked = (
    record {
      laid = p.laid;
      ordered = p.formed.ordered;
      small = p.small;
      inv = rw cleared (start-inv (circuit_of b) p.formed.some);
    },
    omega arith,
    p.roots_at.whole,
    rw (stretch, ← p.roots_at.roots) p.formed.in_range,
  )

  module _ {x : Outcome} (e : x ≡ visit_roots (gates_in b) (gates_from b 0 from (from + bads + others - from)) (mk q o r first.0)) where
    from_start : visit_roots (gates_in b) (roots (circuit_of b)) (start (circuit_of b)) ≡ x
    from_start = sym (rw (stretch, ← p.roots_at.roots, cleared) at e)

  pub number-refused : {g : ℕ} {s : State} → refused g s ≡ visit_roots (gates_in b) (gates_from b 0 from (from + bads + others - from)) (mk q o r first.0)
      → refused g s ≡ number (circuit_of b)
  number-refused e = rw (number_is (circuit_of b), from_start e)

  -- after the roots: room for the joins' names, and what they are
  module _ {s : State} (e : numbered s ≡ visit_roots (gates_in b) (gates_from b 0 from (from + bads + others - from)) (mk q o r first.0)) where
    steps-are : joins_of (circuit_of b) ≡ bads - 1
    steps-are = omega (arith, p.roots_at.counted)

    pub joins-asked : (s.next + (bads - 1) ≤ length s.origins) × (s.next + (bads - 1) ≤ length s.roles) × (s.next + (bads - 1) < 65536)
    joins-asked =
        let room = fits (circuit_of b) p.formed s (from_start e) in (
          omega (arith, steps-are, olong (circuit_of b) p.formed s (from_start e)),
          omega (arith, steps-are, rlong (circuit_of b) p.formed s (from_start e)),
          omega (arith, steps-are, p.small, p.roots_at.few, p.roots_at.counted),
        )

    pub number-all : {t : State} → t ≡ join_names 1 (bads - 1) s → numbered t ≡ number (circuit_of b)
    number-all f = rw (number_is (circuit_of b), from_start e, steps-are, f)
