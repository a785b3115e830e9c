-- Theorems over the definitions of specs/Numbering.antt, where their subject is told. An edit of such a definition is refused here.
-- Assumes nothing.
use Rattle.std.specs.Prelude.{List, [], ◌∷◌, ℕ}
use Rattle.std.proofs.Common.{sym, subst, inl, inr}
use Rattle.energy.specs.Plain.{Setting, Obey}
use Rattle.energy.specs.Circuit.{Nodes}
use Rattle.energy.specs.Numbering.{In, gate_rows, obey-left, obey-right, row_by}

-- ---- the run of the rows is the run of the circuit

pub obey-gate : (N : Nodes) (base : ℕ → ℕ) (σ : Setting) (gs : List ℕ) → Obey σ (gate_rows N base gs) → (g : ℕ) → In g gs → Obey σ (row_by N base g (N g))
obey-gate N base σ [] o g i = absurd i
obey-gate N base σ (h ∷ gs) o g (inl e) =
    subst (λ (g : ℕ). Obey σ (row_by N base g (N g))) (sym e) (obey-left σ (row_by N base h (N h)) (gate_rows N base gs) o)
obey-gate N base σ (h ∷ gs) o g (inr i) = obey-gate N base σ gs (obey-right σ (row_by N base h (N h)) (gate_rows N base gs) o) g i
