-- Theorems over the definitions of specs/Clash.antt, where their subject is told. An edit of such a definition is refused here.
-- Assumes nothing.
use Rattle.std.specs.Prelude.{◌≡◌, List, ℕ}
use Rattle.std.proofs.Common.{sym, subst}
use Rattle.energy.specs.Circuit.{Constraint}
use Rattle.energy.specs.Numbering.{Named, Numbering, rows}
use Rattle.energy.specs.Fixing.{Within, placed-fixed}
use Rattle.energy.specs.Finished.{Room, Known, fixes, model, sized-model}
use Rattle.energy.proofs.Finished.{fixes-within}
use Rattle.energy.specs.Clash.{clash, clash-table, clash_in}

-- ---- the same test on the table of fixed values, as the build has it

-- Theorem: over the tables of the model before fixing, the build finds the clash of the fixes.
pub clash-built : (n : ℕ) (d : Named) → Numbering d → Room n d → (cs : List Constraint) → Known d.reached cs
    → clash_in (model n d).fixed (fixes d cs) ≡ clash (fixes d cs)
clash-built n d num room cs known =
    clash-table (model n d).fixed (fixes d cs) (subst (λ (k : ℕ). Within k (fixes d cs)) (sym (sized-model n d num room).fixed) (fixes-within n d num room cs known)) (placed-fixed n (rows d))
