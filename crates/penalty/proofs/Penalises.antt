-- The theorem on the penalties: the energy is 0 where the outputs are what the gate's rule says, and at least 2 otherwise.
-- Assumes nothing.
use Rattle.std.specs.Prelude.{◌≡◌, refl, Bool, true, false, ◌≤◌, T, ℤ, pos, negsuc, nat_abs}
use Rattle.std.proofs.Common.{eqb→eq, leb→le}
use Rattle.penalty.specs.declared.Kind.{Kind}
use Rattle.penalty.specs.Rows.{Slot, rows, row_of}
use Rattle.penalty.specs.Rule.{obeys}
use Rattle.penalty.specs.Every.{every_kind, kind_at, every_setting, setting-at}
use Rattle.penalty.specs.Penalises.{Penalises, energy, right, row_energy}

-- ---- the one test, of 7 rows at 64 settings each, which antt computes

tested : T (every_kind (λ (kind : Kind). every_setting (λ v. right (obeys kind v) (energy (row_of kind) v))))
unfolding row_of rows energy obeys
tested = tt

right-at : (kind : Kind) (v : Slot → Bool) → T (right (obeys kind v) (energy (row_of kind) v))
right-at kind = setting-at (λ v. right (obeys kind v) (energy (row_of kind) v)) (kind_at (λ (kind : Kind). every_setting (λ v. right (obeys kind v) (energy (row_of kind) v))) tested kind)

-- ---- the theorem

-- Theorem: every row penalises, at every setting.
pub penalises : (kind : Kind) (v : Slot → Bool) → Penalises kind v
unfolding row_energy
penalises kind v =
    record {
      natural = whole (obeys kind v) (energy (row_of kind) v) (right-at kind v);
      obeyed = λ e. none (energy (row_of kind) v) (rw e at (right-at kind v));
      broken = λ e. some (energy (row_of kind) v) (rw e at (right-at kind v));
    }
  where
    whole : (b : Bool) (e : ℤ) → T (right b e) → e ≡ pos (nat_abs e)
    whole b (pos n) t = refl
    whole b (negsuc n) t = absurd t

    none : (e : ℤ) → T (right true e) → nat_abs e ≡ 0
    none (pos n) t = eqb→eq n 0 t
    none (negsuc n) t = absurd t

    some : (e : ℤ) → T (right false e) → 2 ≤ nat_abs e
    some (pos n) t = leb→le 2 n t
    some (negsuc n) t = absurd t
