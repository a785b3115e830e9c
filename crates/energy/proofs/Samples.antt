-- Theorems over the definitions of specs/Samples.antt, where their subject is told. An edit of such a definition is refused here.
-- Assumes nothing.
use Rattle.std.specs.Prelude.{◌≡◌, refl, [], map, ◌⊎◌, ℕ, zero, suc, ◌≤◌, ◌<◌}
use Rattle.std.proofs.Common.{inl, inr, arith}
use Rattle.penalty.specs.Rows.{rows, row_of}
use Rattle.energy.specs.Plain.{wire, Free}
use Rattle.energy.specs.Circuit.{Before, IsFree}
use Rattle.energy.specs.Numbering.{Numbering, In, AllIn, Operands, reads, name, rows as rows_of}
use Rattle.energy.specs.Model.{ising, add, add_linear, add_pair, place, place_all, give, without, fix, ends, counted, linear_by, pairs_by, energy_by}
use Rattle.energy.specs.Fixing.{fix_all}
use Rattle.energy.specs.Finished.{fixes, Demand3}
use Rattle.energy.proofs.Finished.{demand-3}
use Rattle.energy.specs.Clash.{clash_after, clash-none}
use Rattle.energy.specs.Samples.{P, made, samples}

-- Theorem: the definitions make what 01 says.
pub samples-hold : map made samples ≡ samples
unfolding samples rows row_of wire name add add_linear add_pair place place_all give without fix fix_all ising ends counted linear_by pairs_by energy_by clash_after
samples-hold = refl

-- ---- demand 3 of one circuit, with what its numbering has to prove by hand

-- the laws of a numbering hold of P
pub P-numbering : Numbering P
unfolding name
P-numbering =
    record {
      ordered = ordered;
      closed = λ g i. closed g;
      divisions = λ g i. divisions g;
      bad-in = inr (inr (inl refl));
      bads-in = tt;
      sorted = (omega arith, omega arith, omega arith, omega arith, omega arith);
      frees = λ g i f. frees g f;
      covered = covered;
    }
  where
    ordered : (g : ℕ) → Before P.nodes g (P.nodes g)
    ordered zero = tt
    ordered (suc zero) = tt
    ordered (suc (suc zero)) = (omega arith, omega arith, omega arith)
    ordered (suc (suc (suc g))) = tt

    closed : (g : ℕ) → Operands P.reached (P.nodes g)
    closed zero = tt
    closed (suc zero) = tt
    closed (suc (suc zero)) = (inl refl, inr (inl refl), inl refl)
    closed (suc (suc (suc g))) = tt

    divisions : (g : ℕ) → AllIn (reads (P.nodes g)) P.reached
    divisions zero = tt
    divisions (suc zero) = tt
    divisions (suc (suc zero)) = tt
    divisions (suc (suc (suc g))) = tt

    frees : (g : ℕ) → IsFree (P.nodes g) → (2 ≤ P.base g) × (P.base g < P.count) × (P.origin (P.base g) ≡ g) × Free (rows_of P) (P.base g)
    frees zero f = (omega arith, omega arith, refl, (inl (omega arith), tt))
    frees (suc zero) f = (omega arith, omega arith, refl, (inl (omega arith), tt))
    frees (suc (suc zero)) f = absurd f
    frees (suc (suc (suc g))) f = absurd f

    taken : (4 < 4) ⊎ (4 < 4) → ⊥
    taken (inl h) = omega arith
    taken (inr h) = omega arith

    covered : (q : ℕ) → 2 ≤ q → q < P.count → Free (rows_of P) q → (g : ℕ) × In g P.reached × IsFree (P.nodes g) × (P.base g ≡ q)
    covered zero l h f = absurd (omega arith)
    covered (suc zero) l h f = absurd (omega arith)
    covered (suc (suc zero)) l h f = (0, inl refl, tt, refl)
    covered (suc (suc (suc zero))) l h f = (1, inr (inl refl), tt, refl)
    covered (suc (suc (suc (suc zero)))) l h f = absurd (taken f.0)
    covered (suc (suc (suc (suc (suc q))))) l h f = absurd (omega arith)

-- so demand 3 holds of P's tables
pub P-demand : Demand3 5 P []
unfolding name clash_after
P-demand = demand-3 5 P P-numbering (record { fits = omega arith; names = omega arith }) [] tt (clash-none (fixes P []) refl)
