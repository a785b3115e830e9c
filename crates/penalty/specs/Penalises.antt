-- The energy of a penalty, and what the theorem of proofs/Penalises.antt says: it is 0 where the outputs are what the gate's rule says, and at least 2 otherwise.
-- Assumes nothing.
use Rattle.std.specs.Prelude.{◌≡◌, List, [], ◌∷◌, Bool, true, false, cond, ◌&&◌, ℕ, ◌≤◌, eqb, leb, ℤ, pos, negsuc, nat_abs, ◌+ℤ◌}
use Rattle.penalty.specs.declared.Kind.{Kind}
use Rattle.penalty.specs.declared.Penalty.{Penalty}
use Rattle.penalty.specs.Rows.{Slot, Place, singles, twos, row_of}
use Rattle.penalty.specs.Rule.{obeys}

-- ---- the energy

-- a coefficient counts where both of its qubits are true
abbrev pub sum_at : (Slot → Bool) → List Place → List ℤ → ℤ
sum_at v [] cs = pos 0
sum_at v (p ∷ ps) [] = pos 0
sum_at v (p ∷ ps) (c ∷ cs) = cond (v p.fst && v p.snd) c (pos 0) +ℤ sum_at v ps cs

unfoldable pub energy : Penalty → (Slot → Bool) → ℤ
energy p v = p.offset +ℤ (sum_at v singles p.linear +ℤ sum_at v twos p.pairs)

-- ---- what the one test asks

-- an energy is right for its verdict: 0 where the rule is obeyed, at least 2 elsewhere
abbrev pub right : Bool → ℤ → Bool
right b (pos n) = cond b (eqb n 0) (leb 2 n)
right b (negsuc n) = false

-- ---- what the theorem says

-- what a row's energy is: never negative, so a natural number
unfoldable pub row_energy : Kind → (Slot → Bool) → ℕ
row_energy kind v = nat_abs (energy (row_of kind) v)

-- a row's energy is right: 0 exactly where the rule is obeyed, and nowhere 1
pub record Penalises (kind : Kind) (v : Slot → Bool) : Type 0 where
  pub natural : energy (row_of kind) v ≡ pos (row_energy kind v)
  pub obeyed : obeys kind v ≡ true → row_energy kind v ≡ 0
  pub broken : obeys kind v ≡ false → 2 ≤ row_energy kind v
