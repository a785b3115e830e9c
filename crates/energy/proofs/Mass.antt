-- Theorems over the definitions of specs/Mass.antt, where their subject is told. An edit of such a definition is refused here.
-- Assumes nothing.
use Rattle.std.specs.Prelude.{◌≡◌, refl, Bool, true, false, cond, ℕ, ◌+◌, ◌*◌, ◌≤◌, pos, nat_abs, get_or}
use Rattle.std.proofs.Common.{ap}
use mathlib.Core.List.{List, [], ◌∷◌}
use native.Mathlib.Omega.{arith}
use Rattle.laws.specs.Abs.{abs-add}
use Rattle.energy.specs.Model.{Entry, Model, low, high, join_linear, add_linear, gated, touches, neighbour, give, without, clear, fix, weights, quarters, ends, ising, sizes, mass}
use Rattle.energy.specs.Sized.{turned}
use Rattle.energy.proofs.Fixing.{give-pairs}
use Rattle.energy.specs.Mass.{abs-gated, given, mass-add_linear, mass-join_linear, mass-turned, sizes-clear, turn}

-- ---- fixing

given-rest : (q : ℕ) (s : List Entry) → sizes (weights (without q s)) + given q s ≡ sizes (weights s)
unfolding without
given-rest q [] = refl
given-rest q (e ∷ s) = go (touches q e.0) (given-rest q s)
  where
    go : (b : Bool) → sizes (weights (without q s)) + given q s ≡ sizes (weights s)
        → sizes (weights (cond b (without q s) (e ∷ without q s))) + (cond b (nat_abs e.1) 0 + given q s) ≡ nat_abs e.1 + sizes (weights s)
    go true r = omega arith
    go false r = omega arith

mass-turn : (q : ℕ) (b : Bool) (e : Entry) (m : Model) → mass (turn q b e m) ≤ mass m + cond (touches q e.0) (nat_abs e.1) 0
mass-turn q b e m = go (touches q e.0)
  where
    go : (t : Bool) → mass (cond t (add_linear (neighbour q e.0) (gated b e.1) m) m) ≤ mass m + cond t (nat_abs e.1) 0
    go true = omega (arith, mass-add_linear (neighbour q e.0) (gated b e.1) m, abs-gated b e.1)
    go false = omega arith

mass-give : (q : ℕ) (b : Bool) (s : List Entry) (m : Model) → mass (give q b s m) ≤ mass m + given q s
unfolding give
mass-give q b [] m = omega arith
mass-give q b (e ∷ s) m = let r = mass-give q b s (turn q b e m) in omega (arith, mass-turn q b e m)

mass-clear : (q : ℕ) (b : Bool) (m : Model) → mass (clear q b m) + given q m.pairs ≤ mass m
unfolding mass
mass-clear q b m =
    omega (arith, given-rest q m.pairs, sizes-clear m.linear q, abs-add m.offset (gated b (get_or m.linear q (pos 0))), abs-gated b (get_or m.linear q (pos 0)))

-- Theorem: fixing never makes it larger.
pub mass-fix : (q : ℕ) (b : Bool) (m : Model) → mass (fix q b m) ≤ mass m
unfolding fix
mass-fix q b m =
    let g : Model = give q b m.pairs m in
    omega (arith, mass-clear q b g, mass-give q b m.pairs m, ap (given q) (give-pairs q b m.pairs m))

-- ---- the Ising form

pub mass-ends : (s : List Entry) (m : Model) → mass (ends s m) ≤ mass m + 2 * sizes (weights s)
unfolding ends
mass-ends [] m = omega arith
mass-ends (e ∷ s) m =
    omega (arith, mass-ends s (join_linear (high e.0) e.1 (join_linear (low e.0) e.1 m)), mass-join_linear (high e.0) e.1 (join_linear (low e.0) e.1 m), mass-join_linear (low e.0) e.1 m)

-- Theorem: the Ising form is not larger than the 0/1 form.
pub mass-ising : (m : Model) → mass (ising m) ≤ mass m
unfolding ising
mass-ising m = omega (arith, mass-ends (quarters m.pairs) (turned m), mass-turned m)
