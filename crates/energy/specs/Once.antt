-- All fixes of a build in one pass over the pairs. Every value is entered first, at its own qubit; then each pair in turn goes where the values of its ends send it.
-- Where no qubit is fixed to two values that is the same model as fix after fix (`once-fix_all`).
-- The theorems that an edit of a definition breaks are in proofs/Once.antt.
-- Assumes nothing.
use Rattle.std.specs.Prelude.{◌≡◌, ◌⊎◌, Bool, eqb, pos, nat_abs, ◌+ℤ◌, set}
use Rattle.std.proofs.Math.Path.{refl}
use Rattle.std.proofs.Common.{◌∙◌, arith, length-set}
use Rattle.std.proofs.Math.Bool.{true, false, cond}
use mathlib.Core.List.{List, [], ◌∷◌, ◌++◌}
use Prim.Native.Nat.{ℕ, ◌+◌, ◌≤◌, ◌<◌}
use Rattle.std.proofs.Math.IntN.{ℤ}
use Rattle.std.proofs.Math.ListN.{get_or}
use Rattle.laws.specs.Abs.{abs-add}
use Rattle.energy.specs.Model.{Entry, Model, Sized, Inside, low, high, add_offset, add_linear, gated, weights, sizes, mass}
use Rattle.energy.specs.Sized.{sized-add_offset, sized-add_linear}
use Rattle.energy.specs.Mass.{sizes-clear, mass-add_offset, mass-add_linear, abs-gated}
use Rattle.energy.specs.Fixing.{mark, add_linear-fixed, Fixes}

-- ---- the definition

-- the value of q is entered: its linear entry, times the value, joins the offset; the entry and the row go. Pairs stay
abbrev pub enter : ℕ → Bool → Model → Model
enter q b m =
    record {
      offset = m.offset +ℤ gated b (get_or m.linear q (pos 0));
      linear = set m.linear q (pos 0);
      has_linear = set m.has_linear q 0;
      has_row = set m.has_row q 0;
      fixed = set m.fixed q (mark b);
      pairs = m.pairs;
    }

unfoldable pub enter_all : Fixes → Model → Model
enter_all [] m = m
enter_all (f ∷ fs) m = enter_all fs (enter f.0 f.1 m)

abbrev pub with_pairs : List Entry → Model → Model
with_pairs s m =
    record { offset = m.offset; linear = m.linear; has_linear = m.has_linear; has_row = m.has_row; fixed = m.fixed; pairs = s }

-- the model without its pairs, and with one pair more
abbrev pub bare : Model → Model
bare m = with_pairs [] m

abbrev pub keep : Entry → Model → Model
keep e m = with_pairs (m.pairs ++ e ∷ []) m

-- a pair by what the table of fixed values has for its ends, 0 not fixed and 2 fixed true: it stays where neither is fixed; times the value of one end it
-- joins the linear entry of the other; times both values it joins the offset
abbrev pub sift_by : ℕ → ℕ → Entry → Model → Model
sift_by x y e m =
    cond (eqb x 0)
    (cond (eqb y 0) (keep e m) (add_linear (low e.0) (gated (eqb y 2) e.1) m))
    (cond (eqb y 0) (add_linear (high e.0) (gated (eqb x 2) e.1) m) (add_offset (gated (eqb x 2) (gated (eqb y 2) e.1)) m))

unfoldable pub sift : Entry → Model → Model
sift e m = sift_by (get_or m.fixed (low e.0) 0) (get_or m.fixed (high e.0) 0) e m

unfoldable pub sift_all : List Entry → Model → Model
sift_all [] m = m
sift_all (e ∷ s) m = sift_all s (sift e m)

-- the one pass: all pairs of the model
abbrev pub sifted : Model → Model
sifted m = sift_all m.pairs (bare m)

-- all fixes at once
abbrev pub once : Fixes → Model → Model
once fs m = sifted (enter_all fs m)

-- ---- a pair's turn, by its ways

-- what all ways keep, the turn keeps
by-sift : (e : Entry) (m : Model) (P : Model → Type 0) → P (keep e m)
    → ((p : ℕ) (c : ℤ) → nat_abs c ≤ nat_abs e.1 → P (add_linear p c m))
    → ((c : ℤ) → nat_abs c ≤ nat_abs e.1 → P (add_offset c m)) → P (sift e m)
unfolding sift
by-sift e m P stays gives ends = go (eqb x 0) (eqb y 0) (eqb x 2) (eqb y 2)
  where
    x : ℕ
    x = get_or m.fixed (low e.0) 0

    y : ℕ
    y = get_or m.fixed (high e.0) 0

    go : (s t a b : Bool)
        → P (cond s (cond t (keep e m) (add_linear (low e.0) (gated b e.1) m)) (cond t (add_linear (high e.0) (gated a e.1) m) (add_offset (gated a (gated b e.1)) m)))
    go true true a b = stays
    go true false a b = gives (low e.0) (gated b e.1) (abs-gated b e.1)
    go false true a b = gives (high e.0) (gated a e.1) (abs-gated a e.1)
    go false false a b = ends (gated a (gated b e.1)) (omega (arith, abs-gated a (gated b e.1), abs-gated b e.1))

pub sift-fixed : (e : Entry) (m : Model) → (sift e m).fixed ≡ m.fixed
sift-fixed e m = by-sift e m (λ x. x.fixed ≡ m.fixed) refl (λ p c h. add_linear-fixed p c m) (λ c h. refl)

inside-more : (n : ℕ) (s : List Entry) (e : Entry) → low e.0 < high e.0 → high e.0 < n → Inside n s → Inside n (s ++ e ∷ [])
inside-more n [] e l h i = (l, h, tt)
inside-more n (f ∷ s) e l h i = (i.0, i.1, inside-more n s e l h i.2)

pub sized-sift : (n : ℕ) (e : Entry) (m : Model) → low e.0 < high e.0 → high e.0 < n → Sized n m → Sized n (sift e m)
sized-sift n e m l h z =
    by-sift e m (Sized n)
    (record { linear = z.linear; has_linear = z.has_linear; has_row = z.has_row; fixed = z.fixed; inside = inside-more n m.pairs e l h z.inside; names = z.names })
    (λ p c k. sized-add_linear n p c m z)
    (λ c k. sized-add_offset n c m z)

-- a pair's turn adds at most its own size
mass-keep : (e : Entry) (m : Model) → mass (keep e m) ≤ mass m + nat_abs e.1
unfolding mass
mass-keep e m = omega (arith, go m.pairs)
  where
    go : (s : List Entry) → sizes (weights (s ++ e ∷ [])) ≡ sizes (weights s) + nat_abs e.1
    go [] = omega arith
    go (f ∷ s) = omega (arith, go s)

pub mass-sift : (e : Entry) (m : Model) → mass (sift e m) ≤ mass m + nat_abs e.1
mass-sift e m =
    by-sift e m (λ x. mass x ≤ mass m + nat_abs e.1) (mass-keep e m)
    (λ p c k. omega (arith, mass-add_linear p c m))
    (λ c k. omega (arith, mass-add_offset c m))

-- ---- entering

pub enter_all-pairs : (fs : Fixes) (m : Model) → (enter_all fs m).pairs ≡ m.pairs
unfolding enter_all
enter_all-pairs [] m = refl
enter_all-pairs (f ∷ fs) m = enter_all-pairs fs (enter f.0 f.1 m)

sized-enter : (n q : ℕ) (b : Bool) (m : Model) → Sized n m → Sized n (enter q b m)
sized-enter n q b m z =
    record {
      linear = length-set m.linear q (pos 0) ∙ z.linear;
      has_linear = length-set m.has_linear q 0 ∙ z.has_linear;
      has_row = length-set m.has_row q 0 ∙ z.has_row;
      fixed = length-set m.fixed q (mark b) ∙ z.fixed;
      inside = z.inside;
      names = z.names;
    }

pub sized-enter_all : (n : ℕ) (fs : Fixes) (m : Model) → Sized n m → Sized n (enter_all fs m)
unfolding enter_all
sized-enter_all n [] m z = z
sized-enter_all n (f ∷ fs) m z = sized-enter_all n fs _ (sized-enter n f.0 f.1 m z)

-- entering never makes the sum of all sizes larger
pub mass-enter : (q : ℕ) (b : Bool) (m : Model) → mass (enter q b m) ≤ mass m
unfolding mass
mass-enter q b m =
    let c : ℤ = get_or m.linear q (pos 0) in
    omega (arith, sizes-clear m.linear q, abs-add m.offset (gated b c), abs-gated b c)

pub mass-enter_all : (fs : Fixes) (m : Model) → mass (enter_all fs m) ≤ mass m
unfolding enter_all
mass-enter_all [] m = omega arith
mass-enter_all (f ∷ fs) m = omega (arith, mass-enter_all fs (enter f.0 f.1 m), mass-enter f.0 f.1 m)

-- ---- fixing commutes with a pair's turn, where the table does not have the other value

-- what the table has for a qubit that is to be fixed to b
abbrev pub Agree : ℕ → Bool → Type 0
Agree k b = (k ≡ 0) ⊎ (k ≡ mark b)

-- a pair one end of which is p and is not fixed, or is fixed to b; the table has y for the other end r
abbrev pub free : ℕ → ℕ → Entry → Model → Model
free p y e m = cond (eqb y 0) (keep e m) (add_linear p (gated (eqb y 2) e.1) m)

abbrev pub bound : Bool → ℕ → ℕ → Entry → Model → Model
bound b r y e m = cond (eqb y 0) (add_linear r (gated b e.1) m) (add_offset (gated b (gated (eqb y 2) e.1)) m)

-- ---- fixing in turn commutes with the pass

-- the table has no other value for any of these fixes
abbrev pub Agrees : List ℕ → Fixes → Type 0
Agrees l [] = Unit {0}
Agrees l (f ∷ fs) = Agree (get_or l f.0 0) f.1 × Agrees l fs
