-- Fixing a qubit to a value keeps the energy: at a setting it is then the energy before at the setting with the qubit at the value.
-- The theorems that an edit of a definition breaks are in proofs/Fixing.antt.
-- Assumes nothing.
use Rattle.std.specs.Prelude.{◌≡◌, ◌⊎◌, Bool, cond, get_or}
use Rattle.std.proofs.Math.Path.{refl, sym, ap}
use Rattle.std.proofs.Common.{◌∙◌, inl, inr, eq-eqb}
use Rattle.std.proofs.Math.Bool.{true, false}
use mathlib.Core.List.{List, [], ◌∷◌}
use Prim.Native.Nat.{ℕ, ◌<◌}
use Rattle.std.proofs.Math.Decide.{ℕ_discrete}
use Rattle.std.proofs.Math.Dec.{eqb}
use Rattle.std.proofs.Math.IntN.{ℤ}
use Rattle.laws.specs.Table.{get_or-same}
use Rattle.laws.specs.Test.{by_eqb}
use Rattle.penalty.specs.declared.Penalty.{Penalty}
use Rattle.penalty.specs.Rows.{Slot, Place, singles, twos, row_of}
use Rattle.energy.specs.Plain.{Setting, Row, wire, upd, upd_same, upd_other}
use Rattle.energy.specs.Model.{Model, empty, is_zero, join_linear, join_pair, add_linear, add_pair, halves, add_linears, add_pairs, place, place_all, fix}

-- a value's entry in the table of fixed values: 1 fixed false, 2 fixed true
abbrev pub mark : Bool → ℕ
mark b = cond b 2 1

-- ---- what fixing leaves as it was

-- adding to a linear entry leaves the pairs
pub add_linear-pairs : (q : ℕ) (c : ℤ) (m : Model) → (add_linear q c m).pairs ≡ m.pairs
unfolding add_linear
add_linear-pairs q c m = go (is_zero c)
  where
    go : (b : Bool) → (cond b m (join_linear q c m)).pairs ≡ m.pairs
    go true = refl
    go false = refl

-- and the table of fixed values
pub add_linear-fixed : (q : ℕ) (c : ℤ) (m : Model) → (add_linear q c m).fixed ≡ m.fixed
unfolding add_linear
add_linear-fixed q c m = go (is_zero c)
  where
    go : (b : Bool) → (cond b m (join_linear q c m)).fixed ≡ m.fixed
    go true = refl
    go false = refl

-- ---- fixing in turn

-- qubits, each with its value, in fixing order
abbrev pub Fixes : Type 0
Fixes = List (ℕ × Bool)

-- each fix on what the one before it left
unfoldable pub fix_all : Fixes → Model → Model
fix_all [] m = m
fix_all (f ∷ fs) m = fix_all fs (fix f.0 f.1 m)

-- these fixes are of qubits below n
abbrev pub Within : ℕ → Fixes → Type 0
Within n [] = Unit {0}
Within n (f ∷ fs) = (f.0 < n) × Within n fs

-- the setting completed by the fixed values; of two for one qubit the first counts
unfoldable pub complete : Fixes → Setting → Setting
complete [] σ = σ
complete (f ∷ fs) σ = upd (complete fs σ) f.0 f.1

-- the setting has the fixed values
abbrev pub Meets : Setting → Fixes → Type 0
Meets σ [] = Unit {0}
Meets σ (f ∷ fs) = (σ f.0 ≡ f.1) × Meets σ fs

-- what these fixes say of q is b
abbrev pub SameAt : ℕ → Bool → Fixes → Type 0
SameAt q b [] = Unit {0}
SameAt q b (f ∷ fs) = (f.0 ≡ q → f.1 ≡ b) × SameAt q b fs

-- no qubit is fixed to two values: refusal 9 does not come
abbrev pub OneValue : Fixes → Type 0
OneValue [] = Unit {0}
OneValue (f ∷ fs) = SameAt f.0 f.1 fs × OneValue fs

upd-meets : (σ : Setting) (q : ℕ) (b : Bool) (fs : Fixes) → SameAt q b fs → Meets σ fs → Meets (upd σ q b) fs
upd-meets σ q b [] a h = tt
upd-meets σ q b (f ∷ fs) a h = (go (ℕ_discrete f.0 q), upd-meets σ q b fs a.1 h.1)
  where
    go : Dec (f.0 ≡ q) → upd σ q b f.0 ≡ f.1
    go (yes e) = ap (upd σ q b) e ∙ upd_same σ q b ∙ sym (a.0 e)
    go (no n) = upd_other σ q b f.0 n ∙ h.0

-- a setting completed by the fixed values has them
pub complete-meets : (fs : Fixes) (σ : Setting) → OneValue fs → Meets (complete fs σ) fs
unfolding complete
complete-meets [] σ o = tt
complete-meets (f ∷ fs) σ o =
    (upd_same (complete fs σ) f.0 f.1, upd-meets (complete fs σ) f.0 f.1 fs o.0 (complete-meets fs σ o.1))

-- a setting that has the fixed values is completed already
pub complete-same : (fs : Fixes) (σ : Setting) → Meets σ fs → (p : ℕ) → complete fs σ p ≡ σ p
unfolding complete
complete-same [] σ h p = refl
complete-same (f ∷ fs) σ h p = go (ℕ_discrete p f.0) (complete-same fs σ h.1 p)
  where
    go : Dec (p ≡ f.0) → complete fs σ p ≡ σ p → upd (complete fs σ) f.0 f.1 p ≡ σ p
    go (yes e) k = ap (upd (complete fs σ) f.0 f.1) e ∙ upd_same (complete fs σ) f.0 f.1 ∙ sym h.0 ∙ ap σ (sym e)
    go (no n) k = upd_other (complete fs σ) f.0 f.1 p n ∙ k

-- ---- the table of fixed values

-- what the fixes say of a qubit: 0 not fixed, 1 fixed false, 2 fixed true
unfoldable pub fixed_at : Fixes → ℕ → ℕ
fixed_at [] q = 0
fixed_at (f ∷ fs) q = cond (eqb q f.0) (mark f.1) (fixed_at fs q)

-- a value that is given yields to one that is fixed
abbrev pub shown : ℕ → Bool → Bool
shown k b = cond (eqb k 0) b (eqb k 2)

-- the setting completed by a table of fixed values
abbrev pub completed : List ℕ → Setting → Setting
completed l σ q = shown (get_or l q 0) (σ q)

shown-fixed : (a b : Bool) → shown (mark a) b ≡ a
shown-fixed true b = refl
shown-fixed false b = refl

-- completing by the fixes, qubit by qubit
pub complete-at : (fs : Fixes) (σ : Setting) (q : ℕ) → complete fs σ q ≡ shown (fixed_at fs q) (σ q)
unfolding complete fixed_at upd
complete-at [] σ q = refl
complete-at (f ∷ fs) σ q =
    by_eqb q f.0 (λ b. cond b f.1 (complete fs σ q) ≡ shown (cond b (mark f.1) (fixed_at fs q)) (σ q))
    (λ e. sym (shown-fixed f.1 (σ q)))
    (λ n. complete-at fs σ q)

-- a later 0 leaves the entry, and so does the same value once more
abbrev pub over : ℕ → ℕ → ℕ
over k l = cond (eqb k 0) l k

-- the fixes say b of q
abbrev pub Says : Fixes → ℕ → Bool → Type 0
Says [] q b = ⊥
Says (f ∷ fs) q b = ((f.0 ≡ q) × (f.1 ≡ b)) ⊎ Says fs q b

-- where the fixes say nothing of a qubit, it is not fixed
pub fixed_at-none : (fs : Fixes) (q : ℕ) → ((b : Bool) → Says fs q b → ⊥) → fixed_at fs q ≡ 0
unfolding fixed_at
fixed_at-none [] q u = refl
fixed_at-none (f ∷ fs) q u =
    by_eqb q f.0 (λ t. cond t (mark f.1) (fixed_at fs q) ≡ 0)
    (λ e. absurd (u f.1 (inl (sym e, refl))))
    (λ n. fixed_at-none fs q (λ b s. u b (inr s)))

same-says : (q : ℕ) (b c : Bool) (fs : Fixes) → SameAt q b fs → Says fs q c → c ≡ b
same-says q b c [] s i = absurd i
same-says q b c (f ∷ fs) s (inl i) = sym i.1 ∙ s.0 i.0
same-says q b c (f ∷ fs) s (inr i) = same-says q b c fs s.1 i

-- and where they say a value, it is fixed at that value
pub fixed_at-says : (fs : Fixes) (q : ℕ) (b : Bool) → OneValue fs → Says fs q b → fixed_at fs q ≡ mark b
unfolding fixed_at
fixed_at-says [] q b o i = absurd i
fixed_at-says (f ∷ fs) q b o (inl i) = rw (eq-eqb q f.0 (sym i.0), i.1)
fixed_at-says (f ∷ fs) q b o (inr i) =
    by_eqb q f.0 (λ t. cond t (mark f.1) (fixed_at fs q) ≡ mark b)
    (λ e. ap mark (sym (same-says f.0 f.1 b fs o.0 (rw e at i))))
    (λ n. fixed_at-says fs q b o.1 i)

-- ---- placing fixes nothing

add_pair-fixed : (p q : ℕ) (c : ℤ) (m : Model) → (add_pair p q c m).fixed ≡ m.fixed
unfolding add_pair
add_pair-fixed p q c m = go (is_zero c) (eqb p q)
  where
    go : (a b : Bool) → (cond a m (cond b (join_linear p c m) (join_pair p q c m))).fixed ≡ m.fixed
    go true b = refl
    go false true = refl
    go false false = refl

add_linears-fixed : (at : Slot → ℕ) (ps : List Place) (cs : List ℤ) (m : Model) → (add_linears at ps cs m).fixed ≡ m.fixed
add_linears-fixed at [] cs m = refl
add_linears-fixed at (p ∷ ps) [] m = refl
add_linears-fixed at (p ∷ ps) (c ∷ cs) m = add_linears-fixed at ps cs _ ∙ add_linear-fixed (at p.fst) (halves c) m

add_pairs-fixed : (at : Slot → ℕ) (ps : List Place) (cs : List ℤ) (m : Model) → (add_pairs at ps cs m).fixed ≡ m.fixed
add_pairs-fixed at [] cs m = refl
add_pairs-fixed at (p ∷ ps) [] m = refl
add_pairs-fixed at (p ∷ ps) (c ∷ cs) m = add_pairs-fixed at ps cs _ ∙ add_pair-fixed (at p.fst) (at p.snd) (halves c) m

-- a penalty leaves the table of fixed values
pub place-fixed : (at : Slot → ℕ) (p : Penalty) (m : Model) → (place at p m).fixed ≡ m.fixed
unfolding place
place-fixed at p m = add_pairs-fixed at twos p.pairs _ ∙ add_linears-fixed at singles p.linear _

-- and so do rows in turn
pub place_all-fixed : (rs : List Row) (m : Model) → (place_all rs m).fixed ≡ m.fixed
unfolding place_all
place_all-fixed [] m = refl
place_all-fixed (r ∷ rs) m = place_all-fixed rs _ ∙ place-fixed (wire r) (row_of r.kind) m

-- so nothing is fixed in the model that rows build
pub placed-fixed : (n : ℕ) (rs : List Row) (q : ℕ) → get_or (place_all rs (empty n)).fixed q 0 ≡ 0
placed-fixed n rs q = ap (λ (l : List ℕ). get_or l q 0) (place_all-fixed rs (empty n)) ∙ get_or-same n q 0
