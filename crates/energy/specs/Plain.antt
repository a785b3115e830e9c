-- The plain energy of a list of placed rows, and the run: the one setting of the rows' outputs that has energy 0.
-- The rows stand in the order in which they were added. Each takes one fresh name, an adder three in a row, and its operands are named before.
-- The theorems that an edit of a definition breaks are in proofs/Plain.antt.
-- Assumes nothing.
use Rattle.std.specs.Prelude.{◌≡◌, refl, ◌⊎◌, ◌≢◌, Bool, true, false, cond, List, [], ◌∷◌, ℕ, suc, ◌+◌, ◌≤◌, ◌<◌, eqb}
use Rattle.std.proofs.Math.Path.{fun_ext}
use Rattle.std.proofs.Common.{◌∙◌, ap, ap₂, inl, inr, eq-eqb, ne_eqb}
use native.Mathlib.Omega.{arith}
use Rattle.penalty.specs.declared.Kind.{Kind}
use Rattle.penalty.specs.Rows.{Slot, in₁, in₂, in₃, res, aux, car}
use Rattle.penalty.specs.Rule.{is_adder, result_by, carry_by, aux_by, obeys, Follows, obeys-split}
use Rattle.penalty.specs.Penalises.{row_energy}
use Rattle.penalty.proofs.Penalises.{penalises}

-- ---- settings

abbrev pub Setting : Type 0
Setting = ℕ → Bool

-- the setting σ with q at b
unfoldable pub upd : Setting → ℕ → Bool → Setting
upd σ q b p = cond (eqb p q) b (σ p)

pub upd_same : (σ : Setting) (q : ℕ) (b : Bool) → upd σ q b q ≡ b
unfolding upd
upd_same σ q b = rw (eq-eqb q q refl)

pub upd_other : (σ : Setting) (q : ℕ) (b : Bool) (p : ℕ) → p ≢ q → upd σ q b p ≡ σ p
unfolding upd
upd_other σ q b p ne = rw (ne_eqb p q ne)

-- ---- rows at their places

pub record Row : Type 0 where
  pub kind : Kind
  pub x : ℕ
  pub y : ℕ
  pub w : ℕ
  pub out : ℕ

-- how many names a kind takes beyond the first, and where its carry stands
abbrev pub more : Kind → ℕ
more k = cond (is_adder k) 2 0

abbrev pub mid : Kind → ℕ
mid k = cond (is_adder k) 1 0

-- the qubit of a slot: aux, carry, result in that order
unfoldable pub wire : Row → Slot → ℕ
wire r in₁ = r.x
wire r in₂ = r.y
wire r in₃ = r.w
wire r aux = r.out
wire r car = r.out + mid r.kind
wire r res = r.out + more r.kind

-- the values that a row sees
abbrev pub seen : Setting → Row → Slot → Bool
seen σ r s = σ (wire r s)

abbrev pub row_at : Setting → Row → ℕ
row_at σ r = row_energy r.kind (seen σ r)

abbrev pub obeys_at : Setting → Row → Bool
obeys_at σ r = obeys r.kind (seen σ r)

-- ---- the plain energy

unfoldable pub plain : Setting → List Row → ℕ
plain σ [] = 0
plain σ (r ∷ rs) = row_at σ r + plain σ rs

abbrev pub Obey : Setting → List Row → Type 0
Obey σ [] = Unit
Obey σ (r ∷ rs) = (obeys_at σ r ≡ true) × Obey σ rs

pub plain-zero : (σ : Setting) (rs : List Row) → Obey σ rs → plain σ rs ≡ 0
unfolding plain
plain-zero σ [] o = refl
plain-zero σ (r ∷ rs) o = omega (arith, (penalises r.kind (seen σ r)).obeyed o.0, plain-zero σ rs o.1)

-- every row is obeyed, or the energy is at least 2
pub plain-either : (σ : Setting) (rs : List Row) → Obey σ rs ⊎ (2 ≤ plain σ rs)
unfolding plain
plain-either σ [] = inl tt
plain-either σ (r ∷ rs) = go (obeys_at σ r) refl (plain-either σ rs)
  where
    go : (b : Bool) → obeys_at σ r ≡ b → Obey σ rs ⊎ (2 ≤ plain σ rs) → Obey σ (r ∷ rs) ⊎ (2 ≤ plain σ (r ∷ rs))
    go true e (inl o) = inl (e, o)
    go true e (inr h) = inr (omega arith)
    go false e o = inr (omega (arith, (penalises r.kind (seen σ r)).broken e))

pub plain-obey : (σ : Setting) (rs : List Row) → plain σ rs ≡ 0 → Obey σ rs
plain-obey σ rs e = go (plain-either σ rs)
  where
    go : Obey σ rs ⊎ (2 ≤ plain σ rs) → Obey σ rs
    go (inl o) = o
    go (inr h) = absurd (omega arith)

-- ---- the interface to the numbering

-- The rows take their names upwards from lo, below n, and each row's operands are named before it.
-- That is all that the theorem asks of the names of the rows.
abbrev pub Sorted : ℕ → List Row → ℕ → Type 0
Sorted lo [] n = lo ≤ n
Sorted lo (r ∷ rs) n =
    (lo ≤ r.out) × (r.x < r.out) × (r.y < r.out) × (r.w < r.out) × Sorted (suc (r.out + more r.kind)) rs n

-- no row has q for an output
abbrev pub Free : List Row → ℕ → Type 0
Free [] q = Unit
Free (r ∷ rs) q = ((q < r.out) ⊎ (r.out + more r.kind < q)) × Free rs q

-- ---- the run: each row in its turn sets its outputs

unfoldable pub write : Row → Setting → Setting
write r σ =
    upd
    (upd
    (upd σ (wire r aux) (aux_by r.kind (σ r.x) (σ r.y) (σ r.w)))
    (wire r car)
    (carry_by r.kind (σ r.x) (σ r.y) (σ r.w)))
    (wire r res)
    (result_by r.kind (σ r.x) (σ r.y) (σ r.w))

unfoldable pub run : List Row → Setting → Setting
run [] σ = σ
run (r ∷ rs) σ = run rs (write r σ)

mid≤more : (k : Kind) → mid k ≤ more k
mid≤more k = go (is_adder k)
  where
    go : (b : Bool) → cond b 1 0 ≤ cond b 2 0
    go true = omega arith
    go false = omega arith

-- nothing else changes
pub write-other : (r : Row) (σ : Setting) (q : ℕ) → (q < r.out) ⊎ (r.out + more r.kind < q) → write r σ q ≡ σ q
unfolding wire write
write-other r σ q h =
    upd_other _ (r.out + more r.kind) _ q (ne₁ h)
    ∙ upd_other _ (r.out + mid r.kind) _ q (ne₂ h)
    ∙ upd_other _ r.out _ q (ne₃ h)
  where
    ne₁ : (q < r.out) ⊎ (r.out + more r.kind < q) → q ≢ r.out + more r.kind
    ne₁ (inl h) = omega arith
    ne₁ (inr h) = omega arith

    ne₂ : (q < r.out) ⊎ (r.out + more r.kind < q) → q ≢ r.out + mid r.kind
    ne₂ (inl h) = omega arith
    ne₂ (inr h) = omega (arith, mid≤more r.kind)

    ne₃ : (q < r.out) ⊎ (r.out + more r.kind < q) → q ≢ r.out
    ne₃ (inl h) = omega arith
    ne₃ (inr h) = omega arith

pub same₃ : (f : Bool → Bool → Bool → Bool) {a b c a' b' c' : Bool} → a ≡ a' → b ≡ b' → c ≡ c' → f a b c ≡ f a' b' c'
same₃ f p q r i = f (p i) (q i) (r i)

module _ (r : Row) (hx : r.x < r.out) (hy : r.y < r.out) (hw : r.w < r.out) where
  -- every slot stands before the next row's names
  pub wire-below : (s : Slot) → wire r s < suc (r.out + more r.kind)
  unfolding wire
  wire-below in₁ = omega arith
  wire-below in₂ = omega arith
  wire-below in₃ = omega arith
  wire-below aux = omega arith
  wire-below car = omega (arith, mid≤more r.kind)
  wire-below res = omega arith

-- two settings that agree below the next row's names see a row alike
pub seen_same : (r : Row) → r.x < r.out → r.y < r.out → r.w < r.out → (σ τ : Setting)
    → ((q : ℕ) → q < suc (r.out + more r.kind) → σ q ≡ τ q) → seen σ r ≡ seen τ r
seen_same r hx hy hw σ τ h = fun_ext (λ s. h (wire r s) (wire-below r hx hy hw s))

pub sorted-le : (lo : ℕ) (rs : List Row) (n : ℕ) → Sorted lo rs n → lo ≤ n
sorted-le lo [] n s = s
sorted-le lo (r ∷ rs) n s = omega (arith, sorted-le (suc (r.out + more r.kind)) rs n s.4)

-- what is named before the rows is free
pub free-below : (lo : ℕ) (rs : List Row) (n : ℕ) → Sorted lo rs n → (q : ℕ) → q < lo → Free rs q
free-below lo [] n s q h = tt
free-below lo (r ∷ rs) n s q h =
    (inl (omega arith), free-below (suc (r.out + more r.kind)) rs n s.4 q (omega arith))

-- the run leaves what is free
pub run-free : (rs : List Row) (φ : Setting) (q : ℕ) → Free rs q → run rs φ q ≡ φ q
unfolding run
run-free [] φ q f = refl
run-free (r ∷ rs) φ q f = run-free rs (write r φ) q f.1 ∙ write-other r φ q f.0

-- a setting that obeys a row has, below the next row's names, what the row writes
module _ (r : Row) (hx : r.x < r.out) (hy : r.y < r.out) (hw : r.w < r.out) (σ φ : Setting) (o : obeys_at σ r ≡ true)
    (before : (q : ℕ) → q < r.out → σ q ≡ φ q) where
  pub obeyed : Follows r.kind (seen σ r)
  obeyed = obeys-split r.kind (seen σ r) o

-- ---- Theorem, over the rows. Of the settings that agree with φ on the free names, the run from φ has energy 0 and every other has at least 2.
pub record OneZero (rs : List Row) (n : ℕ) (φ : Setting) : Type 0 where
  pub keeps : (q : ℕ) → Free rs q → run rs φ q ≡ φ q
  pub zero-at-run : plain (run rs φ) rs ≡ 0
  pub others : (σ : Setting) → ((q : ℕ) → q < n → Free rs q → σ q ≡ φ q)
      → ((q : ℕ) → q < n → σ q ≡ run rs φ q) ⊎ (2 ≤ plain σ rs)

-- the energy depends on the names below n alone
pub plain-same : (lo : ℕ) (rs : List Row) (n : ℕ) → Sorted lo rs n → (σ τ : Setting) → ((q : ℕ) → q < n → σ q ≡ τ q) → plain σ rs ≡ plain τ rs
unfolding plain
plain-same lo [] n s σ τ h = refl
plain-same lo (r ∷ rs) n s σ τ h = ap₂ ◌+◌ (ap (row_energy r.kind) same) (plain-same next rs n s.4 σ τ h)
  where
    next : ℕ
    next = suc (r.out + more r.kind)

    same : seen σ r ≡ seen τ r
    same = seen_same r s.1 s.2 s.3 σ τ (λ q l. h q (omega (arith, sorted-le next rs n s.4)))
