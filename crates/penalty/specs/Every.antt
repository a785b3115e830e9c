-- A test that antt computes at every kind, and at every setting of a row's six slots: what passes it holds of each.
-- Assumes nothing.
use Rattle.std.specs.Prelude.{◌≡◌, refl, Bool, true, false, ◌&&◌, ℕ, zero, suc, T}
use Rattle.std.proofs.Common.{subst}
use Rattle.std.proofs.Math.Path.{fun_ext}
use Rattle.std.proofs.Math.Facts.{and_yes}
use Rattle.penalty.specs.declared.Kind.{Kind}
use Rattle.penalty.specs.declared.Kind.TheVariants.{Not, And, Nand, Matriarch1, Or, Half, Full}
use Rattle.penalty.specs.Rows.{Slot, in₁, in₂, in₃, res, aux, car}

-- ---- every kind

abbrev pub every_kind : (Kind → Bool) → Bool
every_kind f = f Not && (f And && (f Nand && (f Matriarch1 && (f Or && (f Half && f Full)))))

pub kind_at : (f : Kind → Bool) → T (every_kind f) → (kind : Kind) → T (f kind)
kind_at f t =
    let t₁ = and_yes (f Not) (f And && (f Nand && (f Matriarch1 && (f Or && (f Half && f Full))))) t in
    let t₂ = and_yes (f And) (f Nand && (f Matriarch1 && (f Or && (f Half && f Full)))) t₁.1 in
    let t₃ = and_yes (f Nand) (f Matriarch1 && (f Or && (f Half && f Full))) t₂.1 in
    let t₄ = and_yes (f Matriarch1) (f Or && (f Half && f Full)) t₃.1 in
    let t₅ = and_yes (f Or) (f Half && f Full) t₄.1 in
    let t₆ = and_yes (f Half) (f Full) t₅.1 in
    elim [ Not ↦ t₁.0 | And ↦ t₂.0 | Nand ↦ t₃.0 | Matriarch1 ↦ t₄.0 | Or ↦ t₅.0 | Half ↦ t₆.0 | Full ↦ t₆.1 ]

-- ---- every setting

-- a test of n Booleans, whether all 2ⁿ choices pass, and what that gives
abbrev Test : ℕ → Type 0
Test zero = Bool
Test (suc n) = Bool → Test n

abbrev all : (n : ℕ) → Test n → Bool
all zero t = t
all (suc n) t = all n (t true) && all n (t false)

abbrev All : (n : ℕ) → Test n → Type 0
All zero t = T t
All (suc n) t = (b : Bool) → All n (t b)

all-at : (n : ℕ) (t : Test n) → T (all n t) → All n t
all-at zero t p = p
all-at (suc n) t p =
    let both = and_yes (all n (t true)) (all n (t false)) p in
    elim [ true ↦ all-at n (t true) both.0 | false ↦ all-at n (t false) both.1 ]

-- the setting with these values
abbrev pick : Bool → Bool → Bool → Bool → Bool → Bool → Slot → Bool
pick p q r z a k in₁ = p
pick p q r z a k in₂ = q
pick p q r z a k in₃ = r
pick p q r z a k res = z
pick p q r z a k aux = a
pick p q r z a k car = k

abbrev pub every_setting : ((Slot → Bool) → Bool) → Bool
every_setting f = all 6 (λ p q r z a k. f (pick p q r z a k))

-- six slots are all slots
pick_all : (v : Slot → Bool) → pick (v in₁) (v in₂) (v in₃) (v res) (v aux) (v car) ≡ v
pick_all v = fun_ext go
  where
    go : (s : Slot) → pick (v in₁) (v in₂) (v in₃) (v res) (v aux) (v car) s ≡ v s
    go in₁ = refl
    go in₂ = refl
    go in₃ = refl
    go res = refl
    go aux = refl
    go car = refl

pub setting-at : (f : (Slot → Bool) → Bool) → T (every_setting f) → (v : Slot → Bool) → T (f v)
setting-at f t v =
    subst (λ (u : Slot → Bool). T (f u)) (pick_all v)
    (all-at 6 (λ p q r z a k. f (pick p q r z a k)) t (v in₁) (v in₂) (v in₃) (v res) (v aux) (v car))
