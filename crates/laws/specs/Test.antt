-- Tests of numbers and of Booleans, by cases: what each answer says.
-- Assumes nothing.
use Rattle.std.specs.Prelude.{◌≡◌, refl, ◌≢◌, Bool, true, false, not, ℕ, ◌≤◌, ◌<◌, eqb, ltb}
use Rattle.std.specs.Bool.{beq}
use Rattle.std.proofs.Common.{true≢false, eq-eqb, ne_eqb, ltb-true, ltb-false}
use Rattle.std.proofs.lemmas.Bool.{false≢true}
use Rattle.std.proofs.Math.Decide.{ℕ_discrete}

-- by cases on a test that compares two numbers, with what each answer says
pub by_eqb : (p q : ℕ) (P : Bool → Type 0) → (p ≡ q → P true) → (p ≢ q → P false) → P (eqb p q)
by_eqb p q P f g = go (ℕ_discrete p q)
  where
    go : Dec (p ≡ q) → P (eqb p q)
    go (yes e) = rw (eq-eqb p q e) (f e)
    go (no n) = rw (ne_eqb p q n) (g n)

-- the same of an order
pub by-ltb : (p q : ℕ) (P : Bool → Type 0) → (p < q → P true) → (q ≤ p → P false) → P (ltb p q)
by-ltb p q P f g = go (ltb p q) refl
  where
    go : (b : Bool) → ltb p q ≡ b → P b
    go true e = f (ltb-true p q e)
    go false e = g (ltb-false p q e)

-- and of two Booleans
pub by-beq : (a b : Bool) (P : Bool → Type 0) → (a ≡ b → P true) → (a ≢ b → P false) → P (beq a b)
by-beq true true P f g = f refl
by-beq true false P f g = g true≢false
by-beq false true P f g = g false≢true
by-beq false false P f g = f refl

-- of two Booleans that differ, each is the other's negation
pub ne-not : (a b : Bool) → a ≢ b → a ≡ not b
ne-not true true k = absurd (k refl)
ne-not true false k = refl
ne-not false true k = refl
ne-not false false k = absurd (k refl)

-- and none is its own
pub not-self : (b : Bool) → b ≢ not b
not-self true e = true≢false e
not-self false e = false≢true e
