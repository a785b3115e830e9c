-- The rule of each gate, as 01 says it, and what it is for a setting of a row's six slots to obey it.
-- "Matriarch1 is not x1 and x2; a half adder's aux is x1 and not x2. A full adder's aux equals x1 where x1 = x2, else not x3;
-- carry is the majority, result the parity."
-- Assumes nothing.
use Rattle.std.specs.Prelude.{◌≡◌, refl, Bool, true, false, not, ◌&&◌, ◌||◌, cond}
use Rattle.std.proofs.Common.{sym}
use Rattle.std.specs.Bool.{beq}
use Rattle.penalty.specs.declared.Kind.{Kind}
use Rattle.penalty.specs.declared.Kind.TheVariants.{Not, And, Nand, Matriarch1, Or, Half, Full}
use Rattle.penalty.specs.Rows.{Slot, in₁, in₂, in₃, res, aux, car}

-- an adder has aux and carry beside its result
abbrev pub is_adder : Kind → Bool
is_adder Not = false
is_adder And = false
is_adder Nand = false
is_adder Matriarch1 = false
is_adder Or = false
is_adder Half = true
is_adder Full = true

abbrev pub parity : Bool → Bool → Bool
parity p q = not (beq p q)

abbrev pub majority : Bool → Bool → Bool → Bool
majority p q r = p && q || p && r || q && r

-- the result, from the operands x1, x2, x3; a kind that has fewer does not look at the others
abbrev pub result_by : Kind → Bool → Bool → Bool → Bool
result_by Not p q r = not p
result_by And p q r = p && q
result_by Nand p q r = not (p && q)
result_by Matriarch1 p q r = not p && q
result_by Or p q r = p || q
result_by Half p q r = parity p q
result_by Full p q r = parity (parity p q) r

-- the carry and the aux of an adder; no other kind has them
abbrev pub carry_by : Kind → Bool → Bool → Bool → Bool
carry_by Not p q r = false
carry_by And p q r = false
carry_by Nand p q r = false
carry_by Matriarch1 p q r = false
carry_by Or p q r = false
carry_by Half p q r = p && q
carry_by Full p q r = majority p q r

abbrev pub aux_by : Kind → Bool → Bool → Bool → Bool
aux_by Not p q r = false
aux_by And p q r = false
aux_by Nand p q r = false
aux_by Matriarch1 p q r = false
aux_by Or p q r = false
aux_by Half p q r = p && not q
aux_by Full p q r = cond (beq p q) p (not r)

-- the outputs that a kind has are what its rule says of the operands
unfoldable pub obeys : Kind → (Slot → Bool) → Bool
obeys kind v =
    beq (v res) (result_by kind (v in₁) (v in₂) (v in₃))
    && cond (is_adder kind) (beq (v car) (carry_by kind (v in₁) (v in₂) (v in₃)) && beq (v aux) (aux_by kind (v in₁) (v in₂) (v in₃))) true

-- ---- the same, as equations

pub record Follows (kind : Kind) (v : Slot → Bool) : Type 0 where
  pub on_result : v res ≡ result_by kind (v in₁) (v in₂) (v in₃)
  pub on_carry : is_adder kind ≡ true → v car ≡ carry_by kind (v in₁) (v in₂) (v in₃)
  pub on_aux : is_adder kind ≡ true → v aux ≡ aux_by kind (v in₁) (v in₂) (v in₃)

beq-refl : (b : Bool) → beq b b ≡ true
beq-refl true = refl
beq-refl false = refl

beq-eq : (a b : Bool) → beq a b ≡ true → a ≡ b
beq-eq true true e = refl
beq-eq true false e = sym e
beq-eq false true e = e
beq-eq false false e = refl

and_split : (a b : Bool) → (a && b) ≡ true → (a ≡ true) × (b ≡ true)
and_split true b e = (refl, e)
and_split false b e = (e, cc)

and-join : (a b : Bool) → a ≡ true → b ≡ true → (a && b) ≡ true
and-join a b p q = rw (p, q)

-- a setting that follows the rule obeys it
pub obeys-join : (kind : Kind) (v : Slot → Bool) → Follows kind v → obeys kind v ≡ true
unfolding obeys
obeys-join kind v f =
    and-join (beq (v res) (result_by kind (v in₁) (v in₂) (v in₃))) _ (same (v res) _ f.on_result) (go (is_adder kind) refl)
  where
    same : (a b : Bool) → a ≡ b → beq a b ≡ true
    same a b e = rw e (beq-refl b)

    go : (b : Bool) → is_adder kind ≡ b
        → cond b (beq (v car) (carry_by kind (v in₁) (v in₂) (v in₃)) && beq (v aux) (aux_by kind (v in₁) (v in₂) (v in₃))) true ≡ true
    go true e =
        and-join
        (beq (v car) (carry_by kind (v in₁) (v in₂) (v in₃)))
        (beq (v aux) (aux_by kind (v in₁) (v in₂) (v in₃)))
        (same (v car) _ (f.on_carry e))
        (same (v aux) _ (f.on_aux e))
    go false e = refl

-- and one that obeys it follows it
pub obeys-split : (kind : Kind) (v : Slot → Bool) → obeys kind v ≡ true → Follows kind v
unfolding obeys
obeys-split kind v o =
    record {
      on_result = beq-eq (v res) (result_by kind (v in₁) (v in₂) (v in₃)) h.0;
      on_carry = λ e. beq-eq (v car) (carry_by kind (v in₁) (v in₂) (v in₃)) (both e).0;
      on_aux = λ e. beq-eq (v aux) (aux_by kind (v in₁) (v in₂) (v in₃)) (both e).1;
    }
  where
    C : Bool
    C = beq (v car) (carry_by kind (v in₁) (v in₂) (v in₃))

    A : Bool
    A = beq (v aux) (aux_by kind (v in₁) (v in₂) (v in₃))

    h : (beq (v res) (result_by kind (v in₁) (v in₂) (v in₃)) ≡ true) × (cond (is_adder kind) (C && A) true ≡ true)
    h = and_split (beq (v res) (result_by kind (v in₁) (v in₂) (v in₃))) (cond (is_adder kind) (C && A) true) o

    both : is_adder kind ≡ true → (C ≡ true) × (A ≡ true)
    both e = and_split C A (rw e at h.1)
