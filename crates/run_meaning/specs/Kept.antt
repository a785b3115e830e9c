-- What a run keeps of its value table: whatever storing a bit keeps, as the length, or that each byte is a value.
-- Assumes nothing.
use Rattle.std.specs.Prelude.{◌≡◌, Bool, true, false, ◌&&◌, ◌||◌, cond, eqb, ℤ, pos, length, get_or, set}
use Rattle.std.proofs.Common.{◌∙◌, length-set}
use Rattle.std.proofs.Math.Bool.{not}
use Rattle.std.specs.Bool.{beq}
use mathlib.Core.List.{List, [], ◌∷◌}
use Prim.Native.Nat.{ℕ, zero, suc, ◌-◌, ◌/◌, ◌%◌}
use Rattle.std.proofs.lemmas.List.{length-replicate}
use Rattle.laws.specs.Equal.{eq_z}
use Rattle.penalty.specs.Rule.{parity, majority}
use Rattle.energy.specs.Circuit.{Input}
use Rattle.run_rules.specs.Rules.{Law, Not, And, Nand, Matriarch1, Or, AuxHalfAdder, CarryHalfAdder, ResultHalfAdder, AuxFullAdder, CarryFullAdder, ResultFullAdder, Quotient, Remainder, Invalid, operands, depth}
use Rattle.run_meaning.specs.Need.{Got, table, stopped, and_then, decide, each, is_true, bit, put, number, bit_of, divided, settle, Net, law_in, fixed_at, follow, step, need, need_of}
use Rattle.run_meaning.specs.Give.{low_bit, halved, give_bits, give_all}
use Rattle.run_meaning.specs.Ran.{Built, net_of, needed, unknowns, valued}

-- what is got has it, if it is a table
abbrev Keeps : (List ℕ → Type 0) → Got → Type 0
Keeps P (table t) = P t
Keeps P (stopped x) = Unit {0}

-- a step keeps it
abbrev Keeping : (List ℕ → Type 0) → (List ℕ → Got) → Type 0
Keeping P f = (t : List ℕ) → P t → Keeps P (f t)

-- storing a bit keeps it
abbrev pub Stays : (List ℕ → Type 0) → Type 0
Stays P = (q : ℕ) (b : Bool) (t : List ℕ) → P t → P (set t q (bit b))

module _ (P : List ℕ → Type 0) (put_Keeps : Stays P) where
  then_keeps : (g : Got) (f : List ℕ → Got) → Keeps P g → Keeping P f → Keeps P (and_then g f)
  then_keeps (table t) f k h = h t k
  then_keeps (stopped x) f k h = tt

  decide-keeps : (b : Bool) (f h : List ℕ → Got) → Keeping P f → Keeping P h → Keeping P (decide b f h)
  decide-keeps true f h kf kh = kf
  decide-keeps false f h kf kh = kh

  each_keeps : (v : ℕ → List ℕ → Got) → ((q : ℕ) → Keeping P (v q)) → (xs : List ℕ) → Keeping P (each v xs)
  unfolding each
  each_keeps v k [] t e = e
  each_keeps v k (x ∷ xs) t e = then_keeps (v x t) (each v xs) (k x t e) (each_keeps v k xs)

  divided-keeps : (f : ℕ → ℕ → ℕ) (i m d q : ℕ) → Keeping P (divided f i m d q)
  divided-keeps f i m d q t e = decide-keeps (eqb d 0) _ _ (λ u k. tt) (λ u k. put_Keeps q (bit_of i (f m d)) u k) t e

  settle-keeps : (w : Law) (q : ℕ) → Keeping P (settle w q)
  unfolding settle
  settle-keeps (Not x) q t e = put_Keeps q (not (is_true t x)) t e
  settle-keeps (And x y) q t e = put_Keeps q (is_true t x && is_true t y) t e
  settle-keeps (Nand x y) q t e = put_Keeps q (not (is_true t x && is_true t y)) t e
  settle-keeps (Matriarch1 x y) q t e = put_Keeps q (not (is_true t x) && is_true t y) t e
  settle-keeps (Or x y) q t e = put_Keeps q (is_true t x || is_true t y) t e
  settle-keeps (AuxHalfAdder x y) q t e = put_Keeps q (is_true t x && not (is_true t y)) t e
  settle-keeps (CarryHalfAdder x y) q t e = put_Keeps q (is_true t x && is_true t y) t e
  settle-keeps (ResultHalfAdder x y) q t e = put_Keeps q (parity (is_true t x) (is_true t y)) t e
  settle-keeps (AuxFullAdder x y z) q t e = put_Keeps q (cond (beq (is_true t x) (is_true t y)) (is_true t x) (not (is_true t z))) t e
  settle-keeps (CarryFullAdder x y z) q t e = put_Keeps q (majority (is_true t x) (is_true t y) (is_true t z)) t e
  settle-keeps (ResultFullAdder x y z) q t e = put_Keeps q (parity (parity (is_true t x) (is_true t y)) (is_true t z)) t e
  settle-keeps (Quotient i a d) q t e = divided-keeps (λ x y. x / y) i (number t a) (number t d) q t e
  settle-keeps (Remainder i a d) q t e = divided-keeps (λ x y. x % y) i (number t a) (number t d) q t e
  settle-keeps Invalid q t e = tt

  module _ (u : Net) where
    step_keeps : (v : ℕ → List ℕ → Got) → ((q : ℕ) → Keeping P (v q)) → (q : ℕ) → Keeping P (step u v q)
    unfolding step follow
    step_keeps v k q t e =
        decide-keeps (eqb (get_or t q 0) 2) (decide (eqb (fixed_at u q) 0) (follow u v q) (put q (eqb (fixed_at u q) 2))) table
        (decide-keeps (eqb (fixed_at u q) 0) (follow u v q) (put q (eqb (fixed_at u q) 2))
        (λ s l. then_keeps (each v (operands (law_in u q)) s) (settle (law_in u q) q) (each_keeps v k (operands (law_in u q)) s l) (settle-keeps (law_in u q) q))
        (put_Keeps q (eqb (fixed_at u q) 2)))
        (λ s l. l)
        t
        e

    need-keeps : (f q : ℕ) → Keeping P (need u f q)
    unfolding need
    need-keeps zero q t e = e
    need-keeps (suc f) q t e = step_keeps (need u f) (need-keeps f) q t e

    need_of-keeps : (q : ℕ) → Keeping P (need_of u q)
    unfolding need_of
    need_of-keeps q = need-keeps (suc (depth u.circuit u.state q)) q

  bits-keep : (qs : List ℕ) (k : ℕ) (gs : List ℕ) (v : ℤ) → Keeping P (give_bits qs k gs v)
  unfolding give_bits
  bits-keep qs k [] v t e = decide-keeps (eq_z v (pos 0)) table _ (λ s l. l) (λ s l. tt) t e
  bits-keep qs k (g ∷ gs) v t e =
      decide-keeps (eqb (get_or qs g 0) 0) _ _ (λ s l. tt) (λ s l. bits-keep qs k gs (halved v) (set s (get_or qs g 0 - 1) (bit (low_bit v))) (put_Keeps (get_or qs g 0 - 1) (low_bit v) s l)) t e

  inputs-keep : (qs : List ℕ) (k : ℕ) (is : List Input) (vs : List ℤ) → Keeping P (give_all qs k is vs)
  unfolding give_all
  inputs-keep qs k [] vs t e = e
  inputs-keep qs k (i ∷ is) [] t e = e
  inputs-keep qs k (i ∷ is) (v ∷ vs) t e =
      then_keeps (give_bits qs k i.bits v t) (give_all qs (suc k) is vs) (bits-keep qs k i.bits v t e) (inputs-keep qs (suc k) is vs)

  -- the values found have it, if unknown values have it
  pub valued-keeps : (u : Built) (vs : List ℤ) (t : List ℕ) → P (unknowns u) → valued u vs (unknowns u) ≡ table t → P t
  unfolding valued
  valued-keeps u vs t k e = rw e at found
    where
      found : Keeps P (valued u vs (unknowns u))
      found =
          then_keeps (give_all u.state.qubits 0 u.circuit.inputs vs (unknowns u)) (each (need_of (net_of u)) (needed u))
          (inputs-keep u.state.qubits 0 u.circuit.inputs vs (unknowns u) k)
          (each_keeps (need_of (net_of u)) (need_of-keeps (net_of u)) (needed u))

-- the values found are one for each name
pub valued-length : (u : Built) (vs : List ℤ) (t : List ℕ) → valued u vs (unknowns u) ≡ table t → length t ≡ u.state.next
valued-length u vs t e =
    valued-keeps (λ (l : List ℕ). length l ≡ u.state.next) (λ q b l k. length-set l q (bit b) ∙ k) u vs t (length-replicate u.state.next 2) e
