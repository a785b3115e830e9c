-- The value of a qubit, found and remembered in the value table: 0, 1, or 2 unknown.
-- "A qubit's value is the given one, else the fixed one, else its rule's, followed through its operands (all, left to right, dividend before divisor);
-- a division reads its lists as unsigned and takes the index-th bit of the result."
-- Assumes nothing: these are definitions.
use Rattle.std.specs.Prelude.{Bool, true, false, not, ◌&&◌, ◌||◌, cond, Result, Ok, Err, List, [], ◌∷◌, ℕ, zero, suc, ◌+◌, ◌*◌, ◌/◌, ◌%◌, ◌^◌, eqb, get_or, set}
use Rattle.std.specs.Bool.{beq}
use Rattle.penalty.specs.Rule.{parity, majority}
use Rattle.energy.specs.Circuit.{Circuit}
use Rattle.units.specs.Name.{qubit}
use Rattle.numbering.specs.State.{State}
use Rattle.run_values.specs.declared.Stop.{Stop}
use Rattle.run_values.specs.declared.Stop.TheVariants.{ZeroDivisor, NotGiven}
use Rattle.run_rules.specs.Rules.{Law, Not, And, Nand, Matriarch1, Or, AuxHalfAdder, CarryHalfAdder, ResultHalfAdder, AuxFullAdder, CarryFullAdder, ResultFullAdder, Quotient, Remainder, Invalid, law_of, operands, depth}

-- the value table, or why the run stops
pub data Got : Type 0 where
  table : List ℕ → Got
  stopped : Stop → Got

-- what a step's answer and the table that it left say
abbrev pub went : Result (Unit {0}) Stop → List ℕ → Got
went (Ok u) t = table t
went (Err x) t = stopped x

abbrev pub and_then : Got → (List ℕ → Got) → Got
and_then (table t) f = f t
and_then (stopped x) f = stopped x

-- one of two ways on: of functions, so that the other is not computed
abbrev pub decide : Bool → (List ℕ → Got) → (List ℕ → Got) → List ℕ → Got
decide true f h t = f t
decide false f h t = h t

-- v at each qubit of a list, in order
unfoldable pub each : (ℕ → List ℕ → Got) → List ℕ → List ℕ → Got
each v [] t = table t
each v (x ∷ xs) t = and_then (v x t) (each v xs)

-- ---- values

abbrev pub is_true : List ℕ → ℕ → Bool
is_true t q = eqb (get_or t q 0) 1

abbrev pub bit : Bool → ℕ
bit b = cond b 1 0

-- the value of q is remembered
abbrev pub put : ℕ → Bool → List ℕ → Got
put q b t = table (set t q (bit b))

-- "a division reads its lists as unsigned", lowest bit first
unfoldable pub number : List ℕ → List ℕ → ℕ
number t [] = 0
number t (x ∷ xs) = bit (is_true t x) + 2 * number t xs

-- "and takes the index-th bit of the result"
abbrev pub bit_of : ℕ → ℕ → Bool
bit_of i n = eqb (n / 2 ^ i % 2) 1

-- "14: a needed division has divisor 0; place: its qubit"
abbrev pub divided : (ℕ → ℕ → ℕ) → ℕ → ℕ → ℕ → ℕ → List ℕ → Got
divided f i n d q t = decide (eqb d 0) (λ t. stopped (ZeroDivisor (qubit q))) (λ t. put q (bit_of i (f n d)) t) t

-- The value of q by its rule, once its operands' values are found. "15: a needed InputBit is neither given nor fixed; place: its qubit."
unfoldable pub settle : Law → ℕ → List ℕ → Got
settle (Not x) q t = put q (not (is_true t x)) t
settle (And x y) q t = put q (is_true t x && is_true t y) t
settle (Nand x y) q t = put q (not (is_true t x && is_true t y)) t
settle (Matriarch1 x y) q t = put q (not (is_true t x) && is_true t y) t
settle (Or x y) q t = put q (is_true t x || is_true t y) t
settle (AuxHalfAdder x y) q t = put q (is_true t x && not (is_true t y)) t
settle (CarryHalfAdder x y) q t = put q (is_true t x && is_true t y) t
settle (ResultHalfAdder x y) q t = put q (parity (is_true t x) (is_true t y)) t
settle (AuxFullAdder x y z) q t = put q (cond (beq (is_true t x) (is_true t y)) (is_true t x) (not (is_true t z))) t
settle (CarryFullAdder x y z) q t = put q (majority (is_true t x) (is_true t y) (is_true t z)) t
settle (ResultFullAdder x y z) q t = put q (parity (parity (is_true t x) (is_true t y)) (is_true t z)) t
settle (Quotient i n d) q t = divided (λ a b. a / b) i (number t n) (number t d) q t
settle (Remainder i n d) q t = divided (λ a b. a % b) i (number t n) (number t d) q t
settle Invalid q t = stopped (NotGiven (qubit q))

-- ---- a qubit that is needed

-- what the values rest on: the circuit, the names, and by qubit 0 not fixed, 1 fixed false, 2 fixed true
pub record Net : Type 0 where
  pub circuit : Circuit
  pub state : State
  pub fixed : List ℕ

abbrev pub law_in : Net → ℕ → Law
law_in u q = law_of u.circuit u.state q

abbrev pub fixed_at : Net → ℕ → ℕ
fixed_at u q = get_or u.fixed q 0

-- the rule's operands in order, and then the rule
unfoldable pub follow : Net → (ℕ → List ℕ → Got) → ℕ → List ℕ → Got
follow u v q t = and_then (each v (operands (law_in u q)) t) (settle (law_in u q) q)

-- "the given one" or one found before, "else the fixed one, else its rule's"
unfoldable pub step : Net → (ℕ → List ℕ → Got) → ℕ → List ℕ → Got
step u v q t = decide (eqb (get_or t q 0) 2) (decide (eqb (fixed_at u q) 0) (follow u v q) (put q (eqb (fixed_at u q) 2))) table t

-- at most f levels deep
unfoldable pub need : Net → ℕ → ℕ → List ℕ → Got
need u zero q t = table t
need u (suc f) q t = step u (need u f) q t

-- "Evaluating a qubit recurses through its rule, over a depth taken from the originating gate or join step"
unfoldable pub need_of : Net → ℕ → List ℕ → Got
need_of u q = need u (suc (depth u.circuit u.state q)) q
