-- The value of a rule as the code finds it, what becomes of its qubit, and what a step that stops leaves of the steps after it.
-- Assumes nothing.
use Rattle.std.specs.Prelude.{◌≡◌, refl, Result, Ok, Err, List, ℕ, ◌+◌, ◌*◌, ◌/◌, ◌%◌, ◌≤◌, eqb}
use mathlib.Core.Bool.{Bool, true, false, cond}
use Rattle.units.specs.declared.Qubit.{Qubit}
use Rattle.run_rules.specs.declared.Rule.{Rule}
use Rattle.run_rules.specs.declared.Act.{Act}
use Rattle.run_rules.specs.declared.Act.TheVariants as act
use Rattle.run_rules.specs.declared.Few.{Few}
use Rattle.run_rules.specs.declared.Operands.{Operands}
use Rattle.run_rules.specs.Code.{act_of, value_by, bits_at}
use Rattle.circuit.specs.declared.Refusal.{Refusal}
use Rattle.circuit.specs.declared.Refusal.TheVariants as refusal
use Rattle.run_values.specs.declared.Stop.{Stop}
use Rattle.run_values.specs.declared.Stop.TheVariants.{NoQubit, NotUsedUp, ZeroDivisor, NotGiven}
use Rattle.run_values.specs.Need.{Got, stopped, went, and_then, is_true, bit, put, number, bit_of}

-- ---- the value of a rule

-- of a division, from the two numbers: the remainder or the quotient
abbrev pub divided_by : Bool → ℕ → ℕ → ℕ → Qubit → Result Bool Stop
divided_by rest i n d q = cond (eqb d 0) (Err (ZeroDivisor q)) (Ok (bit_of i (cond rest (n % d) (n / d))))

-- n and d are the numbers of the two lists
abbrev pub value_as : Rule → Few → ℕ → ℕ → List ℕ → Qubit → Act → Result Bool Stop
value_as r f n d t q act.Plain = Ok (value_by r (is_true t f.x1.0) (is_true t f.x2.0) (is_true t f.x3.0))
value_as r f n d t q (act.Quotient i k l) = divided_by false i n d q
value_as r f n d t q (act.Remainder i k l) = divided_by true i n d q
value_as r f n d t q act.Nothing = Err (NotGiven q)

unfoldable pub value_in : Rule → Operands → List ℕ → List ℕ → List ℕ → Qubit → Result Bool Stop
value_in r o b qubits t q =
    value_as r o.few (number t (bits_at b qubits o.first)) (number t (bits_at b qubits o.second)) t q (act_of r)

-- what becomes of q
abbrev pub settled : Result Bool Stop → ℕ → List ℕ → Got
settled (Ok v) q t = put q v t
settled (Err x) q t = stopped x

pub record PartsAsked (size : ℕ) (o : Operands) : Type 0 where
  pub first : 16 * (o.first.from + o.first.bits) ≤ size
  pub second : 16 * (o.second.from + o.second.bits) ≤ size
  pub short : o.first.bits ≤ 64
  pub short-too : o.second.bits ≤ 64

-- ---- steps

abbrev pub is_stop : Result (Unit {0}) Stop → Bool
is_stop (Ok u) = false
is_stop (Err x) = true

-- the refusal that a stop is
abbrev pub refusal_of : Stop → Refusal
refusal_of (NoQubit g) = refusal.NoQubit g
refusal_of (NotUsedUp k) = refusal.NotUsedUp (record { 0 = k })
refusal_of (ZeroDivisor q) = refusal.DivisorZero q
refusal_of (NotGiven q) = refusal.NotGiven q

-- a step that stops, and one that goes on
pub stop-now : (w : Result (Unit {0}) Stop) (t u : List ℕ) (f : List ℕ → Got) → is_stop w ≡ true → and_then (went w t) f ≡ went w u
stop-now (Ok x) t u f e = let z : ◌≡◌ {A = Bool} false true = e in absurd (mathlib.Core.Bool.false≢true z)
stop-now (Err x) t u f e = refl

pub go_on : (w : Result (Unit {0}) Stop) (t : List ℕ) (f : List ℕ → Got) → is_stop w ≡ false → and_then (went w t) f ≡ f t
go_on (Ok x) t f e = refl
go_on (Err x) t f e = absurd (mathlib.Core.Bool.true≢false e)

-- a fixed value's byte: 2 is fixed true
abbrev pub fixed_bit : ℕ → ℕ
fixed_bit f = bit (eqb f 2)
