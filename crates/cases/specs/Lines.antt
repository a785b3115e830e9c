-- The lines of a stream of cases that no other program prints.
-- Assumes nothing.
use Rattle.std.specs.Prelude.{ℕ, ◌+◌, ◌^◌, ◌%◌, ◌≤◌, ◌<◌, List, [], ◌∷◌, ◌++◌, leb, length}
use Rattle.std.proofs.Common.{arith, length-append}
use Rattle.circuit.specs.File.{either}
use Rattle.text.specs.Bytes.{bytes}
use Rattle.text.specs.Decimal.{decimal, length-decimal}
use Rattle.text.specs.Text.{lines}

-- `case K` and the line's end
abbrev pub case_text : ℕ → List ℕ
case_text k = bytes "case " ++ (decimal k ++ (10 ∷ []))

-- a value after a space, in one digit
abbrev pub value_text : ℕ → List ℕ
value_text v = 32 ∷ (48 + v % 10) ∷ []

-- `values 0 1 2` and the line's end
unfoldable pub values_line : List ℕ → List ℕ
values_line vs = bytes "values" ++ (lines value_text vs ++ (10 ∷ []))

-- the bytes of a value table before the first that is no value: 0 false, 1 true, 2 unknown
unfoldable pub named : List ℕ → List ℕ
named [] = []
named (v ∷ vs) = either (leb v 2) (v ∷ named vs) []

-- a number of 64 bits has at most 20 digits
pub case-short : (k : ℕ) → k < 2 ^ 64 → length (case_text k) ≤ 26
case-short k h = simp length-append (omega (arith, length-decimal 19 k (omega arith)))
