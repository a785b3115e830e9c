-- `decimals::read_value` meets its contract, by the first byte.
use Rattle.std.proofs.Common.{◌≡◌, List, ◌∷◌, ℕ, ◌∙◌, eq-eqb, ne_eqb}
use Rattle.decimals.specs.Value.{value_of, negative_of, positive_of}
use Rattle.decimals.specs.Upto.{value_none}
use Rattle.decimals.proofs.read_value.Goals as goal

module _ {s : List ℕ} {b : ℕ} {rest : List ℕ} (is : s ≡ b ∷ rest) where
  minus : b ≡ 45 → negative_of rest ≡ value_of s
  unfolding value_of
  minus e = rw (is, eq-eqb b 45 e)

  plus : b ≡ 43 → positive_of rest ≡ value_of s
  unfolding value_of
  plus e = rw (is, e)

  plain : (b ≡ 45 → ⊥) → (b ≡ 43 → ⊥) → positive_of s ≡ value_of s
  unfolding value_of
  plain n m = rw (is, ne_eqb b 45 n, ne_eqb b 43 m)

pub returns-in_err-first : goal.returns-in_err-first
returns-in_err-first c = c.from_residual.ensures ∙ value_none _ c.in_err-first.ensures.cases

pub returns-then-first-eq45 : goal.returns-then-first-eq45
returns-then-first-eq45 c = c.read_negative.ensures ∙ minus c.in_ok-first.ensures.cases.0 c.if-first-eq45.true

pub returns-then-first-eq43 : goal.returns-then-first-eq43
returns-then-first-eq43 c = c.read_positive.ensures ∙ plus c.in_ok-first.ensures.cases.0 c.if-first-eq43.true

pub returns-else-first-eq43 : goal.returns-else-first-eq43
returns-else-first-eq43 c = c.read_positive-else-first-eq43.ensures ∙ plain c.in_ok-first.ensures.cases.0 c.if-first-eq45.false c.if-first-eq43.false
