-- Signed operations of the code. A signed local holds bits, so a need and a result speak of what the machine reads back, `to_z w (of_z w z)`, which is z where z fits.
-- A need or a result of arithmetic: take each reading back off by `simp (to_z-of_z fa, to_z-of_z fb, ..) h`, with a fact that each operand, and each result on the way, fits. Here are the tests:
--     is_eq, eq_test        a test `==` tells of bits: what it says of the numbers
--     lt-true, lt-false, le-true, le-false     a test `<` or `<=` is an equation of a flag: what it says of the numbers
-- Assumes nothing.
use Rattle.std.specs.Prelude.{◌≡◌, Bool, true, false, not, ℤ, pos, negsuc, T, eqb, ◌<ℤ◌, ◌≤ℤ◌}
use Rattle.std.proofs.Common.{sym, ap, ap₂, ◌∙◌, subst, le_of_lt, eqb→eq, le→leb, SFits, to_z, of_z, to_z-of_z}
use Rattle.std.proofs.Math.Dec.{nleb→lt}
use Rattle.std.specs.Float.Ieee.Fits.{eq→eqb}
use Rattle.std.specs.Int.Signed.{lt_z, le_z, lt_z_yes, lt_z_no, le_z_yes}
use Rattle.std.specs.Int.{Width}
use Rattle.laws.specs.Equal.{eq_z, eq_z→eq, eq→eq_z, same_test}

-- of two numbers one is at most the other
not-le : (a b : ℤ) → T (not (le_z a b)) → T (le_z b a)
not-le (pos a) (pos b) t = le→leb b a (le_of_lt (nleb→lt a b t))
not-le (pos a) (negsuc b) t = tt
not-le (negsuc a) (pos b) t = absurd t
not-le (negsuc a) (negsuc b) t = le→leb a b (le_of_lt (nleb→lt b a t))

le_z-no : {a b : ℤ} → T (not (le_z a b)) → b ≤ℤ a
le_z-no {a} {b} t = le_z_yes (not-le a b t)

module _ (w : Width) {a b : ℤ} (fa : SFits w a) (fb : SFits w b) where
  -- two numbers whose bits are equal are equal
  pub is_eq : of_z w a ≡ of_z w b → a ≡ b
  is_eq e = sym (to_z-of_z fa) ∙ ap (to_z w) e ∙ to_z-of_z fb

  -- the code's `a == b`
  pub eq_test : eqb (of_z w a) (of_z w b) ≡ eq_z a b
  eq_test = same_test (eqb (of_z w a) (of_z w b)) (eq_z a b) (λ t. eq→eq_z (is_eq (eqb→eq (of_z w a) (of_z w b) t))) (λ t. eq→eqb (ap (of_z w) (eq_z→eq a b t)))

  pub lt-true : lt_z (to_z w (of_z w a)) (to_z w (of_z w b)) ≡ true → a <ℤ b
  lt-true e = lt_z_yes (subst T (sym e ∙ ap₂ lt_z (to_z-of_z fa) (to_z-of_z fb)) tt)

  pub lt-false : lt_z (to_z w (of_z w a)) (to_z w (of_z w b)) ≡ false → b ≤ℤ a
  lt-false e = lt_z_no (subst (λ (t : Bool). T (not t)) (sym e ∙ ap₂ lt_z (to_z-of_z fa) (to_z-of_z fb)) tt)

  pub le-true : le_z (to_z w (of_z w a)) (to_z w (of_z w b)) ≡ true → a ≤ℤ b
  le-true e = le_z_yes (subst T (sym e ∙ ap₂ le_z (to_z-of_z fa) (to_z-of_z fb)) tt)

  pub le-false : le_z (to_z w (of_z w a)) (to_z w (of_z w b)) ≡ false → b ≤ℤ a
  le-false e = le_z-no (subst (λ (t : Bool). T (not t)) (sym e ∙ ap₂ le_z (to_z-of_z fa) (to_z-of_z fb)) tt)
