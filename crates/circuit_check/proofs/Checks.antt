-- How an answer of one check settles the whole. Assumes nothing.
use Rattle.std.specs.Prelude.{Err, None, Ok, Some}
use Prim.Native.Nat.{ℕ, ◌%◌}
use mathlib.Core.Path.{◌≡◌}
use mathlib.Core.Bool.{true, false}
use mathlib.Core.List.{List}
use borrow.Author.Tests.{eq-eqb, ne_eqb}
use lib.ListN.{length}
use Rattle.circuit.specs.declared.Counts.{Counts}
use Rattle.circuit.specs.declared.Refusal.TheVariants.{Length, TooMany, Form, NotEarlier, Partner, NoBadState, Room}
use Rattle.circuit.specs.Refusals.{place}
use Rattle.circuit.specs.Form.{first_broken}
use Rattle.circuit.specs.Earlier.{first_late}
use Rattle.circuit.specs.Partner.{first_wrong}
use Rattle.circuit.specs.Check.{counts_of, too_many, no_room, roomed, named, checked}

module _ (k : Counts) (g q p : ℕ) where
  pub no-bad : k.bad_states ≡ 0 → Err NoBadState ≡ roomed k g q p
  unfolding roomed
  no-bad e = rw (eq-eqb k.bad_states 0 e)

  pub room-short : (k.bad_states ≡ 0 → ⊥) → no_room k g q p ≡ true → Err Room ≡ roomed k g q p
  unfolding roomed
  room-short e f = rw (ne_eqb k.bad_states 0 e, f)

  pub room-enough : (k.bad_states ≡ 0 → ⊥) → no_room k g q p ≡ false → Ok k ≡ roomed k g q p
  unfolding roomed
  room-enough e f = rw (ne_eqb k.bad_states 0 e, f)

module _ (c : List ℕ) (g q p : ℕ) where
  pub named-late : {n : ℕ} → first_late c ≡ Some n → Err (NotEarlier (place n)) ≡ named c g q p
  unfolding named
  named-late e = rw e

  pub named-wrong : {n : ℕ} → first_late c ≡ None → first_wrong c ≡ Some n → Err (Partner (place n)) ≡ named c g q p
  unfolding named
  named-wrong e f = rw (e, f)

  pub named_ok : first_late c ≡ None → first_wrong c ≡ None → named c g q p ≡ roomed (counts_of c) g q p
  unfolding named
  named_ok e f = rw (e, f)

  pub odd-length : (length c % 16 ≡ 0 → ⊥) → Err Length ≡ checked c g q p
  unfolding checked
  odd-length e = rw (ne_eqb (length c % 16) 0 e)

  module _ (whole : length c % 16 ≡ 0) where
    pub too-many-records : too_many (counts_of c) ≡ true → Err TooMany ≡ checked c g q p
    unfolding checked
    too-many-records f = rw (eq-eqb (length c % 16) 0 whole, f)

    pub form-broken : too_many (counts_of c) ≡ false → {n : ℕ} → first_broken c ≡ Some n → Err (Form (place n)) ≡ checked c g q p
    unfolding checked
    form-broken f b = rw (eq-eqb (length c % 16) 0 whole, f, b)

    pub form-ok : too_many (counts_of c) ≡ false → first_broken c ≡ None → checked c g q p ≡ named c g q p
    unfolding checked
    form-ok f b = rw (eq-eqb (length c % 16) 0 whole, f, b)
