-- A qubit that is fixed has gone from the model: no linear entry, no row, no pair. It stays so under later fixes and in the Ising form.
-- The theorems that an edit of a definition breaks are in proofs/Gone.antt.
-- Assumes nothing.
use Rattle.std.specs.Prelude.{◌≡◌, ◌≢◌, Bool, true, false, cond, ◌||◌, List, [], ◌∷◌, ℕ, eqb, ℤ, pos, get_or}
use Rattle.std.proofs.Common.{sym, ◌∙◌, get_or-set_other}
use Rattle.laws.specs.Table.{set-default}
use Rattle.laws.specs.Test.{by_eqb}
use Rattle.energy.specs.Model.{Entry, Model, low, high, is_zero, join_linear, add_linear, give, without, fix}

-- no pair of these has q
abbrev pub Apart : ℕ → List Entry → Type 0
Apart q [] = Unit {0}
Apart q (e ∷ s) = (low e.0 ≢ q) × (high e.0 ≢ q) × Apart q s

-- nothing of the model speaks of q
pub record Gone (q : ℕ) (m : Model) : Type 0 where
  pub linear : get_or m.linear q (pos 0) ≡ pos 0
  pub has_linear : get_or m.has_linear q 0 ≡ 0
  pub has_row : get_or m.has_row q 0 ≡ 0
  pub pairs : Apart q m.pairs

without-apart : (q : ℕ) (s : List Entry) → Apart q (without q s)
unfolding without
without-apart q [] = tt
without-apart q (e ∷ s) =
    by_eqb (low e.0) q (λ b. Apart q (cond (b || eqb (high e.0) q) (without q s) (e ∷ without q s)))
    (λ l. without-apart q s)
    (λ l. by_eqb (high e.0) q (λ b. Apart q (cond b (without q s) (e ∷ without q s))) (λ h. without-apart q s) (λ h. (l, h, without-apart q s)))

pub gone-join_linear : (q p : ℕ) (c : ℤ) (m : Model) → p ≢ q → Gone q m → Gone q (join_linear p c m)
gone-join_linear q p c m ne g =
    record {
      linear = get_or-set_other m.linear p q _ (pos 0) (λ e. ne (sym e)) ∙ g.linear;
      has_linear = get_or-set_other m.has_linear p q 1 0 (λ e. ne (sym e)) ∙ g.has_linear;
      has_row = g.has_row;
      pairs = g.pairs;
    }

pub gone-add_linear : (q p : ℕ) (c : ℤ) (m : Model) → p ≢ q → Gone q m → Gone q (add_linear p c m)
unfolding add_linear
gone-add_linear q p c m ne g = go (is_zero c)
  where
    go : (b : Bool) → Gone q (cond b m (join_linear p c m))
    go true = g
    go false = gone-join_linear q p c m ne g

-- a qubit that is fixed has gone
pub gone-fix : (q : ℕ) (b : Bool) (m : Model) → Gone q (fix q b m)
unfolding fix
gone-fix q b m =
    let M : Model = give q b m.pairs m in
    record {
      linear = set-default M.linear q (pos 0);
      has_linear = set-default M.has_linear q 0;
      has_row = set-default M.has_row q 0;
      pairs = without-apart q M.pairs;
    }
