-- Theorems over the definitions of specs/Count.antt, where their subject is told. An edit of such a definition is refused here.
-- Assumes nothing.
use Rattle.std.specs.Prelude.{◌≡◌, Bool, true, false, cond, ◌&&◌, ◌||◌, ℕ, eqb, ℤ, get_or, set}
use Rattle.std.proofs.Math.Path.{refl, sym}
use Rattle.std.proofs.Common.{◌∙◌, get_or-set_other}
use Rattle.std.proofs.Math.Bool.{or-true}
use mathlib.Core.List.{List, [], ◌∷◌}
use Rattle.std.proofs.Math.Decide.{ℕ_discrete}
use Rattle.laws.specs.Test.{by_eqb}
use Rattle.units.specs.declared.Form.{Form}
use Rattle.energy.specs.Plain.{Setting}
use Rattle.energy.specs.Circuit.{Constraint}
use Rattle.energy.specs.Numbering.{Named, Numbering, rows}
use Rattle.energy.specs.Model.{Entry, Model, Sized, empty, low, high, join_linear, add_linear, gated, touches, neighbour, give, without, fix, quarters, ends, ising, variables, energy_in}
use Rattle.energy.specs.Sized.{turned, sized-empty, sized-ising}
use Rattle.energy.specs.Fixing.{Fixes, fix_all}
use Rattle.energy.specs.Finished.{Room, Known, fixes, model, finished, in_form, rows-wired}
use Rattle.energy.proofs.Finished.{sized-finished, either-form}
use Rattle.energy.specs.Stored.{gated-add}
use Rattle.energy.specs.Marks.{Marked}
use Rattle.energy.proofs.Marks.{built-marked}
use Rattle.energy.specs.Count.{AllRowed, Rowed, energy-entered, entered, rowed-add_linear, rowed-place_all, tally-same, variables-tally}

-- ---- the Ising form has the same count: it makes linear entries at the ends of pairs alone, and these have a row

rowed-give : (q : ℕ) (b : Bool) (s : List Entry) (m : Model) → AllRowed m → AllRowed (give q b s m)
unfolding give
rowed-give q b [] m r = r
rowed-give q b (e ∷ s) m r = rowed-give q b s _ (go (touches q e.0))
  where
    go : (t : Bool) → AllRowed (cond t (add_linear (neighbour q e.0) (gated b e.1) m) m)
    go true = rowed-add_linear (neighbour q e.0) (gated b e.1) m r
    go false = r

rowed-without : (l : List ℕ) (q : ℕ) (s : List Entry) → Rowed l s → Rowed (set l q 0) (without q s)
unfolding without
rowed-without l q [] r = tt
rowed-without l q (e ∷ s) r =
    by_eqb (low e.0) q (λ b. Rowed (set l q 0) (cond (b || eqb (high e.0) q) (without q s) (e ∷ without q s)))
    (λ a. rowed-without l q s r.2)
    (λ a.
    by_eqb (high e.0) q (λ b. Rowed (set l q 0) (cond b (without q s) (e ∷ without q s)))
    (λ b. rowed-without l q s r.2)
    (λ b. (get_or-set_other l q (low e.0) 0 0 a ∙ r.0, get_or-set_other l q (high e.0) 0 0 b ∙ r.1, rowed-without l q s r.2)))

-- and so does fixing: "a neighbour's row may become empty and still exists"
pub rowed-fix : (q : ℕ) (b : Bool) (m : Model) → AllRowed m → AllRowed (fix q b m)
unfolding fix
rowed-fix q b m r = let M : Model = give q b m.pairs m in rowed-without M.has_row q M.pairs (rowed-give q b m.pairs m r)

-- one fix after the other
pub rowed-fix_all : (fs : Fixes) (m : Model) → AllRowed m → AllRowed (fix_all fs m)
unfolding fix_all
rowed-fix_all [] m r = r
rowed-fix_all (f ∷ fs) m r = rowed-fix_all fs _ (rowed-fix f.0 f.1 m r)

entered-join : (q p : ℕ) (c : ℤ) (m : Model) → get_or m.has_row p 0 ≡ 1 → entered (join_linear p c m) q ≡ entered m q
entered-join q p c m r = go (ℕ_discrete q p)
  where
    go : Dec (q ≡ p) → entered (join_linear p c m) q ≡ entered m q
    go (yes e) = rw (e, r) (or-true (eqb (get_or (set m.has_linear p 1) p 0) 1) ∙ sym (or-true (eqb (get_or m.has_linear p 0) 1)))
    go (no n) = rw (get_or-set_other m.has_linear p q 1 0 n)

entered-ends : (q : ℕ) (s : List Entry) (m : Model) → Rowed m.has_row s → entered (ends s m) q ≡ entered m q
unfolding ends
entered-ends q [] m r = refl
entered-ends q (e ∷ s) m r =
    entered-ends q s _ r.2
    ∙ entered-join q (high e.0) e.1 (join_linear (low e.0) e.1 m) r.1
    ∙ entered-join q (low e.0) e.1 m r.0

rowed-quarters : (l : List ℕ) (s : List Entry) → Rowed l s → Rowed l (quarters s)
rowed-quarters l [] r = tt
rowed-quarters l (e ∷ s) r = (r.0, r.1, rowed-quarters l s r.2)

-- Theorem: the Ising form counts the same qubits.
pub ising-entered : (m : Model) → AllRowed m → (q : ℕ) → entered (ising m) q ≡ entered m q
unfolding ising
ising-entered m r q = entered-ends q (quarters m.pairs) (turned m) (rowed-quarters m.has_row m.pairs r)

-- so the count is the same
pub ising-variables : (n : ℕ) (m : Model) → Sized n m → AllRowed m → variables (ising m) ≡ variables m
ising-variables n m s r =
    variables-tally n (ising m) (sized-ising n m s)
    ∙ tally-same n (entered (ising m)) (entered m) (λ q l. ising-entered m r q)
    ∙ sym (variables-tally n m s)

-- ---- of the finished model

module _ (n : ℕ) (d : Named) (num : Numbering d) (room : Room n d) (cs : List Constraint) where
  -- every pair of the finished model is of two qubits with a row
  pub finished-rowed : AllRowed (finished n d cs)
  finished-rowed =
      rowed-fix_all (fixes d cs) (model n d) (rowed-place_all n (rows d) (rows-wired n d num room) (empty n) (sized-empty n room.names) tt)

  -- The variable count does not depend on the form.
  pub finished-variables : variables (ising (finished n d cs)) ≡ variables (finished n d cs)
  finished-variables = ising-variables n (finished n d cs) (sized-finished n d num room cs) finished-rowed

  -- its marks are in order
  pub finished-marked : Marked (finished n d cs)
  finished-marked = built-marked n (rows d) (fixes d cs)

  -- In either form its energy asks only for the qubits that are counted.
  pub finished-asks : Known d.reached cs → (form : Form) (σ τ : Setting) → ((q : ℕ) → entered (finished n d cs) q ≡ true → σ q ≡ τ q)
      → energy_in form σ (in_form form (finished n d cs)) ≡ energy_in form τ (in_form form (finished n d cs))
  finished-asks known form σ τ h =
      either-form n d num room cs known form σ
      ∙ energy-entered gated gated-add ◌&&◌ σ τ (finished n d cs) finished-marked finished-rowed h
      ∙ sym (either-form n d num room cs known form τ)
