-- Theorems over the definitions of specs/Plain.antt, where their subject is told. An edit of such a definition is refused here.
-- Assumes nothing.
use Rattle.std.specs.Prelude.{◌≡◌, refl, ◌⊎◌, Bool, true, false, List, [], ◌∷◌, ℕ, suc, ◌+◌, ◌≤◌, ◌<◌}
use Rattle.std.proofs.Math.Path.{sym, subst}
use Rattle.std.proofs.Common.{◌∙◌, ap, inl, inr}
use native.Mathlib.Omega.{arith}
use Rattle.std.proofs.Math.Decide.{ℕ_discrete, dec_lt}
use Rattle.penalty.specs.Rows.{res, aux, car}
use Rattle.penalty.specs.Rule.{is_adder, result_by, carry_by, aux_by, obeys, Follows, obeys-join}
use Rattle.energy.specs.Plain.{Free, Obey, OneZero, Row, Setting, Sorted, free-below, mid, more, obeyed, obeys_at, plain, plain-either, plain-zero, run, run-free, same₃, seen, seen_same, sorted-le, upd_other, upd_same, wire, write, write-other}

-- ---- the run: each row in its turn sets its outputs

-- what stands at the outputs afterwards
write-result : (r : Row) (σ : Setting) → write r σ (wire r res) ≡ result_by r.kind (σ r.x) (σ r.y) (σ r.w)
unfolding write
write-result r σ = upd_same _ (wire r res) _

write-carry : (r : Row) (σ : Setting) → is_adder r.kind ≡ true → write r σ (wire r car) ≡ carry_by r.kind (σ r.x) (σ r.y) (σ r.w)
unfolding wire write
write-carry r σ e = upd_other _ (wire r res) _ (wire r car) (rw e (omega arith)) ∙ upd_same _ (wire r car) _

write-aux : (r : Row) (σ : Setting) → is_adder r.kind ≡ true → write r σ (wire r aux) ≡ aux_by r.kind (σ r.x) (σ r.y) (σ r.w)
unfolding wire write
write-aux r σ e =
    upd_other _ (wire r res) _ (wire r aux) (rw e (omega arith))
    ∙ upd_other _ (wire r car) _ (wire r aux) (rw e (omega arith))
    ∙ upd_same _ (wire r aux) _

module _ (r : Row) (hx : r.x < r.out) (hy : r.y < r.out) (hw : r.w < r.out) where
  -- a row that has just been run is obeyed
  write-obeys : (σ : Setting) → obeys_at (write r σ) r ≡ true
  unfolding wire
  write-obeys σ = obeys-join r.kind (seen (write r σ) r) follows
    where
      ex : write r σ r.x ≡ σ r.x
      ex = write-other r σ r.x (inl hx)

      ey : write r σ r.y ≡ σ r.y
      ey = write-other r σ r.y (inl hy)

      ew : write r σ r.w ≡ σ r.w
      ew = write-other r σ r.w (inl hw)

      follows : Follows r.kind (seen (write r σ) r)
      follows =
          record {
            on_result = write-result r σ ∙ sym (same₃ (result_by r.kind) ex ey ew);
            on_carry = λ e. write-carry r σ e ∙ sym (same₃ (carry_by r.kind) ex ey ew);
            on_aux = λ e. write-aux r σ e ∙ sym (same₃ (aux_by r.kind) ex ey ew);
          }

-- the run obeys every row
pub run-obeys : (lo : ℕ) (rs : List Row) (n : ℕ) → Sorted lo rs n → (φ : Setting) → Obey (run rs φ) rs
unfolding run
run-obeys lo [] n s φ = tt
run-obeys lo (r ∷ rs) n s φ =
    (ap (obeys r.kind) same ∙ write-obeys r s.1 s.2 s.3 φ, run-obeys (suc (r.out + more r.kind)) rs n s.4 (write r φ))
  where
    kept : (q : ℕ) → q < suc (r.out + more r.kind) → run rs (write r φ) q ≡ write r φ q
    kept q h = run-free rs (write r φ) q (free-below (suc (r.out + more r.kind)) rs n s.4 q h)

    same : seen (run rs (write r φ)) r ≡ seen (write r φ) r
    same = seen_same r s.1 s.2 s.3 (run rs (write r φ)) (write r φ) kept

-- a setting that obeys a row has, below the next row's names, what the row writes
module _ (r : Row) (hx : r.x < r.out) (hy : r.y < r.out) (hw : r.w < r.out) (σ φ : Setting) (o : obeys_at σ r ≡ true)
    (before : (q : ℕ) → q < r.out → σ q ≡ φ q) where
  at-result : σ (wire r res) ≡ write r φ (wire r res)
  unfolding wire
  at-result =
      (obeyed r hx hy hw σ φ o before).on_result ∙ same₃ (result_by r.kind) (before r.x hx) (before r.y hy) (before r.w hw) ∙ sym (write-result r φ)

  at-carry : is_adder r.kind ≡ true → σ (wire r car) ≡ write r φ (wire r car)
  unfolding wire
  at-carry e =
      (obeyed r hx hy hw σ φ o before).on_carry e ∙ same₃ (carry_by r.kind) (before r.x hx) (before r.y hy) (before r.w hw) ∙ sym (write-carry r φ e)

  at-aux : is_adder r.kind ≡ true → σ (wire r aux) ≡ write r φ (wire r aux)
  unfolding wire
  at-aux e =
      (obeyed r hx hy hw σ φ o before).on_aux e ∙ same₃ (aux_by r.kind) (before r.x hx) (before r.y hy) (before r.w hw) ∙ sym (write-aux r φ e)

  forced : (q : ℕ) → q < suc (r.out + more r.kind) → σ q ≡ write r φ q
  unfolding wire
  forced q h = go (dec_lt q r.out)
    where
      at : (p : ℕ) → q ≡ p → σ p ≡ write r φ p → σ q ≡ write r φ q
      at p e k = subst (λ (p : ℕ). σ p ≡ write r φ p) (sym e) k

      adds : r.out ≤ q → (b : Bool) → is_adder r.kind ≡ b → σ q ≡ write r φ q
      adds le false e = let m : more r.kind ≡ 0 = rw e in at (r.out + more r.kind) (omega arith) at-result
      adds le true e = three (ℕ_discrete q r.out) (ℕ_discrete q (r.out + 1))
        where
          m : more r.kind ≡ 2
          m = rw e

          d : mid r.kind ≡ 1
          d = rw e

          three : Dec (q ≡ r.out) → Dec (q ≡ r.out + 1) → σ q ≡ write r φ q
          three (yes a) b = at r.out a (at-aux e)
          three (no a) (yes b) = at (r.out + mid r.kind) (omega (arith, d)) (at-carry e)
          three (no a) (no b) = at (r.out + more r.kind) (omega (arith, m)) at-result

      go : Dec (q < r.out) → σ q ≡ write r φ q
      go (yes h) = before q h ∙ sym (write-other r φ q (inl h))
      go (no f) = adds (omega arith) (is_adder r.kind) refl

-- A setting that obeys every row is the run from any φ that agrees with it on the free names.
pub run_only : (lo : ℕ) (rs : List Row) (n : ℕ) → Sorted lo rs n → (σ φ : Setting) → Obey σ rs
    → ((q : ℕ) → q < n → Free rs q → σ q ≡ φ q) → (q : ℕ) → q < n → σ q ≡ run rs φ q
unfolding run
run_only lo [] n s σ φ o f q h = f q h tt
run_only lo (r ∷ rs) n s σ φ o f q h = run_only next rs n s.4 σ (write r φ) o.1 free q h
  where
    next : ℕ
    next = suc (r.out + more r.kind)

    fits : next ≤ n
    fits = sorted-le next rs n s.4

    before : (q : ℕ) → q < r.out → σ q ≡ φ q
    before q h = f q (omega (arith, fits)) (inl h, free-below next rs n s.4 q (omega arith))

    up_to : (q : ℕ) → q < next → σ q ≡ write r φ q
    up_to = forced r s.1 s.2 s.3 σ φ o.0 before

    free : (q : ℕ) → q < n → Free rs q → σ q ≡ write r φ q
    free q h k = go (dec_lt q next)
      where
        go : Dec (q < next) → σ q ≡ write r φ q
        go (yes a) = up_to q a
        go (no a) = let b : r.out + more r.kind < q = omega arith in f q h (inr b, k) ∙ sym (write-other r φ q (inr b))

pub one-zero : (lo : ℕ) (rs : List Row) (n : ℕ) → Sorted lo rs n → (φ : Setting) → OneZero rs n φ
one-zero lo rs n s φ =
    record {
      keeps = run-free rs φ;
      zero-at-run = plain-zero (run rs φ) rs (run-obeys lo rs n s φ);
      others = λ σ f. go σ f (plain-either σ rs);
    }
  where
    go : (σ : Setting) → ((q : ℕ) → q < n → Free rs q → σ q ≡ φ q) → Obey σ rs ⊎ (2 ≤ plain σ rs)
        → ((q : ℕ) → q < n → σ q ≡ run rs φ q) ⊎ (2 ≤ plain σ rs)
    go σ f (inl o) = inl (run_only lo rs n s σ φ o f)
    go σ f (inr h) = inr h
