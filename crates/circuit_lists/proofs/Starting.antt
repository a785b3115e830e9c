-- The loop that finds where each list starts: what holds of its table before record n. Assumes nothing.
use Prim.Native.Nat.{ℕ, suc, ◌+◌, ◌≤◌, ◌<◌}
use mathlib.Core.Path.{◌≡◌, refl, sym, ap, ◌∙◌}
use mathlib.Core.Bool.{true}
use mathlib.Core.List.{List, map}
use native.Mathlib.Omega.{arith}
use native.Mathlib.Numerals.{add-one}
use native.Mathlib.Decide.{dec_le}
use native.Mathlib.Nat.{zero-add}
use borrow.Author.Tests.{eqb-true, eq-eqb}
use lib.Dec.{eqb}
use lib.ListN.{length, get_or, set, replicate, length-set, length-replicate, get_or-replicate, length-map}
use lib.Seq.{get_or-set_same, get_or-set_other, ext_get_or}
use Rattle.circuit.specs.File.{records, kind_byte, field, cons_if}
use Rattle.circuit.specs.Count.{by-test, range, length-range, get_or-range, get_d_of}
use Rattle.circuit.specs.Meaning.{numbers_to, how_many}
use Rattle.circuit.specs.Starts.{start_of, starts_of, Ends, starts-here, starts-past}

pub record Starting (c : List ℕ) (kind last : ℕ) (n next : ℕ) (starts : List ℕ) : Type 0 where
  pub long : length starts ≡ 65
  pub fresh : next ≡ how_many (numbers_to c kind n)
  pub done : (k : ℕ) → k < next → get_or starts k 0 ≡ start_of c kind k
  pub rest : (k : ℕ) → next ≤ k → k < 65 → get_or starts k 0 ≡ last

module _ (c : List ℕ) (kind last : ℕ) (h : Ends c kind last) where
  pub starting-start : Starting c kind last 0 0 (replicate 65 last)
  unfolding numbers_to
  starting-start =
      record {
        long = length-replicate 65 last;
        fresh = refl;
        done = λ k l. absurd (omega arith);
        rest = λ k l u. get_or-replicate 65 k last 0 u;
      }

  pub starting-new : (n next : ℕ) (starts : List ℕ) → Starting c kind last n next starts → n < records c → kind_byte c n ≡ kind → field c n 0 ≡ next → Starting c kind last (n + 1) (next + 1) (set starts next n)
  unfolding numbers_to
  starting-new n next starts s u e f =
      record {
        long = length-set starts next n ∙ s.long;
        fresh = rw (add-one, add-one, eq-eqb (kind_byte c n) kind e) (ap suc (sym f));
        done = λ k l. go k l (dec_le (suc k) next);
        rest = λ k l v. get_or-set_other starts next k n 0 (λ z. omega arith) ∙ s.rest k (omega arith) v;
      }
    where
      small : next < 65
      small = omega (arith, h.numbered.small n u e)

      here : start_of c kind next ≡ n
      here = ap (start_of c kind) (sym f) ∙ starts-here c h.regular.form kind h.past h.numbered n u e (λ m l i. omega (arith, h.numbered.below n (omega arith) m l i, s.fresh))

      go : (k : ℕ) → k < next + 1 → Dec (suc k ≤ next) → get_or (set starts next n) k 0 ≡ start_of c kind k
      go k l (yes d) = get_or-set_other starts next k n 0 (λ z. omega arith) ∙ s.done k d
      go k l (no d) =
          let same : k ≡ next = omega arith in
          rw same (get_or-set_same starts next n 0 (omega (arith, s.long, small)) ∙ sym here)

  pub starting-same : (n next : ℕ) (starts : List ℕ) → Starting c kind last n next starts → n < records c → (kind_byte c n ≡ kind → field c n 0 ≡ next → ⊥) → Starting c kind last (n + 1) next starts
  unfolding numbers_to
  starting-same n next starts s u e =
      record { long = s.long; fresh = rw add-one (by-test (eqb (kind_byte c n) kind) bit (λ f. rw f s.fresh)); done = s.done; rest = s.rest }
    where
      bit : eqb (kind_byte c n) kind ≡ true → next ≡ how_many (cons_if (eqb (kind_byte c n) kind) (field c n 0) (numbers_to c kind n))
      bit f =
          let bits : kind_byte c n ≡ kind = eqb-true (kind_byte c n) kind f in
          let final : field c n 0 + 1 ≡ how_many (numbers_to c kind n) = h.numbered.next n u bits (λ z. e bits (z ∙ sym s.fresh)) in
          rw f (omega (arith, s.fresh))

  pub starting-end : (next : ℕ) (starts : List ℕ) → Starting c kind last (records c) next starts → starts ≡ starts_of c kind
  unfolding starts_of
  starting-end next starts s =
      ext_get_or 0 starts (map (start_of c kind) (range 0 65)) (s.long ∙ sym (length-map (range 0 65) (start_of c kind) ∙ length-range 65 0)) (λ k l. at k (omega (arith, s.long)) ∙ sym (spec k (omega (arith, s.long))))
    where
      spec : (k : ℕ) → k < 65 → get_or (map (start_of c kind) (range 0 65)) k 0 ≡ start_of c kind k
      spec k l = get_d_of (start_of c kind) (range 0 65) k 0 0 (rw (length-range 65 0) l) ∙ ap (start_of c kind) (get_or-range 65 0 k 0 l ∙ zero-add k)

      past : (k : ℕ) → next ≤ k → start_of c kind k ≡ last
      past k l = starts-past c h.regular.form kind h.past h.numbered k (λ m i e. omega (arith, h.numbered.below (records c) (omega arith) m i e, s.fresh)) ∙ sym h.ends

      go : (k : ℕ) → k < 65 → Dec (suc k ≤ next) → get_or starts k 0 ≡ start_of c kind k
      go k l (yes d) = s.done k d
      go k l (no d) = s.rest k (omega arith) l ∙ sym (past k (omega arith))

      at : (k : ℕ) → k < 65 → get_or starts k 0 ≡ start_of c kind k
      at k l = go k l (dec_le (suc k) next)

  -- the same laws, of what the code has read
  module _ {n next : ℕ} {starts : List ℕ} (s : Starting c kind last n next starts) (u : n < records c) {k a : ℕ} (i : k ≡ kind_byte c n) (j : a ≡ field c n 0) where
    pub turn-new : k ≡ kind → a ≡ next → Starting c kind last (n + 1) (next + 1) (set starts next n)
    turn-new e f = starting-new n next starts s u (sym i ∙ e) (sym j ∙ f)

    pub turn-same : (k ≡ kind → a ≡ next → ⊥) → Starting c kind last (n + 1) next starts
    turn-same other = starting-same n next starts s u (λ e f. other (i ∙ e) (j ∙ f))

  pub starting-done : {n next : ℕ} {starts : List ℕ} → n ≤ records c → records c ≤ n → Starting c kind last n next starts → starts ≡ starts_of c kind
  starting-done {n} {next} {starts} l u s =
      let e : n ≡ records c = omega arith in
      starting-end next starts (rw e at s)
