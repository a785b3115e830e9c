-- What check 3 gives of the numbers of lists and of inputs: "begin at 0 and either stay or rise by one; at most 63. Each list or input has 1 to 64 bits."
-- Assumes nothing.
use Prim.Native.Nat.{ℕ, zero, suc, ◌+◌, ◌≤◌, ◌<◌}
use Rattle.std.specs.Prelude.{◌≡◌, refl, Bool, false, List, ◌∷◌, length, None}
use Rattle.std.proofs.Common.{sym, ◌∙◌}
use Rattle.std.proofs.Math.Path.{ap}
use Rattle.std.proofs.Math.Bool.{true}
use native.Mathlib.Omega.{arith}
use Rattle.std.proofs.Math.Decide.{dec_le}
use borrow.Author.Tests.{eqb-true, eqb-false, eq-eqb, ne_eqb}
use Rattle.std.proofs.Math.Dec.{eqb}
use Rattle.circuit.specs.declared.Run.{Run}
use Rattle.circuit.specs.File.{records, kind_byte, field, cons_if, is_bit_of, bits_of}
use Rattle.circuit.specs.Count.{by-test, count_before, length-those}
use Rattle.circuit.specs.Meaning.{numbers_to, how_many}
use Rattle.circuit.specs.Form.{times, first_broken}
use Rattle.circuit.specs.Passing.{bad_in, Runs, breaks-by, parts, next-or-last, small-number}
use Rattle.circuit.specs.Ordered.{unbroken, passed-at}

times_more : (k : ℕ) (b : Bool) (a : ℕ) (ks : List ℕ) → times k ks ≤ times k (cons_if b a ks)
unfolding times
times_more k true a ks = by-test (eqb a k) (λ e. rw e (omega arith)) (λ e. rw e (omega arith))
times_more k false a ks = omega arith

times-head : (a : ℕ) (ks : List ℕ) → 0 < times a (a ∷ ks)
unfolding times
times-head a ks = rw (eq-eqb a a refl) (omega arith)

times-some : (c : List ℕ) (kind m n : ℕ) → m < n → kind_byte c m ≡ kind → 0 < times (field c m 0) (numbers_to c kind n)
unfolding numbers_to
times-some c kind m zero l e = absurd (omega arith)
times-some c kind m (suc n) l e = go (dec_le (suc m) n) (λ d. times-some c kind m n d e)
  where
    here : m ≡ n → 0 < times (field c m 0) (cons_if (eqb (kind_byte c n) kind) (field c n 0) (numbers_to c kind n))
    here f = rw (f, eq-eqb (kind_byte c n) kind (ap (kind_byte c) (sym f) ∙ e)) (times-head (field c n 0) (numbers_to c kind n))

    go : Dec (suc m ≤ n) → (m < n → 0 < times (field c m 0) (numbers_to c kind n)) → 0 < times (field c m 0) (cons_if (eqb (kind_byte c n) kind) (field c n 0) (numbers_to c kind n))
    go (yes d) ih = omega (arith, ih d, times_more (field c m 0) (eqb (kind_byte c n) kind) (field c n 0) (numbers_to c kind n))
    go (no d) ih = here (omega arith)

-- a number that follows is no lower than any before it
pub number-after : (ks : List ℕ) (r : Run) → Runs ks r → (a : ℕ) → bad_in r a ≡ false → (b : ℕ) → 0 < times b ks → b ≤ a
number-after ks r h a e b l =
    let low : b < r.begun = go (dec_le r.begun b) in
    by-test (eqb a r.begun) (λ f. omega (arith, eqb-true a r.begun f)) (λ f. omega (arith, (next-or-last r a e f).0))
  where
    go : Dec (r.begun ≤ b) → b < r.begun
    go (yes d) = absurd (omega (arith, h.none b d))
    go (no d) = omega arith

-- What the form says of the numbers of lists (kind 20), or of inputs (kind 23).
pub record Numbered (c : List ℕ) (kind : ℕ) : Type 0 where
  -- a later bit has no lower number, and a number is below 64
  pub rise : (m n : ℕ) → m < n → n < records c → kind_byte c m ≡ kind → kind_byte c n ≡ kind → field c m 0 ≤ field c n 0
  pub small : (n : ℕ) → n < records c → kind_byte c n ≡ kind → field c n 0 < 64
  -- the numbers before record n are below the next new one, and the next bit has that one or the last one
  pub below : (n : ℕ) → n ≤ records c → (m : ℕ) → m < n → kind_byte c m ≡ kind → field c m 0 < how_many (numbers_to c kind n)
  pub next : (n : ℕ) → n < records c → kind_byte c n ≡ kind → (field c n 0 ≡ how_many (numbers_to c kind n) → ⊥) → field c n 0 + 1 ≡ how_many (numbers_to c kind n)
  -- "Each list or input has 1 to 64 bits"
  pub some : (k : ℕ) → k < how_many (numbers_to c kind (records c)) → 0 < times k (numbers_to c kind (records c))
  pub most : (k : ℕ) → times k (numbers_to c kind (records c)) ≤ 64
  pub few : how_many (numbers_to c kind (records c)) ≤ 64

-- what has to be kept of the numbers before each bit, and that the bit follows
abbrev Fitting : List ℕ → ℕ → Type 0
Fitting c kind = (n : ℕ) → n < records c → kind_byte c n ≡ kind → (r : Run) × (Runs (numbers_to c kind n) r × (bad_in r (field c n 0) ≡ false))

module _ (c : List ℕ) (kind : ℕ) (fit : Fitting c kind) where
  next_of : (n : ℕ) → n < records c → kind_byte c n ≡ kind → (field c n 0 ≡ how_many (numbers_to c kind n) → ⊥) → field c n 0 + 1 ≡ how_many (numbers_to c kind n)
  next_of n u e h =
      let f = fit n u e in
      (next-or-last f.0 (field c n 0) f.1.1 (ne_eqb (field c n 0) f.0.begun (λ z. h (z ∙ sym f.1.0.begun)))).0 ∙ sym f.1.0.begun

  -- the next bit's number is the next new one or one less, and has fewer than 64 bits so far
  near : (n : ℕ) → n < records c → kind_byte c n ≡ kind → (how_many (numbers_to c kind n) ≤ field c n 0 + 1) × (field c n 0 ≤ how_many (numbers_to c kind n)) × (times (field c n 0) (numbers_to c kind n) < 64)
  near n u e = by-test (eqb (field c n 0) (fit n u e).0.begun) new old
    where
      runs : Runs (numbers_to c kind n) (fit n u e).0
      runs = (fit n u e).1.0

      new : eqb (field c n 0) (fit n u e).0.begun ≡ true → (how_many (numbers_to c kind n) ≤ field c n 0 + 1) × (field c n 0 ≤ how_many (numbers_to c kind n)) × (times (field c n 0) (numbers_to c kind n) < 64)
      new f =
          let same : field c n 0 ≡ (fit n u e).0.begun = eqb-true (field c n 0) (fit n u e).0.begun f in
          (omega (arith, runs.begun), omega (arith, runs.begun), omega (arith, runs.none (field c n 0) (omega arith)))

      old : eqb (field c n 0) (fit n u e).0.begun ≡ false → (how_many (numbers_to c kind n) ≤ field c n 0 + 1) × (field c n 0 ≤ how_many (numbers_to c kind n)) × (times (field c n 0) (numbers_to c kind n) < 64)
      old f =
          let last = next-or-last (fit n u e).0 (field c n 0) (fit n u e).1.1 f in
          (omega (arith, runs.begun, last.0), omega (arith, runs.begun, last.0), omega (arith, runs.bits (field c n 0) last.0, last.1))

  below-to : (n : ℕ) → n ≤ records c → (k : ℕ) → 0 < times k (numbers_to c kind n) → k < how_many (numbers_to c kind n)
  unfolding numbers_to times
  below-to zero u k l = absurd (omega arith)
  below-to (suc n) u k l = by-test (eqb (kind_byte c n) kind) (bit (λ i. below-to n (omega arith) k i)) (other (λ i. below-to n (omega arith) k i))
    where
      bit : (0 < times k (numbers_to c kind n) → k < how_many (numbers_to c kind n)) → eqb (kind_byte c n) kind ≡ true → k < how_many (cons_if (eqb (kind_byte c n) kind) (field c n 0) (numbers_to c kind n))
      bit ih e =
          let near-n = near n (omega arith) (eqb-true (kind_byte c n) kind e) in
          rw e (by-test (eqb (field c n 0) k) (λ f. omega (arith, eqb-true (field c n 0) k f)) (λ f. omega (arith, ih (rw (e, f) at l), near-n.0)))

      other : (0 < times k (numbers_to c kind n) → k < how_many (numbers_to c kind n)) → eqb (kind_byte c n) kind ≡ false → k < how_many (cons_if (eqb (kind_byte c n) kind) (field c n 0) (numbers_to c kind n))
      other ih e = rw e (ih (rw e at l))

  some_to : (n : ℕ) → n ≤ records c → (k : ℕ) → k < how_many (numbers_to c kind n) → 0 < times k (numbers_to c kind n)
  unfolding numbers_to times
  some_to zero u k l = absurd (omega arith)
  some_to (suc n) u k l = by-test (eqb (kind_byte c n) kind) (bit (λ i. some_to n (omega arith) k i)) (other (λ i. some_to n (omega arith) k i))
    where
      bit : (k < how_many (numbers_to c kind n) → 0 < times k (numbers_to c kind n)) → eqb (kind_byte c n) kind ≡ true → 0 < times k (cons_if (eqb (kind_byte c n) kind) (field c n 0) (numbers_to c kind n))
      bit ih e =
          let near-n = near n (omega arith) (eqb-true (kind_byte c n) kind e) in
          let m : k < suc (field c n 0) = rw e at l in
          rw e (by-test (eqb (field c n 0) k) (λ f. rw f (omega arith)) (λ f. rw f (ih (omega (arith, near-n.1, eqb-false (field c n 0) k f)))))

      other : (k < how_many (numbers_to c kind n) → 0 < times k (numbers_to c kind n)) → eqb (kind_byte c n) kind ≡ false → 0 < times k (cons_if (eqb (kind_byte c n) kind) (field c n 0) (numbers_to c kind n))
      other ih e = rw e (ih (rw e at l))

  most-to : (n : ℕ) → n ≤ records c → (k : ℕ) → times k (numbers_to c kind n) ≤ 64
  unfolding numbers_to times
  most-to zero u k = omega arith
  most-to (suc n) u k = by-test (eqb (kind_byte c n) kind) (bit (most-to n (omega arith) k)) (other (most-to n (omega arith) k))
    where
      bit : times k (numbers_to c kind n) ≤ 64 → eqb (kind_byte c n) kind ≡ true → times k (cons_if (eqb (kind_byte c n) kind) (field c n 0) (numbers_to c kind n)) ≤ 64
      bit ih e =
          let near-n = near n (omega arith) (eqb-true (kind_byte c n) kind e) in
          rw e (by-test (eqb (field c n 0) k)
          (λ f. rw f (let same : times k (numbers_to c kind n) ≡ times (field c n 0) (numbers_to c kind n) = ap (λ (x : ℕ). times x (numbers_to c kind n)) (sym (eqb-true (field c n 0) k f)) in omega (arith, near-n.2)))
          (λ f. rw f ih))

      other : times k (numbers_to c kind n) ≤ 64 → eqb (kind_byte c n) kind ≡ false → times k (cons_if (eqb (kind_byte c n) kind) (field c n 0) (numbers_to c kind n)) ≤ 64
      other ih e = rw e ih

  few-to : (n : ℕ) → n ≤ records c → how_many (numbers_to c kind n) ≤ 64
  unfolding numbers_to
  few-to zero u = omega arith
  few-to (suc n) u = by-test (eqb (kind_byte c n) kind) bit (other (few-to n (omega arith)))
    where
      bit : eqb (kind_byte c n) kind ≡ true → how_many (cons_if (eqb (kind_byte c n) kind) (field c n 0) (numbers_to c kind n)) ≤ 64
      bit e =
          let f = fit n (omega arith) (eqb-true (kind_byte c n) kind e) in
          rw e (omega (arith, small-number f.0 (field c n 0) f.1.1))

      other : how_many (numbers_to c kind n) ≤ 64 → eqb (kind_byte c n) kind ≡ false → how_many (cons_if (eqb (kind_byte c n) kind) (field c n 0) (numbers_to c kind n)) ≤ 64
      other ih e = rw e ih

  numbered-by : Numbered c kind
  numbered-by =
      record {
        rise = λ m n l u e f. number-after (numbers_to c kind n) (fit n u f).0 (fit n u f).1.0 (field c n 0) (fit n u f).1.1 (field c m 0) (times-some c kind m n l e);
        small = λ n u f. small-number (fit n u f).0 (field c n 0) (fit n u f).1.1;
        below = λ n u m l e. below-to n u (field c m 0) (times-some c kind m n l e);
        next = next_of;
        some = some_to (records c) (omega arith);
        most = most-to (records c) (omega arith);
        few = few-to (records c) (omega arith);
      }

module _ (c : List ℕ) (form : first_broken c ≡ None) where
  pub lists-numbered : Numbered c 20
  lists-numbered =
      numbered-by c 20 (λ n u f.
      let p = passed-at c form n (omega arith) in
      let fit = parts c n p.0 (sym (breaks-by c n p.0 p.1) ∙ unbroken c form n u) in
      (p.0.lists, (p.1.lists, rw (eq-eqb (kind_byte c n) 20 f) at fit.list)))

  pub inputs-numbered : Numbered c 23
  inputs-numbered =
      numbered-by c 23 (λ n u f.
      let p = passed-at c form n (omega arith) in
      let fit = parts c n p.0 (sym (breaks-by c n p.0 p.1) ∙ unbroken c form n u) in
      (p.0.inputs, (p.1.inputs, rw (eq-eqb (kind_byte c n) 23 f) at fit.input)))

count-times : (c : List ℕ) (kind k n : ℕ) → count_before (is_bit_of c kind k) n ≡ times k (numbers_to c kind n)
unfolding count_before times numbers_to
count-times c kind k zero = refl
count-times c kind k (suc n) = rw (count-times c kind k n) (by-test (eqb (kind_byte c n) kind) (λ e. rw e) (λ e. rw e))

-- a list or an input has as many bits as its number stands in the file
pub bits-count : (c : List ℕ) (kind k : ℕ) → length (bits_of c kind k) ≡ times k (numbers_to c kind (records c))
bits-count c kind k = length-those (is_bit_of c kind k) (records c) ∙ count-times c kind k (records c)
