-- Where each list's bits stand, and each input's: since numbers only stay or rise, the bits of one list stand together.
-- Assumes nothing.
use Rattle.std.specs.Prelude.{ℕ, suc, ◌+◌, ◌-◌, ◌≤◌, ◌<◌, ◌≡◌, ◌⊎◌, Bool, true, ◌&&◌, ◌||◌, List, [], map, eqb, length, None}
use Rattle.std.proofs.Common.{sym, ◌∙◌, inl, inr, ⊎_elim, arith, lit<}
use Rattle.std.proofs.Math.Path.{ap}
use Rattle.std.proofs.Math.Decide.{dec_le}
use borrow.Author.Tests.{ltb-true, ltb-false, eqb-true, eqb-false, lt-ltb, le-ltb, le-leb, lt-leb, eq-eqb, ne_eqb}
use Rattle.std.proofs.Math.Dec.{leb, ltb, leb-suc-suc, eqb-suc-suc}
use Rattle.circuit.specs.File.{records, kind_byte, field, section_of, section_at, either, those, is_bit_of, bits_of, count_of}
use Rattle.circuit.specs.Count.{by-test, count_before, range, length-those, count_same, count-all, count-le, Rising, under, boundary, together, those-same, none_of}
use Rattle.circuit.specs.Meaning.{list_of}
use Rattle.circuit.specs.Form.{order_of, order_at, first_broken}
use Rattle.circuit.specs.Numbers.{Numbered, lists-numbered, inputs-numbered}
use Rattle.circuit.specs.Ordered.{kind-cases, known-order, order-rising, bads-at, all-stand}

-- the records that come before list (kind 20) or input (kind 23) number k: those of earlier sections, and the bits of lower numbers
abbrev pub comes_before : List ℕ → ℕ → ℕ → ℕ → Bool
comes_before c kind k n = ltb (kind_byte c n) kind || eqb (kind_byte c n) kind && ltb (field c n 0) k

-- the record at which list or input number k starts; a number that none has starts where the next one does
unfoldable pub start_of : List ℕ → ℕ → ℕ → ℕ
start_of c kind k = length (those (comes_before c kind k) 0 (records c))

-- list k is from entry k to entry k + 1, for every number that a list can have
unfoldable pub starts_of : List ℕ → ℕ → List ℕ
starts_of c kind = map (start_of c kind) (range 0 65)

-- ---- a function that rises over the records: 0 before the bits, 1 + the number at a bit, 65 after them

key : List ℕ → ℕ → ℕ → ℕ
key c kind n = either (ltb (kind_byte c n) kind) 0 (either (eqb (kind_byte c n) kind) (suc (field c n 0)) 65)

before-key : (c : List ℕ) (kind k n : ℕ) → k ≤ 64 → comes_before c kind k n ≡ ltb (key c kind n) (suc k)
unfolding key
before-key c kind k n l =
    by-test (ltb (kind_byte c n) kind)
    (λ e. rw (e, lt-ltb 0 (suc k) (omega arith)))
    (λ e. by-test (eqb (kind_byte c n) kind) (λ f. rw (e, f, leb-suc-suc)) (λ f. rw (e, f, le-ltb 65 (suc k) (omega arith))))

bit-key : (c : List ℕ) (kind k n : ℕ) → k < 64 → is_bit_of c kind k n ≡ eqb (key c kind n) (suc k)
unfolding key
bit-key c kind k n l =
    by-test (ltb (kind_byte c n) kind)
    (λ e. rw (e, ne_eqb (kind_byte c n) kind (λ z. omega (arith, ltb-true (kind_byte c n) kind e)), ne_eqb 0 (suc k) (λ z. omega arith)))
    (λ e. by-test (eqb (kind_byte c n) kind) (λ f. rw (e, f, eqb-suc-suc)) (λ f. rw (e, f, ne_eqb 65 (suc k) (λ z. omega arith))))

start-key : (c : List ℕ) (kind k : ℕ) → k ≤ 64 → start_of c kind k ≡ under (key c kind) (records c) (suc k)
unfolding start_of
start-key c kind k l =
    length-those (comes_before c kind k) (records c) ∙ count_same (comes_before c kind k) (λ (n : ℕ). ltb (key c kind n) (suc k)) (records c) (λ n i. before-key c kind k n l)

-- ---- kinds rise with the sections

kind-order : (k : ℕ) → order_of (section_of k) < 5 → ((k ≤ 13) × (order_of (section_of k) ≡ 0)) ⊎ ((k ≡ 19 + order_of (section_of k)) × (0 < order_of (section_of k)))
kind-order k h =
    kind-cases k
    (λ l e. inl (l, e))
    (λ l e. inr (omega arith, omega arith))
    (λ l e. inr (omega arith, omega arith))
    (λ l e. inr (omega arith, omega arith))
    (λ l e. inr (omega arith, omega arith))
    (λ l f1 f2 f3 f4 e. absurd (omega arith))

kinds-rise : (j k : ℕ) → order_of (section_of j) ≤ order_of (section_of k) → order_of (section_of k) < 5 → (j ≤ 13) ⊎ (j ≤ k)
kinds-rise j k h l =
    ⊎_elim (λ a. inl a.0) (λ a. ⊎_elim (λ b. absurd (omega arith)) (λ b. inr (omega arith)) (kind-order k l)) (kind-order j (omega arith))

module _ (c : List ℕ) (form : first_broken c ≡ None) where
  kind-rises : (m n : ℕ) → m < n → n < records c → (kind_byte c m ≤ 13) ⊎ (kind_byte c m ≤ kind_byte c n)
  unfolding order_at section_at
  kind-rises m n l u = kinds-rise (kind_byte c m) (kind_byte c n) (order-rising c form m n l u) (known-order c form n u)

-- ---- the function rises

module _ (c : List ℕ) (kind n : ℕ) where
  key-low : kind_byte c n < kind → key c kind n ≡ 0
  unfolding key
  key-low h = rw (lt-ltb (kind_byte c n) kind h)

  key-bit : kind_byte c n ≡ kind → key c kind n ≡ suc (field c n 0)
  unfolding key
  key-bit h = rw (le-ltb (kind_byte c n) kind (omega arith), eq-eqb (kind_byte c n) kind h)

  key-high : kind < kind_byte c n → key c kind n ≡ 65
  unfolding key
  key-high h = rw (le-ltb (kind_byte c n) kind (omega arith), ne_eqb (kind_byte c n) kind (λ z. omega arith))

  kind-split {ℓ} : {A : Type ℓ} → (kind_byte c n < kind → A) → (kind_byte c n ≡ kind → A) → (kind < kind_byte c n → A) → A
  kind-split f g h =
      by-test (ltb (kind_byte c n) kind)
      (λ e. f (ltb-true (kind_byte c n) kind e))
      (λ e. by-test (eqb (kind_byte c n) kind) (λ i. g (eqb-true (kind_byte c n) kind i)) (λ i. h (omega (arith, ltb-false (kind_byte c n) kind e, eqb-false (kind_byte c n) kind i))))

module _ (c : List ℕ) (form : first_broken c ≡ None) (kind : ℕ) (past : 13 < kind) (num : Numbered c kind) where
  key-rising : Rising (key c kind) (records c)
  key-rising m n l u =
      kind-split c kind m
      (λ a. omega (arith, key-low c kind m a))
      (λ a.
      let most : field c m 0 < 64 = num.small m (omega arith) a in
      kind-split c kind n
      (λ b. absurd (⊎_elim (λ d. omega arith) (λ d. omega arith) (kind-rises c form m n l u)))
      (λ b. omega (arith, key-bit c kind m a, key-bit c kind n b, num.rise m n l u a b))
      (λ b. omega (arith, key-bit c kind m a, key-high c kind n b)))
      (λ a.
      kind-split c kind n
      (λ b. absurd (⊎_elim (λ d. omega arith) (λ d. omega arith) (kind-rises c form m n l u)))
      (λ b. absurd (⊎_elim (λ d. omega arith) (λ d. omega arith) (kind-rises c form m n l u)))
      (λ b. omega (arith, key-high c kind m a, key-high c kind n b)))

  -- The bits of list or input k stand together, from where k starts to where k + 1 does.
  pub bits-stand : (k : ℕ) → k < 64 → bits_of c kind k ≡ range (start_of c kind k) (start_of c kind (suc k) - start_of c kind k)
  bits-stand k l =
      rw (start-key c kind k (omega arith), start-key c kind (suc k) (omega arith))
      (those-same (is_bit_of c kind k) (λ (n : ℕ). eqb (key c kind n) (suc k)) 0 (records c) (λ n. bit-key c kind k n l) ∙ together (key c kind) (suc k) (records c) key-rising)

  -- no list or input has a number from 64 on
  pub no_bits : (k : ℕ) → 64 ≤ k → bits_of c kind k ≡ []
  no_bits k l =
      none_of (is_bit_of c kind k) (records c) 0 (λ n i j.
      by-test (eqb (kind_byte c n) kind)
      (λ e. rw (e, ne_eqb (field c n 0) k (λ z. omega (arith, num.small n (omega arith) (eqb-true (kind_byte c n) kind e)))))
      (λ e. rw e))

  -- a number starts at its first bit
  pub starts-here : (n : ℕ) → n < records c → kind_byte c n ≡ kind → ((m : ℕ) → m < n → kind_byte c m ≡ kind → field c m 0 < field c n 0) → start_of c kind (field c n 0) ≡ n
  starts-here n u e h = start-key c kind (field c n 0) (omega (arith, most)) ∙ omega (arith, low, high (dec_le n at))
    where
      at : ℕ
      at = under (key c kind) (records c) (suc (field c n 0))

      most : field c n 0 < 64
      most = num.small n u e

      edge : (m : ℕ) → m < records c → ltb (key c kind m) (suc (field c n 0)) ≡ ltb m at
      edge = boundary (key c kind) (suc (field c n 0)) (records c) key-rising

      low : at ≤ n
      low = ltb-false n at (sym (edge n u) ∙ le-ltb (key c kind n) (suc (field c n 0)) (omega (arith, key-bit c kind n e)))

      before : (m : ℕ) → m < n → key c kind m < suc (field c n 0)
      before m l =
          kind-split c kind m
          (λ a. omega (arith, key-low c kind m a))
          (λ a. omega (arith, key-bit c kind m a, h m l a))
          (λ a. absurd (⊎_elim (λ d. omega arith) (λ d. omega arith) (kind-rises c form m n l u)))

      inside : (m : ℕ) → m < n → m < at
      inside m l = ltb-true m at (sym (edge m (omega arith)) ∙ lt-ltb (key c kind m) (suc (field c n 0)) (before m l))

      high : Dec (n ≤ at) → n ≤ at
      high (yes d) = d
      high (no d) = absurd (omega (arith, inside at (omega arith)))

  -- a number above all others starts where the section ends
  pub starts-past : (k : ℕ) → ((m : ℕ) → m < records c → kind_byte c m ≡ kind → field c m 0 < k) → start_of c kind k ≡ count_before (λ (n : ℕ). leb (kind_byte c n) kind) (records c)
  unfolding start_of
  starts-past k h =
      length-those (comes_before c kind k) (records c) ∙ count_same (comes_before c kind k) (λ (n : ℕ). leb (kind_byte c n) kind) (records c) (λ n l.
      kind-split c kind n
      (λ a. rw (lt-ltb (kind_byte c n) kind a, le-leb (kind_byte c n) kind (omega arith)))
      (λ a. rw (le-ltb (kind_byte c n) kind (omega arith), eq-eqb (kind_byte c n) kind a, lt-ltb (field c n 0) k (h n l a), le-leb (kind_byte c n) kind (omega arith)))
      (λ a. rw (le-ltb (kind_byte c n) kind (omega arith), ne_eqb (kind_byte c n) kind (λ z. omega arith), lt-leb (kind_byte c n) kind a)))

-- ---- where the list bits start and end

lists-kinds : (k : ℕ) → order_of (section_of k) < 5 → leb k 20 ≡ ltb (order_of (section_of k)) 2
lists-kinds k h =
    kind-cases k
    (λ l e. rw (e, le-leb k 20 (omega arith)))
    (λ l e. rw (e, l))
    (λ l e. rw (e, l))
    (λ l e. rw (e, l))
    (λ l e. rw (e, l))
    (λ l f1 f2 f3 f4 e. absurd (omega arith))

module _ (c : List ℕ) (form : first_broken c ≡ None) where
  -- the records that are gates or list bits
  pub lists-end : count_before (λ (n : ℕ). leb (kind_byte c n) 20) (records c) ≡ count_of c 0 13 + count_of c 20 20
  unfolding order_at section_at
  lists-end =
      count_same (λ (n : ℕ). leb (kind_byte c n) 20) (λ (n : ℕ). ltb (order_at c n) 2) (records c) (λ n l. lists-kinds (kind_byte c n) (known-order c form n l)) ∙ bads-at c form

  -- The gates of list k are the b fields of the records from entry k to entry k + 1.
  pub list-stands : (k : ℕ) → k < 64 → list_of c k ≡ map (λ (n : ℕ). field c n 1) (range (start_of c 20 k) (start_of c 20 (suc k) - start_of c 20 k))
  unfolding list_of
  list-stands k l = ap (map (λ (n : ℕ). field c n 1)) (bits-stand c form 20 (lit< tt) (lists-numbered c form) k l)

-- A file that passed checks 2 and 3.
pub record Regular (c : List ℕ) : Type 0 where
  pub form : first_broken c ≡ None
  pub gates : count_of c 0 13 ≤ 1000
  pub list_bits : count_of c 20 20 ≤ 4096
  pub bads : count_of c 21 21 ≤ 64
  pub constraints : count_of c 22 22 ≤ 256
  pub input_bits : count_of c 23 23 ≤ 1000

-- a file within the limits is not long
pub few-records : (c : List ℕ) → Regular c → records c ≤ 6416
few-records c h = omega (arith, all-stand c h.form, h.gates, h.list_bits, h.bads, h.constraints, h.input_bits)

-- where the bits of one kind, 20 or 23, end
pub record Ends (c : List ℕ) (kind last : ℕ) : Type 0 where
  pub regular : Regular c
  pub past : 13 < kind
  pub numbered : Numbered c kind
  pub ends : last ≡ count_before (λ (n : ℕ). leb (kind_byte c n) kind) (records c)

pub ends-lists : (c : List ℕ) → Regular c → {last : ℕ} → last ≡ count_of c 0 13 + count_of c 20 20 → Ends c 20 last
ends-lists c h e =
    record { regular = h; past = lit< tt; numbered = lists-numbered c h.form; ends = e ∙ sym (lists-end c h.form) }

known-kind : (k : ℕ) → order_of (section_of k) < 5 → leb k 23 ≡ true
known-kind k h =
    kind-cases k
    (λ l e. le-leb k 23 (omega arith))
    (λ l e. le-leb k 23 (omega arith))
    (λ l e. le-leb k 23 (omega arith))
    (λ l e. le-leb k 23 (omega arith))
    (λ l e. le-leb k 23 (omega arith))
    (λ l f1 f2 f3 f4 e. absurd (omega arith))

pub ends-inputs : (c : List ℕ) → Regular c → Ends c 23 (records c)
unfolding order_at section_at
ends-inputs c h =
    record {
      regular = h;
      past = lit< tt;
      numbered = inputs-numbered c h.form;
      ends = sym (count-all (λ (n : ℕ). leb (kind_byte c n) 23) (records c) (λ n l. known-kind (kind_byte c n) (known-order c h.form n l)));
    }

pub ends-small : (c : List ℕ) (kind last : ℕ) → Ends c kind last → last ≤ 6416
ends-small c kind last h =
    omega (arith, h.ends, count-le (λ (n : ℕ). leb (kind_byte c n) kind) (records c), few-records c h.regular)

-- nothing starts past the end
pub starts-most : (c : List ℕ) (kind k : ℕ) → start_of c kind k ≤ records c
unfolding start_of
starts-most c kind k = omega (arith, length-those (comes_before c kind k) (records c), count-le (comes_before c kind k) (records c))
