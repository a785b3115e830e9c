-- What check 4 gives, and one mark for each gate that an input bit has listed, which is enough for check 5.
-- Assumes nothing.
use Rattle.std.specs.Prelude.{ℕ, ◌+◌, ◌≤◌, ◌<◌, ◌≡◌, refl, true, false, not, ◌&&◌, ◌||◌, List, leb, eqb, length, get_or, set, replicate, None}
use Rattle.std.proofs.Common.{sym, ◌∙◌, arith, add-one, leb-false, eqb-true, eq-eqb, ne_eqb, length-set, get_or-set_same, get_or-set_other}
use Rattle.std.proofs.Math.Bool.{or-false, or-true}
use Rattle.std.proofs.Math.Decide.{ℕ_discrete}
use Rattle.std.proofs.lemmas.List.{length-replicate, get_or-replicate}
use Rattle.circuit.specs.File.{records, kind_byte, field, count_of}
use Rattle.circuit.specs.Search.{any_before, found_nowhere}
use Rattle.circuit.specs.Count.{by-test}
use Rattle.circuit.specs.Form.{used_fields}
use Rattle.circuit.specs.Passing.{neither}
use Rattle.circuit.specs.Ordered.{all-stand}
use Rattle.circuit.specs.Starts.{Regular}
use Rattle.circuit.specs.Earlier.{named_by, not_below, no_gate_in_b, no_gate_in_a, late, first_late}
use Rattle.circuit.specs.Partner.{listed_before}

-- A file that passed checks 2, 3 and 4.
pub record Timely (c : List ℕ) : Type 0 where
  pub regular : Regular c
  pub early : first_late c ≡ None

module _ (c : List ℕ) (t : Timely c) where
  pub not_late : (n : ℕ) → n < records c → late c n ≡ false
  unfolding first_late
  not_late n l = found_nowhere (late c) (records c) 0 t.early n (omega arith) (omega arith)

-- What check 4 gives of record n.
pub record Early (c : List ℕ) (n : ℕ) : Type 0 where
  pub gate : (leb (kind_byte c n) 13 && not_below n (named_by c n)) ≡ false
  pub in_b : no_gate_in_b c n ≡ false
  pub in_a : no_gate_in_a c n ≡ false

pub early-at : (c : List ℕ) → Timely c → (n : ℕ) → n < records c → Early c n
unfolding late
early-at c t n l =
    let t1 = neither _ _ (not_late c t n l) in
    let t0 = neither _ _ t1.0 in
    record { gate = t0.0; in_b = t0.1; in_a = t1.1 }

-- every gate's record is within the bytes
pub gates-within : (c : List ℕ) → Regular c → count_of c 0 13 ≤ records c
gates-within c h = omega (arith, all-stand c h.form)

-- an input bit's gate is a gate
pub input-gate : (c : List ℕ) → Timely c → (n : ℕ) → n < records c → kind_byte c n ≡ 23 → field c n 1 < count_of c 0 13
input-gate c t n l e = leb-false (count_of c 0 13) (field c n 1) (rw e at (early-at c t n l).in_b)

-- the gate that a record of one operand names is earlier
one-early : (c : List ℕ) → Timely c → (n : ℕ) → n < records c → (k : ℕ) → kind_byte c n ≡ k → leb k 13 ≡ true → leb 12 k ≡ false → used_fields k ≡ 1 → field c n 0 < n
unfolding named_by not_below
one-early c t n l k e f g h = leb-false n (field c n 0) (neither _ _ (rw (e, f, g, h) at (early-at c t n l).gate)).0

-- a carry's adder is earlier
pub carry-early : (c : List ℕ) → Timely c → (n : ℕ) → n < records c → (eqb (kind_byte c n) 8 || eqb (kind_byte c n) 10) ≡ true → field c n 0 < n
unfolding used_fields
carry-early c t n l e = by-test (eqb (kind_byte c n) 8) (λ f. half (eqb-true (kind_byte c n) 8 f)) (λ f. full (eqb-true (kind_byte c n) 10 (rw f at e)))
  where
    half : kind_byte c n ≡ 8 → field c n 0 < n
    half f = one-early c t n l 8 f refl refl refl

    full : kind_byte c n ≡ 10 → field c n 0 < n
    full f = one-early c t n l 10 f refl refl refl

-- ---- marks

-- gate g is marked exactly when an input bit before record n has listed it
pub record Marks (c : List ℕ) (n : ℕ) (marks : List ℕ) : Type 0 where
  pub long : length marks ≡ 1000
  pub listed : (g : ℕ) → g < 1000 → not (eqb (get_or marks g 0) 0) ≡ listed_before c g n

pub marks-none : (c : List ℕ) → Marks c 0 (replicate 1000 0)
unfolding listed_before any_before
marks-none c = record { long = length-replicate {A = ℕ} 1000 0; listed = λ g l. rw (get_or-replicate {A = ℕ} 1000 g 0 0 l) }

listed-step : (c : List ℕ) (g n : ℕ) → listed_before c g (n + 1) ≡ (listed_before c g n || eqb (kind_byte c n) 23 && eqb (field c n 1) g)
unfolding listed_before any_before
listed-step c g n = rw add-one

pub marks-other : (c : List ℕ) {n : ℕ} {marks : List ℕ} → Marks c n marks → (kind_byte c n ≡ 23 → ⊥) → Marks c (n + 1) marks
marks-other c {n} {marks} m e =
    record { long = m.long; listed = λ g l. rw (listed-step c g n, ne_eqb (kind_byte c n) 23 e, or-false) (m.listed g l) }

pub marks-more : (c : List ℕ) {n : ℕ} {marks : List ℕ} → Marks c n marks → kind_byte c n ≡ 23 → {g : ℕ} → g ≡ field c n 1 → g < 1000 → Marks c (n + 1) (set marks g 1)
marks-more c {n} {marks} m e {g} f u = record { long = length-set marks g 1 ∙ m.long; listed = λ h l. go h l (ℕ_discrete h g) }
  where
    go : (h : ℕ) → h < 1000 → Dec (h ≡ g) → not (eqb (get_or (set marks g 1) h 0) 0) ≡ listed_before c h (n + 1)
    go h l (yes d) =
        let same : get_or (set marks g 1) h 0 ≡ 1 = rw d (get_or-set_same marks g 1 0 (omega (arith, m.long))) in
        rw (same, listed-step c h n, eq-eqb (kind_byte c n) 23 e, eq-eqb (field c n 1) h (sym f ∙ sym d), or-true)
    go h l (no d) =
        rw (get_or-set_other marks g h 1 0 d, listed-step c h n, eq-eqb (kind_byte c n) 23 e, ne_eqb (field c n 1) h (λ z. d (sym z ∙ sym f)), or-false) (m.listed h l)
