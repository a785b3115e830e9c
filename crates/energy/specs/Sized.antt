-- Every step of the build keeps the tables' size, and every pair is of two qubits of the model, the lower first.
-- The theorems that an edit of a definition breaks are in proofs/Sized.antt.
-- Assumes nothing.
use Rattle.std.specs.Prelude.{◌≡◌, refl, ◌⊎◌, ◌≢◌, Bool, cond, ℕ, suc, ◌+◌, ◌*◌, ◌≤◌, ◌<◌, eqb, ltb, ℤ, pos, ◌+ℤ◌, set}
use Rattle.std.proofs.Common.{sym, ◌∙◌, inl, inr, arith, length-set}
use Rattle.std.proofs.Math.Bool.{true, false}
use mathlib.Core.List.{List, [], ◌∷◌, map}
use Rattle.std.proofs.lemmas.List.{length-replicate, length-map}
use Rattle.laws.specs.Sum.{sum}
use Rattle.laws.specs.Test.{by_eqb, by-ltb}
use Rattle.penalty.specs.Rows.{Slot, Place, singles, twos, row_of}
use Rattle.penalty.specs.declared.Penalty.{Penalty}
use Rattle.energy.specs.Plain.{Row, wire, more, Sorted, sorted-le, wire-below}
use Rattle.energy.specs.Model.{Entry, Model, Sized, Inside, key_of, low, high, empty, is_zero, add_offset, join_linear, add, join_pair, add_linear, add_pair, halves, add_linears, add_pairs, place, place_all, touches, without, clear, half, quarter, weights, quarters, ends, ising}

-- ---- keys

-- a key's lower qubit
pub low-key : (p q : ℕ) → q < 65536 → low (p * 65536 + q) ≡ p
low-key p q h = omega arith

-- a key's higher qubit
pub high-key : (p q : ℕ) → q < 65536 → high (p * 65536 + q) ≡ q
high-key p q h = omega arith

-- the key of two qubits, the lower first
pub key_of-up : (p q : ℕ) → p < q → key_of p q ≡ p * 65536 + q
key_of-up p q h = by-ltb p q (λ b. cond b (p * 65536 + q) (q * 65536 + p) ≡ p * 65536 + q) (λ l. refl) (λ l. absurd (omega arith))

-- the key of two qubits, the higher first
pub key_of-down : (p q : ℕ) → q ≤ p → key_of p q ≡ q * 65536 + p
key_of-down p q h = by-ltb p q (λ b. cond b (p * 65536 + q) (q * 65536 + p) ≡ q * 65536 + p) (λ l. absurd (omega arith)) (λ l. refl)

-- a pair has one key, in either order
pub key_of-comm : (p q : ℕ) → key_of p q ≡ key_of q p
key_of-comm p q =
    by-ltb p q (λ b. cond b (p * 65536 + q) (q * 65536 + p) ≡ key_of q p)
    (λ l. sym (key_of-down q p (omega arith)))
    (λ l. go l)
  where
    go : q ≤ p → q * 65536 + p ≡ key_of q p
    go l = by-ltb q p (λ b. q * 65536 + p ≡ cond b (q * 65536 + p) (p * 65536 + q)) (λ k. refl) (λ k. omega arith)

-- a key is the key of its two qubits
pub key_of-back : (k : ℕ) → low k < high k → key_of (low k) (high k) ≡ k
key_of-back k h = key_of-up (low k) (high k) h ∙ omega arith

-- the two qubits of a key, the lower first
pub record Ends (p q k : ℕ) : Type 0 where
  pub low-is : low k ≡ p
  pub high_is : high k ≡ q
  pub rises : low k < high k

-- the key of two different qubits holds these two
pub key_of-ends : (p q : ℕ) → p ≢ q → p < 65536 → q < 65536 → Ends p q (key_of p q) ⊎ Ends q p (key_of p q)
key_of-ends p q ne hp hq =
    by-ltb p q (λ b. Ends p q (cond b (p * 65536 + q) (q * 65536 + p)) ⊎ Ends q p (cond b (p * 65536 + q) (q * 65536 + p)))
    (λ l. inl (record { low-is = omega arith; high_is = omega arith; rises = omega arith }))
    (λ l. inr (record { low-is = omega arith; high_is = omega arith; rises = omega arith }))

-- ---- pairs inside the model

-- the key of two different qubits of the model is inside
pub key_of-inside : (n p q : ℕ) → p ≢ q → p < n → q < n → n ≤ 65536 → (low (key_of p q) < high (key_of p q)) × (high (key_of p q) < n)
key_of-inside n p q ne hp hq hn = go (key_of-ends p q ne (omega arith) (omega arith))
  where
    go : Ends p q (key_of p q) ⊎ Ends q p (key_of p q) → (low (key_of p q) < high (key_of p q)) × (high (key_of p q) < n)
    go (inl e) = (e.rises, omega (arith, e.high_is))
    go (inr e) = (e.rises, omega (arith, e.high_is))

-- an entry that joins leaves the pairs inside
pub inside-add : (n : ℕ) (e : Entry) (s : List Entry) → low e.0 < high e.0 → high e.0 < n → Inside n s → Inside n (add e s)
unfolding add
inside-add n e [] l h i = (l, h, tt)
inside-add n e (f ∷ s) l h i = go (ltb e.0 f.0) (eqb e.0 f.0) (inside-add n e s l h i.2)
  where
    go : (b c : Bool) → Inside n (add e s) → Inside n (cond b (e ∷ f ∷ s) (cond c ((f.0, f.1 +ℤ e.1) ∷ s) (f ∷ add e s)))
    go true c r = (l, h, i)
    go false true r = (i.0, i.1, i.2)
    go false false r = (i.0, i.1, r)

-- and so does taking out the pairs of a qubit
pub inside-without : (n q : ℕ) (s : List Entry) → Inside n s → Inside n (without q s)
unfolding without
inside-without n q [] i = tt
inside-without n q (e ∷ s) i = go (touches q e.0) (inside-without n q s i.2)
  where
    go : (b : Bool) → Inside n (without q s) → Inside n (cond b (without q s) (e ∷ without q s))
    go true r = r
    go false r = (i.0, i.1, r)

-- and so do the Ising form's quarters
pub inside-quarters : (n : ℕ) (s : List Entry) → Inside n s → Inside n (quarters s)
inside-quarters n [] i = tt
inside-quarters n (e ∷ s) i = (i.0, i.1, inside-quarters n s i.2)

-- ---- the Ising form in two steps: each number turned, then the pairs' ends

-- the number of each entry turned, and no end yet
abbrev pub turned : Model → Model
turned m =
    record {
      offset = m.offset +ℤ half (sum m.linear) +ℤ quarter (sum (weights m.pairs));
      linear = map half m.linear;
      has_linear = m.has_linear;
      has_row = m.has_row;
      fixed = m.fixed;
      pairs = quarters m.pairs;
    }

-- then each pair's number joins both ends
pub ising-turned : (m : Model) → ising m ≡ ends (quarters m.pairs) (turned m)
unfolding ising
ising-turned m = refl

-- ---- the tables' size

-- the model without an entry has its size
pub sized-empty : (n : ℕ) → n ≤ 65536 → Sized n (empty n)
sized-empty n h =
    record {
      linear = length-replicate n (pos 0);
      has_linear = length-replicate n 0;
      has_row = length-replicate n 0;
      fixed = length-replicate n 0;
      inside = tt;
      names = h;
    }

module _ (n : ℕ) where
  -- adding to the offset keeps the size
  pub sized-add_offset : (c : ℤ) (m : Model) → Sized n m → Sized n (add_offset c m)
  sized-add_offset c m s =
      record { linear = s.linear; has_linear = s.has_linear; has_row = s.has_row; fixed = s.fixed; inside = s.inside; names = s.names }

  -- so does adding to a linear entry that is made where it is missing
  pub sized-join_linear : (q : ℕ) (c : ℤ) (m : Model) → Sized n m → Sized n (join_linear q c m)
  sized-join_linear q c m s =
      record {
        linear = length-set m.linear q _ ∙ s.linear;
        has_linear = length-set m.has_linear q 1 ∙ s.has_linear;
        has_row = s.has_row;
        fixed = s.fixed;
        inside = s.inside;
        names = s.names;
      }

  -- and adding to a pair of two different qubits of the model
  pub sized-join_pair : (p q : ℕ) (c : ℤ) (m : Model) → p ≢ q → p < n → q < n → Sized n m → Sized n (join_pair p q c m)
  sized-join_pair p q c m ne hp hq s =
      let k = key_of-inside n p q ne hp hq s.names in
      record {
        linear = s.linear;
        has_linear = s.has_linear;
        has_row = length-set (set m.has_row q 1) p 1 ∙ length-set m.has_row q 1 ∙ s.has_row;
        fixed = s.fixed;
        inside = inside-add n (key_of p q, c) m.pairs k.0 k.1 s.inside;
        names = s.names;
      }

  -- adding to a linear entry keeps the size
  pub sized-add_linear : (q : ℕ) (c : ℤ) (m : Model) → Sized n m → Sized n (add_linear q c m)
  unfolding add_linear
  sized-add_linear q c m s = go (is_zero c)
    where
      go : (b : Bool) → Sized n (cond b m (join_linear q c m))
      go true = s
      go false = sized-join_linear q c m s

  -- adding to a pair of qubits of the model, equal or not, keeps the size
  pub sized-add_pair : (p q : ℕ) (c : ℤ) (m : Model) → p < n → q < n → Sized n m → Sized n (add_pair p q c m)
  unfolding add_pair
  sized-add_pair p q c m hp hq s = go (is_zero c)
    where
      go : (b : Bool) → Sized n (cond b m (cond (eqb p q) (join_linear p c m) (join_pair p q c m)))
      go true = s
      go false =
          by_eqb p q (λ b. Sized n (cond b (join_linear p c m) (join_pair p q c m)))
          (λ e. sized-join_linear p c m s)
          (λ ne. sized-join_pair p q c m ne hp hq s)

  -- so do a penalty's linear coefficients, and its pairs
  pub sized-add_linears : (at : Slot → ℕ) (ps : List Place) (cs : List ℤ) (m : Model) → Sized n m → Sized n (add_linears at ps cs m)
  sized-add_linears at [] cs m s = s
  sized-add_linears at (p ∷ ps) [] m s = s
  sized-add_linears at (p ∷ ps) (c ∷ cs) m s = sized-add_linears at ps cs _ (sized-add_linear (at p.fst) (halves c) m s)

  pub sized-add_pairs : (at : Slot → ℕ) → ((s : Slot) → at s < n) → (ps : List Place) (cs : List ℤ) (m : Model) → Sized n m → Sized n (add_pairs at ps cs m)
  sized-add_pairs at h [] cs m s = s
  sized-add_pairs at h (p ∷ ps) [] m s = s
  sized-add_pairs at h (p ∷ ps) (c ∷ cs) m s =
      sized-add_pairs at h ps cs _ (sized-add_pair (at p.fst) (at p.snd) (halves c) m (h p.fst) (h p.snd) s)

  -- a penalty at qubits of the model keeps the size
  pub sized-place : (at : Slot → ℕ) → ((s : Slot) → at s < n) → (p : Penalty) (m : Model) → Sized n m → Sized n (place at p m)
  unfolding place
  sized-place at h p m s =
      sized-add_pairs at h twos p.pairs _ (sized-add_linears at singles p.linear _ (sized-add_offset (halves p.offset) m s))

  -- the slots of these rows are qubits of the model
  abbrev pub Wired : List Row → Type 0
  Wired [] = Unit {0}
  Wired (r ∷ rs) = ((s : Slot) → wire r s < n) × Wired rs

  -- rows at qubits of the model keep the size
  pub sized-place_all : (rs : List Row) → Wired rs → (m : Model) → Sized n m → Sized n (place_all rs m)
  unfolding place_all
  sized-place_all [] w m s = s
  sized-place_all (r ∷ rs) w m s = sized-place_all rs w.1 _ (sized-place (wire r) w.0 (row_of r.kind) m s)

  -- taking a qubit's own entries out keeps the size
  pub sized-clear : (q : ℕ) (b : Bool) (m : Model) → Sized n m → Sized n (clear q b m)
  sized-clear q b m s =
      record {
        linear = length-set m.linear q (pos 0) ∙ s.linear;
        has_linear = length-set m.has_linear q 0 ∙ s.has_linear;
        has_row = length-set m.has_row q 0 ∙ s.has_row;
        fixed = length-set m.fixed q _ ∙ s.fixed;
        inside = inside-without n q m.pairs s.inside;
        names = s.names;
      }

  -- the numbers that join both ends of each pair keep the size
  pub sized-ends : (l : List Entry) (m : Model) → Sized n m → Sized n (ends l m)
  unfolding ends
  sized-ends [] m s = s
  sized-ends (e ∷ l) m s = sized-ends l _ (sized-join_linear _ e.1 _ (sized-join_linear _ e.1 m s))

  -- the Ising form has the size of the model
  pub sized-turned : (m : Model) → Sized n m → Sized n (turned m)
  sized-turned m s =
      record {
        linear = length-map m.linear half ∙ s.linear;
        has_linear = s.has_linear;
        has_row = s.has_row;
        fixed = s.fixed;
        inside = inside-quarters n m.pairs s.inside;
        names = s.names;
      }

  pub sized-ising : (m : Model) → Sized n m → Sized n (ising m)
  unfolding ising
  sized-ising m s = sized-ends (quarters m.pairs) (turned m) (sized-turned m s)

-- rows that take their names upwards below n, each after its operands, are at qubits of the model
pub sorted-wired : (n lo : ℕ) (rs : List Row) (top : ℕ) → top ≤ n → Sorted lo rs top → Wired n rs
sorted-wired n lo [] top h s = tt
sorted-wired n lo (r ∷ rs) top h s =
    let next : ℕ = suc (r.out + more r.kind) in
    let fits : next ≤ top = sorted-le next rs top s.4 in
    (λ i. omega (arith, wire-below r s.1 s.2 s.3 i), sorted-wired n next rs top h s.4)
