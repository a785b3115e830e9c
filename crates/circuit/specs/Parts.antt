-- The bad states, constraints and inputs of a circuit by number, and where each stands in the file.
-- Assumes nothing.
use Rattle.std.specs.Prelude.{ℕ, zero, suc, ◌+◌, ◌-◌, ◌≤◌, ◌<◌, ◌≡◌, refl, false, List, [], map, length, get_or}
use Rattle.std.proofs.Math.Path.{ap}
use Rattle.std.proofs.Common.{◌∙◌, arith, lit<}
use Rattle.std.proofs.Math.Nat.{zero-add}
use Rattle.std.proofs.lemmas.List.{length-map}
use Rattle.energy.specs.Circuit.{Bad, Constraint, Input, Circuit}
use Rattle.circuit.specs.File.{records, field, nid_at, count_of, bits_of}
use Rattle.circuit.specs.Count.{range, length-range, get_or-range, get_d_of}
use Rattle.circuit.specs.Meaning.{bad_at, constraint_at, first_nid, input_of, numbers_to, how_many, circuit_of}
use Rattle.circuit.specs.Ordered.{bads-stand, constraints-stand}
use Rattle.circuit.specs.Numbers.{Numbered, inputs-numbered, bits-count}
use Rattle.circuit.specs.Starts.{Regular, start_of, starts_of, bits-stand, starts-most}
use Rattle.circuit.specs.Accepted.{input-at, input-count}

-- bad state k; past the last one stands gate 0 with nid 0
abbrev pub bad_of : Circuit → ℕ → Bad
bad_of x k = get_or x.bads k (record { gate = 0; nid = 0 })

abbrev pub constraint_of : Circuit → ℕ → Constraint
constraint_of x k = get_or x.constraints k (record { gate = 0; value = false })

abbrev pub input_of_circuit : Circuit → ℕ → Input
input_of_circuit x k = get_or x.inputs k (record { nid = 0; bits = [] })

first_range : (c : List ℕ) (n m : ℕ) → 0 < m → first_nid c (range n m) ≡ nid_at c n
unfolding range
first_range c n zero l = absurd (omega arith)
first_range c n (suc m) l = refl

module _ (c : List ℕ) (h : Regular c) where
  pub bad-stands : (k : ℕ) → k < count_of c 21 21 → bad_of (circuit_of c) k ≡ bad_at c (count_of c 0 13 + count_of c 20 20 + k)
  unfolding circuit_of
  bad-stands k l =
      rw (bads-stand c h.form)
      (get_d_of (bad_at c) (range (count_of c 0 13 + count_of c 20 20) (count_of c 21 21)) k 0 _ (rw (length-range (count_of c 21 21) (count_of c 0 13 + count_of c 20 20)) l) ∙ ap (bad_at c) (get_or-range (count_of c 21 21) (count_of c 0 13 + count_of c 20 20) k 0 l))

  pub constraint-stands : (k : ℕ) → k < count_of c 22 22 → constraint_of (circuit_of c) k ≡ constraint_at c (count_of c 0 13 + count_of c 20 20 + count_of c 21 21 + k)
  unfolding circuit_of
  constraint-stands k l =
      rw (constraints-stand c h.form)
      (get_d_of (constraint_at c) (range (count_of c 0 13 + count_of c 20 20 + count_of c 21 21) (count_of c 22 22)) k 0 _ (rw (length-range (count_of c 22 22) (count_of c 0 13 + count_of c 20 20 + count_of c 21 21)) l) ∙ ap (constraint_at c) (get_or-range (count_of c 22 22) (count_of c 0 13 + count_of c 20 20 + count_of c 21 21) k 0 l))

  pub starts-entry : (kind k : ℕ) → k < 65 → get_or (starts_of c kind) k 0 ≡ start_of c kind k
  unfolding starts_of
  starts-entry kind k l =
      get_d_of (start_of c kind) (range 0 65) k 0 0 (rw (length-range 65 0) l) ∙ ap (start_of c kind) (get_or-range 65 0 k 0 l ∙ zero-add k)

  -- where input k stands
  pub record InputStands (k : ℕ) : Type 0 where
    pub small : k < 64
    pub len : length (input_of_circuit (circuit_of c) k).bits ≡ start_of c 23 (suc k) - start_of c 23 k
    pub some : start_of c 23 k < start_of c 23 (suc k)
    pub within : start_of c 23 (suc k) ≤ records c
    pub nid : (input_of_circuit (circuit_of c) k).nid ≡ nid_at c (start_of c 23 k)
    pub bit : (j : ℕ) → j < length (input_of_circuit (circuit_of c) k).bits → get_or (input_of_circuit (circuit_of c) k).bits j 0 ≡ field c (start_of c 23 k + j) 1

  pub input-stands : (k : ℕ) → k < length (circuit_of c).inputs → InputStands k
  input-stands k l =
      let m : k < how_many (numbers_to c 23 (records c)) = omega (arith, input-count c) in
      let num : Numbered c 23 = inputs-numbered c h.form in
      let low : k < 64 = omega (arith, num.few) in
      let at : input_of_circuit (circuit_of c) k ≡ input_of c k = input-at c k _ m in
      let stand : bits_of c 23 k ≡ range (start_of c 23 k) (start_of c 23 (suc k) - start_of c 23 k) = bits-stand c h.form 23 (lit< tt) num k low in
      let long : length (input_of c k).bits ≡ start_of c 23 (suc k) - start_of c 23 k = length-map (bits_of c 23 k) (λ (n : ℕ). field c n 1) ∙ ap length stand ∙ length-range (start_of c 23 (suc k) - start_of c 23 k) (start_of c 23 k) in
      let more : start_of c 23 k < start_of c 23 (suc k) = omega (arith, num.some k m, bits-count c 23 k, ap length stand ∙ length-range (start_of c 23 (suc k) - start_of c 23 k) (start_of c 23 k)) in
      record {
        small = low;
        len = ap (λ (i : Input). length i.bits) at ∙ long;
        some = more;
        within = starts-most c 23 (suc k);
        nid = ap (λ (i : Input). i.nid) at ∙ ap (first_nid c) stand ∙ first_range c (start_of c 23 k) (start_of c 23 (suc k) - start_of c 23 k) (omega arith);
        bit = λ j u.
            let v : j < start_of c 23 (suc k) - start_of c 23 k = omega (arith, ap (λ (i : Input). length i.bits) at ∙ long) in
            ap (λ (i : Input). get_or i.bits j 0) at ∙ ap (λ (l : List ℕ). get_or (map (λ (n : ℕ). field c n 1) l) j 0) stand ∙ get_d_of (λ (n : ℕ). field c n 1) (range (start_of c 23 k) (start_of c 23 (suc k) - start_of c 23 k)) j 0 0 (rw (length-range (start_of c 23 (suc k) - start_of c 23 k) (start_of c 23 k)) v) ∙ ap (λ (n : ℕ). field c n 1) (get_or-range (start_of c 23 (suc k) - start_of c 23 k) (start_of c 23 k) j 0 v);
      }
