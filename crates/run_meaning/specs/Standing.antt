-- An accepted file lies as a run reads it: with the starts that `list_starts` and `input_starts` give.
-- Assumes nothing.
use Rattle.std.specs.Prelude.{◌≡◌, Bool, ◌&&◌, ◌||◌, List, [], ◌∷◌, map, ℕ, zero, suc, ◌+◌, ◌*◌, ◌-◌, ◌≤◌, ◌<◌, eqb, ltb, length, get_or}
use Rattle.std.proofs.Math.Path.{refl}
use Rattle.std.proofs.Common.{ap, ◌∙◌, arith, add-one, ltb-true, lt-ltb, lit<}
use Rattle.std.proofs.Math.Bool.{true, false}
use Rattle.std.proofs.Math.ListN.{length-map}
use Rattle.circuit.specs.declared.GateKind.{GateKind}
use Rattle.circuit.specs.declared.GateKind.TheVariants as kind
use Rattle.energy.specs.Circuit.{Input}
use Rattle.circuit.specs.File.{records, kind_byte, field, kind_at, count_of, bits_of}
use Rattle.circuit.specs.Count.{range, length-range, length-those, count-weaker}
use Rattle.circuit.specs.Meaning.{circuit_of}
use Rattle.circuit.specs.Ordered.{all-stand}
use Rattle.circuit.specs.Numbers.{lists-numbered, inputs-numbered, bits-count}
use Rattle.circuit.specs.Starts.{Regular, comes_before, start_of, starts_of, bits-stand, list-stands, starts-most}
use Rattle.circuit.specs.Marks.{gates-within}
use Rattle.circuit.specs.Parts.{bad-stands, starts-entry}
use Rattle.circuit.specs.Accepted.{Sound, gate-at, gate-count, bad-count, input-count, input-at, well-formed}
use Rattle.numbering.specs.Read.{act_of}
use Rattle.numbering.specs.Read as read
use Rattle.numbering.specs.Bytes.{prepared}
use Rattle.run_rules.specs.Layout.{named, is_division, Laid}
use Rattle.run_meaning.specs.Layout.{InputsLaid}

-- the gates of some records, one by one
named-range : (b : List ℕ) (n m : ℕ) → map (λ (r : ℕ). field b r 1) (range n m) ≡ named b n m
unfolding named range
named-range b n zero = refl
named-range b n (suc m) = ap (λ (l : List ℕ). field b n 1 ∷ l) (named-range b (suc n) m)

-- a division is one to the numbering too
division : (k : GateKind) → is_division k ≡ true → read.is_division (act_of k) ≡ true
unfolding is_division
division kind.ConstFalse e = e
division kind.ConstTrue e = e
division kind.InputBit e = e
division kind.Not e = e
division kind.And e = e
division kind.Nand e = e
division kind.Or e = e
division kind.Matriarch1 e = e
division kind.CarryHalfAdder e = e
division kind.ResultHalfAdder e = e
division kind.CarryFullAdder e = e
division kind.ResultFullAdder e = e
division kind.Quotient e = e
division kind.Remainder e = e

module _ (b : List ℕ) (s : Sound b) where
  abbrev regular : Regular b
  regular = s.timely.regular

  whole : 16 * records b ≤ length b
  whole = omega arith

  starts-long : (kind : ℕ) → length (starts_of b kind) ≡ 65
  unfolding starts_of
  starts-long kind = length-map (range 0 65) (start_of b kind) ∙ length-range 65 0

  rises : (kind k : ℕ) → start_of b kind k ≤ start_of b kind (suc k)
  unfolding start_of
  rises kind k =
      omega (arith, length-those (comes_before b kind k) (records b), length-those (comes_before b kind (suc k)) (records b), count-weaker (comes_before b kind k) (comes_before b kind (suc k)) (records b) (λ n l e. later n e))
    where
      wider : (x y z w : Bool) → (z ≡ true → w ≡ true) → (x || y && z) ≡ true → (x || y && w) ≡ true
      wider true y z w f e = refl
      wider false true z w f e = f e
      wider false false z w f e = e

      later : (n : ℕ) → comes_before b kind k n ≡ true → comes_before b kind (suc k) n ≡ true
      later n e =
          wider (ltb (kind_byte b n) kind) (eqb (kind_byte b n) kind) (ltb (field b n 0) k) (ltb (field b n 0) (suc k))
          (λ f. lt-ltb (field b n 0) (suc k) (omega (arith, ltb-true (field b n 0) k f)))
          e

  entry : (kind k : ℕ) → k < 64 → get_or (starts_of b kind) (k + 1) 0 ≡ start_of b kind (suc k)
  entry kind k l = starts-entry b regular kind (k + 1) (omega arith) ∙ ap (start_of b kind) (add-one k)

  starts-rise : (kind k : ℕ) → k < 64 → get_or (starts_of b kind) k 0 ≤ get_or (starts_of b kind) (k + 1) 0
  starts-rise kind k l = rw (starts-entry b regular kind k (omega arith), entry kind k l) (rises kind k)

  starts-there : (kind k : ℕ) → k < 65 → 16 * get_or (starts_of b kind) k 0 ≤ length b
  starts-there kind k l = rw (starts-entry b regular kind k l) (omega (arith, starts-most b kind k, whole))

  -- the bits of a list: at most 64
  list-short : (k : ℕ) → k < 64 → start_of b 20 (suc k) ≤ start_of b 20 k + 64
  list-short k l =
      let e : length (bits_of b 20 k) ≡ start_of b 20 (suc k) - start_of b 20 k = ap length (bits-stand b regular.form 20 (lit< tt) (lists-numbered b regular.form) k l) ∙ length-range (start_of b 20 (suc k) - start_of b 20 k) (start_of b 20 k) in
      omega (arith, bits-count b 20 k, (lists-numbered b regular.form).most k)

  -- What a run asks of the lists, the gates and the bad states holds of every accepted file.
  pub laid : Laid b (starts_of b 20) (count_of b 0 13 + count_of b 20 20)
  laid =
      record {
        gates = λ g l. gate-at b regular g (omega (arith, gate-count b));
        gates-there = omega (arith, gate-count b, gates-within b regular, whole);
        starts-there = starts-long 20;
        lists = λ k l. rw (starts-entry b regular 20 k (omega arith), entry 20 k l) (list-stands b regular.form k l ∙ named-range b (start_of b 20 k) (start_of b 20 (suc k) - start_of b 20 k));
        lists-there = starts-there 20;
        lists-rise = starts-rise 20;
        lists-short = λ k l. rw (starts-entry b regular 20 k (omega arith), entry 20 k l) (list-short k l);
        divisions = λ g l d. (((prepared b s).laid.dividend g l (division (kind_at b g) d)).small, ((prepared b s).laid.divisor g l (division (kind_at b g) d)).small);
        bads = λ i l. bad-stands b regular i (omega (arith, bad-count b));
        bads-there = omega (arith, bad-count b, all-stand b regular.form, whole);
      }

  -- and so of the inputs
  pub inputs-laid : InputsLaid b (starts_of b 23)
  inputs-laid =
      record {
        starts-there = starts-long 23;
        few = (well-formed b s).few_inputs;
        bits = λ k l. bits k l (omega (arith, (well-formed b s).few_inputs));
        rise = starts-rise 23;
        there = starts-there 23;
      }
    where
      bits : (k : ℕ) → k < length (circuit_of b).inputs → k < 64
          → (get_or (circuit_of b).inputs k (record { nid = 0; bits = [] })).bits ≡ named b (get_or (starts_of b 23) k 0) (get_or (starts_of b 23) (k + 1) 0 - get_or (starts_of b 23) k 0)
      bits k l h =
          rw (starts-entry b regular 23 k (omega arith), entry 23 k h)
          (ap (λ (i : Input). i.bits) (input-at b k _ (omega (arith, input-count b)))
          ∙ ap (map (λ (n : ℕ). field b n 1)) (bits-stand b regular.form 23 (lit< tt) (inputs-numbered b regular.form) k h)
          ∙ named-range b (start_of b 23 k) (start_of b 23 (suc k) - start_of b 23 k))
