-- Where the gates, the bad states and the constraints of a circuit stand in its bytes, and what the steps of the build ask of a numbered circuit.
-- Assumes nothing.
use Rattle.std.specs.Prelude.{◌≡◌, false, List, map, ℕ, ◌+◌, ◌*◌, ◌≤◌, ◌<◌, length, get_or, None}
use Rattle.std.proofs.Math.Path.{ap}
use Rattle.std.proofs.Common.{◌∙◌, arith}
use Rattle.std.proofs.Math.ListN.{length-map}
use Rattle.energy.specs.Circuit.{ConstFalse, Bad, Constraint}
use Rattle.circuit.specs.File.{field, records, places_of, count_of}
use Rattle.circuit.specs.Meaning.{gate_at, bad_at, constraint_at, circuit_of}
use Rattle.circuit.specs.Form.{first_broken}
use Rattle.circuit.specs.Count.{range, length-range, get_or-range, get_d_of}
use Rattle.circuit.specs.Ordered.{gates-stand, bads-stand, constraints-stand, all-stand}
use Rattle.numbering.specs.State.{State}
use Rattle.numbering.specs.Numbered.{bad_gates, numbered, number}
use Rattle.numbering.specs.Finished.{Formed}

-- the k-th constraint of a list that has one
abbrev pub no_constraint : Constraint
no_constraint = record { gate = 0; value = false }

-- gate g is record g, the bad states start at one record and the constraints at another
pub record Laid (b : List ℕ) (bads constraints : ℕ) : Type 0 where
  pub gate-whole : (g : ℕ) → g < length (circuit_of b).gates → 16 * (g + 1) ≤ length b
  pub gate-is : (g : ℕ) → g < length (circuit_of b).gates → get_or (circuit_of b).gates g ConstFalse ≡ gate_at b g
  pub bad-whole : (k : ℕ) → k < length (circuit_of b).bads → 16 * (bads + k + 1) ≤ length b
  pub bad-is : (k : ℕ) → k < length (circuit_of b).bads → get_or (bad_gates (circuit_of b)) k 0 ≡ field b (bads + k) 0
  pub constraint-whole : (k : ℕ) → k < length (circuit_of b).constraints → 16 * (constraints + k + 1) ≤ length b
  pub constraint-is : (k : ℕ) → k < length (circuit_of b).constraints → get_or (circuit_of b).constraints k no_constraint ≡ constraint_at b (constraints + k)

-- the tables are those that the numbering of the circuit leaves, and there are no more gates and bad states than 01 allows
pub record Good (b : List ℕ) (bads constraints : ℕ) (s : State) : Type 0 where
  pub laid : Laid b bads constraints
  pub formed : Formed (circuit_of b)
  pub is : number (circuit_of b) ≡ numbered s
  pub gates-few : length (circuit_of b).gates ≤ 1000
  pub bads-few : length (circuit_of b).bads ≤ 64
  pub constraints-few : length (circuit_of b).constraints ≤ 256

-- ---- a file that passed check 3 is so laid

places-at : (a n k : ℕ) (l : List ℕ) → l ≡ range a n → k < length l → get_or l k 0 ≡ a + k
places-at a n k l e h = ap (λ (l : List ℕ). get_or l k 0) e ∙ get_or-range n a k 0 (omega (arith, ap length e, length-range n a))

whole : (b : List ℕ) (n : ℕ) → n < records b → 16 * (n + 1) ≤ length b
whole b n h = omega arith

module _ (b : List ℕ) (form : first_broken b ≡ None) where
  gates-count : length (circuit_of b).gates ≡ count_of b 0 13
  unfolding circuit_of
  gates-count = length-map (places_of b 0 13) (gate_at b)

  bads-count : length (circuit_of b).bads ≡ count_of b 21 21
  unfolding circuit_of
  bads-count = length-map (places_of b 21 21) (bad_at b)

  constraints-count : length (circuit_of b).constraints ≡ count_of b 22 22
  unfolding circuit_of
  constraints-count = length-map (places_of b 22 22) (constraint_at b)

  gate-at : (g : ℕ) → g < count_of b 0 13 → get_or (circuit_of b).gates g ConstFalse ≡ gate_at b g
  unfolding circuit_of
  gate-at g h = get_d_of (gate_at b) (places_of b 0 13) g 0 ConstFalse h ∙ ap (gate_at b) (places-at 0 _ g (places_of b 0 13) (gates-stand b form) h ∙ omega arith)

  bad-at : (k : ℕ) → k < count_of b 21 21 → get_or (bad_gates (circuit_of b)) k 0 ≡ field b (count_of b 0 13 + count_of b 20 20 + k) 0
  unfolding circuit_of
  bad-at k h =
      get_d_of (λ (x : Bad). x.gate) (map (bad_at b) (places_of b 21 21)) k (record { gate = 0; nid = 0 }) 0 (omega (arith, length-map (places_of b 21 21) (bad_at b)))
      ∙ ap (λ (x : Bad). x.gate) (get_d_of (bad_at b) (places_of b 21 21) k 0 (record { gate = 0; nid = 0 }) h)
      ∙ ap (λ (n : ℕ). field b n 0) (places-at _ _ k (places_of b 21 21) (bads-stand b form) h)

  constraint-at : (k : ℕ) → k < count_of b 22 22
      → get_or (circuit_of b).constraints k no_constraint ≡ constraint_at b (count_of b 0 13 + count_of b 20 20 + count_of b 21 21 + k)
  unfolding circuit_of
  constraint-at k h =
      get_d_of (constraint_at b) (places_of b 22 22) k 0 no_constraint h
      ∙ ap (constraint_at b) (places-at _ _ k (places_of b 22 22) (constraints-stand b form) h)

  pub laid : Laid b (count_of b 0 13 + count_of b 20 20) (count_of b 0 13 + count_of b 20 20 + count_of b 21 21)
  laid =
      let all = all-stand b form in
      record {
        gate-whole = λ g h. whole b g (omega (arith, gates-count));
        gate-is = λ g h. gate-at g (omega (arith, gates-count));
        bad-whole = λ k h. whole b _ (omega (arith, bads-count));
        bad-is = λ k h. bad-at k (omega (arith, bads-count));
        constraint-whole = λ k h. whole b _ (omega (arith, constraints-count));
        constraint-is = λ k h. constraint-at k (omega (arith, constraints-count));
      }
