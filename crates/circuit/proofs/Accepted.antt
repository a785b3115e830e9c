-- What the answer `Accepted` of the checks says: the file is sound, and the tables have room.
-- Assumes nothing.
use Prim.Native.Nat.{ℕ, ◌+◌, ◌*◌, ◌%◌}
use Rattle.std.specs.Prelude.{◌≡◌, Bool, true, false, not, ◌||◌, List, ltb, eqb, length, None, Ok, Option, Result, Some}
use Rattle.std.proofs.Math.Path.{refl}
use Rattle.std.proofs.Common.{sym, arith, ltb-false}
use Rattle.std.proofs.lemmas.Bool.{eqb-false}
use Rattle.circuit.specs.declared.Counts.{Counts}
use Rattle.circuit.specs.declared.Record.{Record}
use Rattle.circuit.specs.declared.Refusal.{Refusal}
use Rattle.circuit.specs.Form.{first_broken}
use Rattle.circuit.specs.Passing.{neither}
use Rattle.circuit.specs.Earlier.{first_late}
use Rattle.circuit.specs.Partner.{first_wrong}
use Rattle.circuit.specs.Limits.{regular, bads-of}
use Rattle.circuit.specs.declared.Refusal.TheVariants.{Length, TooMany, Form, NotEarlier, Partner, NoBadState, Room}
use Rattle.circuit.specs.Check.{counts_of, too_many, no_room, refuse, refuse_at, roomed, named, checked}
use Rattle.circuit.specs.Accepted.{Accepts}

-- ---- what the answer `Accepted` says

passed : (b : Bool) (r : Refusal) (x : Result Counts Refusal) (n : Counts) → refuse b r x ≡ Ok n → (b ≡ false) × (x ≡ Ok n)
passed true r x n e = let z : ◌≡◌ {A = ℕ} 0 1 = cc in absurd (omega arith)
passed false r x n e = (refl, e)

passed-at-all : (f : Option ℕ) (r : Record → Refusal) (x : Result Counts Refusal) (n : Counts) → refuse_at f r x ≡ Ok n → (f ≡ None) × (x ≡ Ok n)
passed-at-all (Some m) r x n e = let z : ◌≡◌ {A = ℕ} 0 1 = cc in absurd (omega arith)
passed-at-all None r x n e = (refl, e)

taken_out : (k n : Counts) → ◌≡◌ {A = Result Counts Refusal} (Ok k) (Ok n) → k ≡ n
taken_out k n e = cc

module _ (c : List ℕ) (gates qubits pairs : ℕ) (n : Counts) where
  -- 6 and 7
  roomed-accepts : (k : Counts) → roomed k gates qubits pairs ≡ Ok n → (eqb k.bad_states 0 ≡ false) × (no_room k gates qubits pairs ≡ false) × (k ≡ n)
  unfolding roomed
  roomed-accepts k e =
      let t6 = passed (eqb k.bad_states 0) NoBadState (refuse (no_room k gates qubits pairs) Room (Ok k)) n e in
      let t7 = passed (no_room k gates qubits pairs) Room (Ok k) n t6.1 in
      (t6.0, t7.0, taken_out k n t7.1)

  -- 4 and 5
  named-accepts : named c gates qubits pairs ≡ Ok n → (first_late c ≡ None) × (first_wrong c ≡ None) × (roomed (counts_of c) gates qubits pairs ≡ Ok n)
  unfolding named
  named-accepts e =
      let t4 = passed-at-all (first_late c) NotEarlier (refuse_at (first_wrong c) Partner (roomed (counts_of c) gates qubits pairs)) n e in
      let t5 = passed-at-all (first_wrong c) Partner (roomed (counts_of c) gates qubits pairs) n t4.1 in
      (t4.0, t5.0, t5.1)

  -- 1 to 3
  checked-accepts : checked c gates qubits pairs ≡ Ok n → (too_many (counts_of c) ≡ false) × (first_broken c ≡ None) × (named c gates qubits pairs ≡ Ok n)
  unfolding checked
  checked-accepts e =
      let t1 = passed (not (eqb (length c % 16) 0)) Length (refuse (too_many (counts_of c)) TooMany (refuse_at (first_broken c) Form (named c gates qubits pairs))) n e in
      let t2 = passed (too_many (counts_of c)) TooMany (refuse_at (first_broken c) Form (named c gates qubits pairs)) n t1.1 in
      let t3 = passed-at-all (first_broken c) Form (named c gates qubits pairs) n t2.1 in
      (t2.0, t3.0, t3.1)

  -- Where `checked` accepts, the file is sound and the tables have room.
  pub accepts : checked c gates qubits pairs ≡ Ok n → Accepts c gates qubits pairs n
  accepts e =
      let t3 = checked-accepts e in
      let t5 = named-accepts t3.2 in
      let t7 = roomed-accepts (counts_of c) t5.2 in
      let same : counts_of c ≡ n = t7.2 in
      let r7 = neither (ltb gates n.gates || ltb qubits (3 * n.gates + n.bad_states + 1)) (ltb pairs (10 * n.gates + 3 * n.bad_states)) (rw same at t7.1) in
      let r6 = neither (ltb gates n.gates) (ltb qubits (3 * n.gates + n.bad_states + 1)) r7.0 in
      record {
        sound = record {
          timely = record { regular = regular c t3.0 t3.1; early = t5.0 };
          partnered = t5.1;
          some_bad = omega (arith, eqb-false (counts_of c).bad_states 0 t7.0, bads-of c);
        };
        counts = sym same;
        enough_gates = ltb-false gates n.gates r6.0;
        enough_qubits = ltb-false qubits (3 * n.gates + n.bad_states + 1) r6.1;
        enough_pairs = ltb-false pairs (10 * n.gates + 3 * n.bad_states) r7.1;
      }
