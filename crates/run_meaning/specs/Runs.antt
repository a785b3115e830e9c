-- Every accepted circuit that is numbered is ready for a run, once its model stands in the tables.
-- Assumes nothing.
use Rattle.std.specs.Prelude.{◌≡◌, refl, List, [], ◌∷◌, ℕ, zero, suc, ◌+◌, ◌≤◌, ◌<◌, ℤ, length, get_or}
use Rattle.std.proofs.Common.{ap, ◌∙◌, arith, add-one}
use Rattle.energy.specs.Circuit.{AllBelow}
use Rattle.circuit.specs.File.{field, count_of}
use Rattle.circuit.specs.Meaning.{circuit_of}
use Rattle.circuit.specs.Starts.{starts_of, start_of}
use Rattle.circuit.specs.Parts.{starts-entry, input-stands, input_of_circuit}
use Rattle.circuit.specs.Accepted.{Sound, well-formed}
use Rattle.numbering.specs.State.{State}
use Rattle.numbering.specs.Numbered.{number, numbered}
use Rattle.numbering.specs.Finished.{Finished, finished}
use Rattle.numbering.specs.Bytes.{prepared}
use Rattle.store.specs.declared.Totals.{Totals}
use Rattle.run_meaning.specs.Layout.{Modeled, RunReady}
use Rattle.run_meaning.specs.Accepted.{formed-names}
use Rattle.run_meaning.specs.Standing.{laid, inputs-laid}

below_at : (n : ℕ) (xs : List ℕ) (j : ℕ) → AllBelow n xs → j < length xs → get_or xs j 0 < n
below_at n [] j b h = absurd (omega arith)
below_at n (x ∷ xs) zero b h = b.0
below_at n (x ∷ xs) (suc j) b h = below_at n xs j b.1 (omega arith)

module _ (b : List ℕ) (s : Sound b) (t : State) (e : number (circuit_of b) ≡ numbered t) where
  abbrev fin : Finished (circuit_of b) t
  fin = finished (circuit_of b) (prepared b s).formed t e

  -- the gates of the inputs have an entry
  gates : (k j : ℕ) → k < length (circuit_of b).inputs → get_or (starts_of b 23) k 0 + j < get_or (starts_of b 23) (k + 1) 0 → field b (get_or (starts_of b 23) k 0 + j) 1 < length t.qubits
  gates k j l h =
      let i = input-stands b s.timely.regular k l in
      let x : get_or (starts_of b 23) k 0 ≡ start_of b 23 k = starts-entry b s.timely.regular 23 k (omega (arith, i.small)) in
      let y : get_or (starts_of b 23) (k + 1) 0 ≡ start_of b 23 (suc k) = starts-entry b s.timely.regular 23 (k + 1) (omega (arith, i.small)) ∙ ap (start_of b 23) (add-one k) in
      let m : j < length (input_of_circuit (circuit_of b) k).bits = omega (arith, i.len) in
      rw (x, ← i.bit j m, fin.gates)
      (below_at (length (circuit_of b).gates) (input_of_circuit (circuit_of b) k).bits j ((well-formed b s).good_inputs k (record { nid = 0; bits = [] }) l).below m)

  -- Theorem: what `run_on` asks of the build holds of every accepted file whose numbering is not refused, for every model in the tables.
  pub run-ready : {linear : List ℤ} {flags rows fixed keys : List ℕ} {weights : List ℤ} {totals : Totals} → t.next ≤ length fixed
      → Modeled t.next linear flags rows keys weights totals
      → RunReady b (starts_of b 20) (starts_of b 23) (count_of b 0 13 + count_of b 20 20) (length (circuit_of b).bads) (length (circuit_of b).inputs) t linear flags rows fixed keys weights totals
  run-ready long m =
      let w = well-formed b s in
      record {
        ready = record {
          laid = laid b s;
          formed = formed-names (circuit_of b) (prepared b s).formed t fin (omega (arith, w.few_gates, w.few_bads));
          fixed-there = long;
        };
        inputs-laid = inputs-laid b s;
        input-gates = gates;
        modeled = m;
        bads = refl;
        few-bads = w.few_bads;
        count = refl;
      }
