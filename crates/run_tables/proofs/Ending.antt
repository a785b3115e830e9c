-- The end of a run: what the code found is what `within` and `ran` say.
-- Assumes nothing.
use mathlib.Core.Path.{◌≡◌, refl, sym, ap, ◌∙◌}
use mathlib.Core.List.{List, [], ◌∷◌, ◌++◌}
use Prim.Native.Nat.{ℕ, zero, suc, ◌+◌, ◌≤◌, ◌<◌}
use native.Mathlib.Omega.{arith}
use native.Mathlib.Nat.{add-zero}
use lib.IntN.{ℤ}
use lib.ListN.{length, get_or, take, drop, replicate}
use borrow.Author.Tests.{eq-eqb, ne_eqb, le-ltb}
use Rattle.circuit.specs.Meaning.{bad_at, circuit_of}
use Rattle.circuit.specs.declared.Refusal.TheVariants.{OtherCount}
use Rattle.energy.specs.Circuit.{Bad}
use Rattle.energy.specs.Model.{energy_in}
use Rattle.numbering.specs.State.{State}
use Rattle.store_pairs.specs.Store.{zip}
use Rattle.run_outcome.specs.declared.Run.{Run}
use Rattle.run_values.specs.declared.Stop.{Stop}
use Rattle.run_values.specs.Need.{Got, table, stopped, and_then, each, need_of}
use Rattle.run_meaning.specs.Give.{give_all}
use Rattle.run_rules.specs.declared.NumberedCircuit.{NumberedCircuit}
use Rattle.run_values.specs.Asking.{state_in, net_in}
use Rattle.run_tables.specs.declared.FinishedModel.{FinishedModel}
use Rattle.run_tables.specs.Lent.{built_by}
use Rattle.run_tables.specs.Listed.{true_from}
use Rattle.run_meaning.specs.Ran.{Built, refusal_of, refusal, answer, marked, keys_of, with_higher, bad_qubits, true_nids, setting_of, done, finished, valued, within, beside, ran}

pub chain-stop : {x : Stop} {g : Got} (f : List ℕ → Got) → stopped x ≡ g → stopped x ≡ and_then g f
chain-stop f e = ap (λ (z : Got). and_then z f) e

pub chain-on : {u : List ℕ} {g : Got} (f : List ℕ → Got) {z : Got} → table u ≡ g → z ≡ f u → z ≡ and_then g f
chain-on f e k = k ∙ ap (λ (z : Got). and_then z f) e

-- the keys of the pairs in use
keys-of : (n : ℕ) (ks : List ℕ) (ws : List ℤ) → length ws ≡ length ks → keys_of (take n (zip ks ws)) ≡ take n ks
unfolding keys_of
keys-of zero ks ws e = refl
keys-of (suc n) [] ws e = refl
keys-of (suc n) (k ∷ ks) [] e = absurd (omega arith)
keys-of (suc n) (k ∷ ks) (w ∷ ws) e = ap (λ (l : List ℕ). k ∷ l) (keys-of n ks ws (omega arith))

-- the true bad states, by their records
trues : (b : List ℕ) (s : State) (t : List ℕ) (l : List Bad) (from : ℕ) → ((i : ℕ) → i < length l → get_or l i (record { gate = 0; nid = 0 }) ≡ bad_at b (from + i))
    → true_nids s l t ≡ true_from b s.qubits t from (length l)
unfolding true_nids true_from
trues b s t [] from h = refl
trues b s t (d ∷ l) from h =
    let e : d ≡ bad_at b from = h 0 (omega arith) ∙ ap (bad_at b) (add-zero from) in
    rw (e, trues b s t l (suc from) (λ i k. h (suc i) (omega arith) ∙ ap (bad_at b) (omega arith)))

module _ (u : NumberedCircuit) (m : FinishedModel) (even : length m.weights.now ≡ length m.keys.now) where
  abbrev b : List ℕ
  b = u.circuit.now

  abbrev s : State
  s = state_in u

  abbrev found : List ℤ → List ℕ → Got
  found vs t =
      and_then (give_all u.qubits.now 0 (circuit_of b).inputs vs t)
      (each (need_of (net_in u)) (marked 0 m.flags.now ++ (with_higher (take m.totals.count m.keys.now) (marked 0 m.rows.now) ++ bad_qubits (circuit_of b) s)))

  valued-is : (vs : List ℤ) (t : List ℕ) → valued (built_by u m) vs t ≡ found vs t
  unfolding valued
  valued-is vs t = rw (keys-of m.totals.count m.keys.now m.weights.now even)

  module _ (vs : List ℤ) {n : ℕ} (ins : n ≡ length (circuit_of b).inputs) where
    -- 11
    pub other-count : {r : Run} {t : List ℕ} → (length vs ≡ n → ⊥) → r ≡ refusal OtherCount → t ≡ replicate u.names 2 → done r t ≡ within (built_by u m) vs
    unfolding within
    other-count f er et = rw (← ins, ne_eqb (length vs) n f, er, et)

    module _ (same : length vs ≡ n) where
      counted : within (built_by u m) vs ≡ finished (built_by u m) (found vs (replicate u.names 2))
      unfolding within
      counted = rw (← ins, eq-eqb (length vs) n same, valued-is vs (replicate u.names 2))

      -- 12 to 15
      pub halted : {r : Run} {t : List ℕ} {x : Stop} {t₁ : List ℕ} → t₁ ≡ replicate u.names 2 → stopped x ≡ found vs t₁ → r ≡ refusal (refusal_of x) → t ≡ replicate u.names 2
          → done r t ≡ within (built_by u m) vs
      halted e₁ e er et = rw (er, et) (sym (counted ∙ ap (finished (built_by u m)) (sym (rw e₁ at e))))

      -- success
      pub ended : {r : Run} {t : List ℕ} (total : ℕ) → ((i : ℕ) → i < length (circuit_of b).bads → get_or (circuit_of b).bads i (record { gate = 0; nid = 0 }) ≡ bad_at b (u.bads + i))
          → total ≡ length (circuit_of b).bads → {t₁ : List ℕ} → t₁ ≡ replicate u.names 2 → table t ≡ found vs t₁
          → r ≡ answer m.form (energy_in m.form (setting_of t) (built_by u m).model) (true_from b u.qubits.now t u.bads total) → done r t ≡ within (built_by u m) vs
      ended {t = t} total h et e₁ e er =
          rw (er, et, ← trues b s t (circuit_of b).bads u.bads h) (sym (counted ∙ ap (finished (built_by u m)) (sym (rw e₁ at e))))

pub ran-inside : (u : Built) (vs : List ℤ) (t : List ℕ) → u.state.next ≤ length t → beside (drop u.state.next t) (within u vs) ≡ ran u vs t
unfolding ran
ran-inside u vs t h = rw (le-ltb (length t) u.state.next h)
