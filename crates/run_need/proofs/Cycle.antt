-- The plain mathematics of the cycle of calls `need` and `follow`: what its needs ask, said of tables and not of places in the code.
--     rule-there, lists, count-asked, parts, operand-asked, left, none_left, operand     what the calls in `follow` ask, and the operands by number
--     Going, going_start, going-asked, going_on, going-stop, going_end    the loop over the operands: what is left to do from here is what there was to do
--     had, was-fixed, by-rule      the three returns of `need`
-- Assumes nothing.
use mathlib.Core.Path.{◌≡◌, refl, sym, ap, ◌∙◌}
use mathlib.Core.List.{List, [], ◌∷◌}
use Prim.Native.Nat.{ℕ, suc, ◌+◌, ◌*◌, ◌≤◌, ◌<◌}
use native.Mathlib.Omega.{arith}
use native.Mathlib.Numerals.{add-one}
use lib.ListN.{length, get_or, drop, set, drop_of_length-le}
use lib.Seq.{drop-cons}
use borrow.Author.Tests.{eq-eqb, ne_eqb}
use Rattle.circuit.specs.Meaning.{circuit_of}
use Rattle.energy.specs.Circuit.{Circuit}
use Rattle.units.specs.Name.{qubit}
use Rattle.numbering.specs.State.{State}
use Rattle.run_values.specs.declared.Stop.{Stop}
use Rattle.run_rules.specs.declared.Rule.{Rule}
use Rattle.run_rules.specs.declared.Operands.{Operands}
use Rattle.run_rules.specs.Rules.{Law, law_of, operands, depth}
use Rattle.run_values.specs.Need.{Got, table, stopped, and_then, each, settle, follow, step, need_of}
use Rattle.run_rules.specs.Layout.{AllLess}
use Rattle.run_values.specs.Asking.{net, follow_of, Asked}
use Rattle.run_rules.specs.Code.{meant, act_of, rule_at, RuleAsked, ListsAsked, operands_of, count_of, read, OperandAsked}
use Rattle.run_values.specs.Code.{value_in, settled, PartsAsked, fixed_bit}
use Rattle.run_values.specs.Fuel.{need_of-step}
use Rattle.run_operands.proofs.Listed.{length-read}
use Rattle.run_values.proofs.Means.{listed, Numbered, rule-means, rule-numbered, rule-asked, lists-asked, read-means, settle-means, parts-asked}

-- each of a list of names is less deep
less-at : (c : Circuit) (s : State) (n d : ℕ) (xs : List ℕ) (i : ℕ) → AllLess c s n d xs → i < length xs → (get_or xs i 0 < n) × (depth c s (get_or xs i 0) < d)
less-at c s n d [] i a h = absurd (omega arith)
less-at c s n d (x ∷ xs) Prim.Native.Nat.ℕ.zero a h = (a.0, a.1)
less-at c s n d (x ∷ xs) (suc i) a h = less-at c s n d xs i a.2 (omega arith)

module _ {b starts : List ℕ} {bad_from : ℕ} {s : State} {fixed t₀ : List ℕ} {q : ℕ} (a : Asked b starts bad_from s fixed t₀ q) where
  abbrev law : Law
  law = law_of (circuit_of b) s q

  pub rule-there : RuleAsked b bad_from s.origins s.roles q
  rule-there = rule-asked b starts bad_from a.ready.laid s a.ready.formed q a.name

  module _ {r : Rule} (er : r ≡ rule_at b s.qubits s.origins s.roles bad_from (qubit q)) where
    numbered : Numbered (act_of r)
    numbered = rw er (rule-numbered b starts bad_from a.ready.laid s a.ready.formed q a.name)

    pub lists : ListsAsked starts (act_of r)
    lists = lists-asked b starts bad_from a.ready.laid (act_of r) numbered

    law-is : meant (listed b s.qubits) r ≡ law
    law-is = ap (meant (listed b s.qubits)) er ∙ rule-means b starts bad_from a.ready.laid s a.ready.formed q a.name

    module _ {o : Operands} (eo : o ≡ operands_of starts r) where
      both : PartsAsked (length b) o × (o.few.n ≤ 3)
      both = rw eo (parts-asked b starts bad_from a.ready.laid r numbered)

      pub parts : PartsAsked (length b) o
      parts = both.0

      pub count-asked : (o.few.n ≤ 3) × (o.first.bits ≤ 65536) × (o.second.bits ≤ 65536)
      count-asked = (both.1, omega (arith, both.0.short), omega (arith, both.0.short-too))

      reads : read b s.qubits o ≡ operands law
      reads = ap (read b s.qubits) eo ∙ read-means b starts bad_from a.ready.laid s.qubits r numbered ∙ ap operands law-is

      count-is : count_of o ≡ length (operands law)
      count-is = sym (length-read b s.qubits o both.1) ∙ ap length reads

      -- the operands that are left, and the one of a turn
      pub left : {i n : ℕ} → n ≡ count_of o → i < n → i < length (operands law)
      left e h = omega (arith, count-is)

      pub none_left : {i n : ℕ} → n ≡ count_of o → n ≤ i → length (operands law) ≤ i
      none_left e h = omega (arith, count-is)

      pub operand : {x : ℕ} (i : ℕ) → x ≡ get_or (read b s.qubits o) i 0 → x ≡ get_or (operands law) i 0
      operand i e = e ∙ ap (λ (ops : List ℕ). get_or ops i 0) reads

      pub operand-asked : (i n : ℕ) → n ≡ count_of o → i < n → OperandAsked (length b) o i
      operand-asked i n e h = record { three = both.1; first = both.0.first; second = both.0.second; inside = omega arith }

      pub settles : (t : List ℕ) → settled (value_in r o b s.qubits t (qubit q)) q t ≡ settle law q t
      settles t =
          ap (λ (p : Operands). settled (value_in r p b s.qubits t (qubit q)) q t) eo
          ∙ settle-means b starts bad_from a.ready.laid s.qubits r numbered q t
          ∙ ap (λ (l : Law). settle l q t) law-is

-- the loop of `follow` from the table t₀ has come to the table t with the operands from i on left
pub record Going (b starts : List ℕ) (bad_from : ℕ) (s : State) (fixed t₀ : List ℕ) (q i : ℕ) (t : List ℕ) : Type 0 where
  pub asked : Asked b starts bad_from s fixed t₀ q
  pub same : each (need_of (net b s fixed)) (drop i (operands (law_of (circuit_of b) s q))) t ≡ each (need_of (net b s fixed)) (operands (law_of (circuit_of b) s q)) t₀
  pub long : length t ≡ length t₀

pub going_start : {b starts : List ℕ} {bad_from : ℕ} {s : State} {fixed t₀ : List ℕ} {q : ℕ} → Asked b starts bad_from s fixed t₀ q → Going b starts bad_from s fixed t₀ q 0 t₀
going_start a = record { asked = a; same = refl; long = refl }

module _ {b starts : List ℕ} {bad_from : ℕ} {s : State} {fixed t₀ : List ℕ} {q i : ℕ} {t : List ℕ} (g : Going b starts bad_from s fixed t₀ q i t)
    (more : i < length (operands (law_of (circuit_of b) s q))) where
  abbrev ops : List ℕ
  ops = operands (law_of (circuit_of b) s q)

  -- the operand x of this turn, as the code read it; m is the measure
  pub going-asked : {x m : ℕ} → x ≡ get_or ops i 0 → 2 * depth (circuit_of b) s q ≡ m → (2 * depth (circuit_of b) s x + 1 < m) × Asked b starts bad_from s fixed t x
  going-asked {x} e f =
      let l = less-at (circuit_of b) s s.next (depth (circuit_of b) s q) ops i (g.asked.ready.formed.falls q g.asked.name) more in
      let n : x < s.next = rw e l.0 in
      let d : depth (circuit_of b) s x < depth (circuit_of b) s q = rw e l.1 in
      (omega arith, record { ready = g.asked.ready; values = omega (arith, g.asked.values, g.long); name = n })

  turn : {x : ℕ} {z : Got} → x ≡ get_or ops i 0 → z ≡ need_of (net b s fixed) x t
      → and_then z (each (need_of (net b s fixed)) (drop (i + 1) ops)) ≡ each (need_of (net b s fixed)) ops t₀
  unfolding each
  turn {x} e k =
      rw (k, e, add-one i) (ap (λ (l : List ℕ). each (need_of (net b s fixed)) l t) (sym (drop-cons ops i 0 more)) ∙ g.same)

  pub going_on : {x : ℕ} {u : List ℕ} → x ≡ get_or ops i 0 → table u ≡ need_of (net b s fixed) x t → length u ≡ length t → Going b starts bad_from s fixed t₀ q (i + 1) u
  going_on e k l = record { asked = g.asked; same = turn e k; long = l ∙ g.long }

  pub going-stop : {x : ℕ} {y : Stop} → x ≡ get_or ops i 0 → stopped y ≡ need_of (net b s fixed) x t → stopped y ≡ follow_of (net b s fixed) q t₀
  unfolding follow_of follow
  going-stop e k = ap (λ (z : Got). and_then z (settle (law_of (circuit_of b) s q) q)) (turn e k)

-- all operands are found
pub going_end : {b starts : List ℕ} {bad_from : ℕ} {s : State} {fixed t₀ : List ℕ} {q i : ℕ} {t : List ℕ} → Going b starts bad_from s fixed t₀ q i t
    → length (operands (law_of (circuit_of b) s q)) ≤ i → settle (law_of (circuit_of b) s q) q t ≡ follow_of (net b s fixed) q t₀
unfolding follow_of follow each
going_end {b} {s = s} {fixed} {t₀} {q} {i} {t} g h =
    ap (λ (z : Got). and_then z (settle (law_of (circuit_of b) s q) q))
    (ap (λ (l : List ℕ). each (need_of (net b s fixed)) l t) (sym (drop_of_length-le (operands (law_of (circuit_of b) s q)) h)) ∙ g.same)

-- ---- `need`

module _ {b starts : List ℕ} {bad_from : ℕ} {s : State} {fixed t : List ℕ} {q : ℕ} (a : Asked b starts bad_from s fixed t q) where
  stepped : need_of (net b s fixed) q t ≡ step (net b s fixed) (need_of (net b s fixed)) q t
  stepped = need_of-step (net b s fixed) a.ready.formed q a.name t

  -- the code looks at the entry p, which is q

  -- a value that is known
  pub had : {p : ℕ} → p ≡ q → (get_or t p 0 ≡ 2 → ⊥) → table t ≡ need_of (net b s fixed) q t
  unfolding step
  had z n = sym (stepped ∙ rw (ne_eqb (get_or t q 0) 2 (rw z at n)))

  pub was-fixed : {p v : ℕ} → p ≡ q → get_or t p 0 ≡ 2 → (get_or fixed p 0 ≡ 0 → ⊥) → v ≡ fixed_bit (get_or fixed p 0) → table (set t p v) ≡ need_of (net b s fixed) q t
  unfolding step
  was-fixed z e n f = rw (f, z) (sym (stepped ∙ rw (eq-eqb (get_or t q 0) 2 (rw z at e), ne_eqb (get_or fixed q 0) 0 (rw z at n))))

  pub by-rule : {p : ℕ} {z : Got} → p ≡ q → get_or t p 0 ≡ 2 → get_or fixed p 0 ≡ 0 → z ≡ follow_of (net b s fixed) q t → z ≡ need_of (net b s fixed) q t
  unfolding step follow_of
  by-rule z e n f = f ∙ sym (stepped ∙ rw (eq-eqb (get_or t q 0) 2 (rw z at e), eq-eqb (get_or fixed q 0) 0 (rw z at n)))
