-- A loop that needs the names of a list: what is left to do from here is what there was to do. And how the lists of names go on.
--     left-start, left-asked, left-on, left-stop, left_end
--     marked-on, marked-skip, marked-done     the names whose flag is set
--     bad-on, bad-done                        the bad states
-- Assumes nothing.
use mathlib.Core.Path.{◌≡◌, refl, ap, ◌∙◌}
use mathlib.Core.List.{List, [], ◌∷◌, map}
use Prim.Native.Nat.{ℕ, suc, ◌+◌, ◌-◌, ◌≤◌, ◌<◌}
use native.Mathlib.Omega.{arith}
use native.Mathlib.Numerals.{add-one}
use lib.ListN.{length, get_or, drop, drop_of_length-le, length-map}
use lib.Seq.{drop-cons}
use borrow.Author.Tests.{eq-eqb, ne_eqb}
use Rattle.circuit.specs.File.{field}
use Rattle.circuit.specs.Meaning.{circuit_of}
use Rattle.numbering.specs.State.{State, qubit_of}
use Rattle.numbering.specs.Numbered.{bad_gates}
use Rattle.run_values.specs.declared.Stop.{Stop}
use Rattle.run_values.specs.Need.{Got, table, stopped, and_then, each, need_of}
use Rattle.run_meaning.specs.Ran.{marked, bad_qubits}
use Rattle.run_rules.specs.Layout.{Laid}
use Rattle.run_values.specs.Asking.{net, Asked, NeedsAsked}
use Rattle.run_rules.specs.Code.{name_in}
use Rattle.run_values.proofs.Means.{bad-gate}

pub record Left (b starts : List ℕ) (bad_from : ℕ) (s : State) (fixed t₀ all rest t : List ℕ) : Type 0 where
  pub asked : NeedsAsked b starts bad_from s fixed t₀
  pub same : each (need_of (net b s fixed)) rest t ≡ each (need_of (net b s fixed)) all t₀
  pub long : length t ≡ length t₀

pub left-start : {b starts : List ℕ} {bad_from : ℕ} {s : State} {fixed t₀ : List ℕ} (all : List ℕ) → NeedsAsked b starts bad_from s fixed t₀ → Left b starts bad_from s fixed t₀ all all t₀
left-start all a = record { asked = a; same = refl; long = refl }

pub left_as : {b starts : List ℕ} {bad_from : ℕ} {s : State} {fixed t₀ all rest rest' t : List ℕ} → rest ≡ rest' → Left b starts bad_from s fixed t₀ all rest t → Left b starts bad_from s fixed t₀ all rest' t
left_as e g = rw e at g

module _ {b starts : List ℕ} {bad_from : ℕ} {s : State} {fixed t₀ all : List ℕ} {x : ℕ} {rest t : List ℕ} (g : Left b starts bad_from s fixed t₀ all (x ∷ rest) t) where
  -- y is the name as the code has it
  pub left-asked : {y : ℕ} → y ≡ x → x < s.next → Asked b starts bad_from s fixed t y
  left-asked e n = record { ready = g.asked.ready; values = omega (arith, g.asked.values, g.long); name = omega arith }

  turn : {y : ℕ} {z : Got} → y ≡ x → z ≡ need_of (net b s fixed) y t
      → and_then z (each (need_of (net b s fixed)) rest) ≡ each (need_of (net b s fixed)) all t₀
  unfolding each
  turn e k = rw (k, e) g.same

  pub left-on : {y : ℕ} {u : List ℕ} → y ≡ x → table u ≡ need_of (net b s fixed) y t → length u ≡ length t → Left b starts bad_from s fixed t₀ all rest u
  left-on e k l = record { asked = g.asked; same = turn e k; long = l ∙ g.long }

  pub left-stop : {y : ℕ} {z : Stop} → y ≡ x → stopped z ≡ need_of (net b s fixed) y t → stopped z ≡ each (need_of (net b s fixed)) all t₀
  left-stop e k = turn e k

pub left_end : {b starts : List ℕ} {bad_from : ℕ} {s : State} {fixed t₀ all t : List ℕ} → Left b starts bad_from s fixed t₀ all [] t → table t ≡ each (need_of (net b s fixed)) all t₀
unfolding each
left_end g = g.same

-- ---- flags

module _ (fs : List ℕ) (q : ℕ) where
  module _ (h : q < length fs) where
    pub marked-on : get_or fs q 0 ≡ 1 → marked q (drop q fs) ≡ q ∷ marked (q + 1) (drop (q + 1) fs)
    unfolding marked
    marked-on e = rw (drop-cons fs q 0 h, add-one q, eq-eqb (get_or fs q 0) 1 e)

    pub marked-skip : (get_or fs q 0 ≡ 1 → ⊥) → marked q (drop q fs) ≡ marked (q + 1) (drop (q + 1) fs)
    unfolding marked
    marked-skip n = rw (drop-cons fs q 0 h, add-one q, ne_eqb (get_or fs q 0) 1 n)

  pub marked-done : length fs ≤ q → marked q (drop q fs) ≡ []
  unfolding marked
  marked-done h = rw (drop_of_length-le fs h)

-- ---- bad states

module _ (b starts : List ℕ) (bad_from : ℕ) (laid : Laid b starts bad_from) (s : State) (n : ℕ) (past : bad_from ≤ n) where
  module _ (h : n < bad_from + length (circuit_of b).bads) where
    length-bads : length (bad_qubits (circuit_of b) s) ≡ length (circuit_of b).bads
    length-bads = simp length-map

    get_or-map-in : (f : ℕ → ℕ) (l : List ℕ) (j : ℕ) → j < length l → get_or (map f l) j 0 ≡ f (get_or l j 0)
    get_or-map-in f [] j l = absurd (omega arith)
    get_or-map-in f (x ∷ xs) Prim.Native.Nat.ℕ.zero l = refl
    get_or-map-in f (x ∷ xs) (suc j) l = get_or-map-in f xs j (omega arith)

    within : n - bad_from < length (circuit_of b).bads
    within = omega (arith, past)

    bad-at : get_or (bad_qubits (circuit_of b) s) (n - bad_from) 0 ≡ name_in s.qubits (field b n 0)
    bad-at =
        let e : bad_from + (n - bad_from) ≡ n = omega (arith, past) in
        get_or-map-in (qubit_of s) (bad_gates (circuit_of b)) (n - bad_from) (simp length-map within)
        ∙ ap (qubit_of s) (bad-gate b starts bad_from laid (n - bad_from) within ∙ ap (λ (m : ℕ). field b m 0) e)

    next : suc (n - bad_from) ≡ n + 1 - bad_from
    next = omega (arith, past)

    pub bad-on : drop (n - bad_from) (bad_qubits (circuit_of b) s) ≡ name_in s.qubits (field b n 0) ∷ drop (n + 1 - bad_from) (bad_qubits (circuit_of b) s)
    bad-on = drop-cons (bad_qubits (circuit_of b) s) (n - bad_from) 0 (omega (arith, length-bads, within)) ∙ rw (bad-at, next)

  pub bad-done : bad_from + length (circuit_of b).bads ≤ n → drop (n - bad_from) (bad_qubits (circuit_of b) s) ≡ []
  bad-done h = drop_of_length-le (bad_qubits (circuit_of b) s) (simp length-map (omega (arith, past)))
