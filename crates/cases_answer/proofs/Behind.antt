-- What stands behind a head: the circuit, and the values. Assumes nothing.
use Prim.Native.Nat.{ℕ, zero, suc, ◌≤◌, ◌<◌, min}
use native.Mathlib.Nat.{zero-min, suc-min-suc}
use mathlib.Core.List.{List, [], ◌∷◌}
use mathlib.Core.Path.{◌≡◌, sym, ap, ap₂, ◌∙◌}
use lib.ListN.{length, take, drop}
use borrow.Author.Tests.{lt-ltb, le-ltb}
use lib.Seq.{take-nil, drop-nil}
use Rattle.circuit.specs.declared.Refusal.TheVariants.{TooMany}
use Rattle.report_lines.specs.Report.{refusal_line}
use Rattle.cases.specs.declared.Job.{Job}
use Rattle.cases.specs.declared.Job.TheVariants.{Model, Run}
use Rattle.cases.specs.declared.Asked.{Asked}
use Rattle.cases.specs.Values.{given_of}
use Rattle.cases_answer.specs.Answer.{model_answer, run_answer, answer_by, limit, answer_of}

-- a part that ends where the bytes end
cut : (n : ℕ) (l : List ℕ) → take (min n (length l)) l ≡ take n l
cut zero l = rw zero-min
cut (suc n) [] = take-nil (min (suc n) 0) ∙ sym (take-nil (suc n))
cut (suc n) (x ∷ l) = rw suc-min-suc (ap (λ (t : List ℕ). x ∷ t) (cut n l))

past : (n : ℕ) (l : List ℕ) → drop (min n (length l)) l ≡ drop n l
past zero l = rw zero-min
past (suc n) [] = drop-nil (min (suc n) 0) ∙ sym (drop-nil (suc n))
past (suc n) (x ∷ l) = rw suc-min-suc (past n l)

-- the bytes that the code takes for the circuit
first : (n end : ℕ) (l b : List ℕ) → end ≡ min n (length l) → b ≡ take end l → take n l ≡ b
first n end l b e f = sym (f ∙ ap (λ (k : ℕ). take k l) e ∙ cut n l)

-- and for the values
next : (n end : ℕ) (l v : List ℕ) → end ≡ min n (length l) → v ≡ drop end l → drop n l ≡ v
next n end l v e f = sym (f ∙ ap (λ (k : ℕ). drop k l) e ∙ past n l)

module _ (asked : Asked) (rest : List ℕ) (room : ℕ) where
  pub too_long : limit < asked.length → answer_of asked rest room ≡ refusal_line TooMany
  unfolding answer_of
  too_long h = rw (lt-ltb limit asked.length h)

  by-job : (job : Job) → asked.length ≤ limit → asked.job ≡ job
      → answer_of asked rest room ≡ answer_by job (take asked.length rest) asked.form (given_of (drop asked.length rest) asked.values) room
  unfolding answer_of
  by-job job h j =
      rw (le-ltb limit asked.length h)
      (ap (λ (x : Job). answer_by x (take asked.length rest) asked.form (given_of (drop asked.length rest) asked.values) room) j)

  module _ {end : ℕ} {b : List ℕ} (h : asked.length ≤ limit) (e : end ≡ min asked.length (length rest)) (is : b ≡ take end rest) where
    pub model-behind : asked.job ≡ Model → answer_of asked rest room ≡ model_answer b asked.form room
    model-behind j = by-job Model h j ∙ ap (λ (b : List ℕ). model_answer b asked.form room) (first asked.length end rest b e is)

    pub run-behind : (v : List ℕ) → v ≡ drop end rest → asked.job ≡ Run → answer_of asked rest room ≡ run_answer b asked.form (given_of v asked.values)
    run-behind v f j =
        by-job Run h j
        ∙ ap₂ (λ (b s : List ℕ). run_answer b asked.form (given_of s asked.values)) (first asked.length end rest b e is) (next asked.length end rest v e f)
