-- Tables that a model fills: its pairs stand at the front of the pair tables, and the rest of these is 0. Every step of the build keeps that.
-- Assumes nothing.
use Rattle.std.specs.Prelude.{◌≡◌, List, ◌++◌, ℕ, ◌-◌, ◌≤◌, length, drop, replicate}
use Rattle.std.proofs.Common.{sym, ap, ◌∙◌, arith, length-append}
use Rattle.std.proofs.lemmas.List.{length-replicate}
use Rattle.std.proofs.Math.Seq.{take-append_seam, drop-append_seam}
use Rattle.energy.specs.Model.{Entry, Model}
use Rattle.store_pairs.specs.Store.{none, front}
use Rattle.store_pairs.specs.Over.{over_zeros}
use Rattle.store.specs.Tables.{Tables, model_of, hold}

-- pair tables of k entries
abbrev pub full : ℕ → Model → Tables
full k m =
    record {
      offset = m.offset;
      linear = m.linear;
      has_linear = m.has_linear;
      has_row = m.has_row;
      fixed = m.fixed;
      entries = front m.pairs k;
      count = length m.pairs;
    }

pub length_front : (s : List Entry) (k : ℕ) → length s ≤ k → length (front s k) ≡ k
length_front s k h = omega (arith, length-append s (replicate (k - length s) none), length-replicate {A = Entry} (k - length s) none)

-- the model that they hold is that model
pub model-full : (k : ℕ) (m : Model) → model_of (full k m) ≡ m
model-full k m = ap with-pairs (take-append_seam m.pairs (replicate (k - length m.pairs) none))
  where
    with-pairs : List Entry → Model
    with-pairs s =
        record { offset = m.offset; linear = m.linear; has_linear = m.has_linear; has_row = m.has_row; fixed = m.fixed; pairs = s }

-- another model in them fills them
pub hold-full : (k : ℕ) (m n : Model) → length m.pairs ≤ k → length n.pairs ≤ k → hold n (full k m) ≡ full k n
hold-full k m n h i = ap with_entries (over_zeros n.pairs (length m.pairs) (front m.pairs k) (omega (arith, long)) (omega (arith, long)) zeros ∙ ap (λ (j : ℕ). n.pairs ++ replicate (j - length n.pairs) none) long)
  where
    long : length (front m.pairs k) ≡ k
    long = length_front m.pairs k h

    zeros : drop (length m.pairs) (front m.pairs k) ≡ replicate (length (front m.pairs k) - length m.pairs) none
    zeros = drop-append_seam m.pairs (replicate (k - length m.pairs) none) ∙ ap (λ (j : ℕ). replicate (j - length m.pairs) none) (sym long)

    with_entries : List Entry → Tables
    with_entries t =
        record {
          offset = n.offset;
          linear = n.linear;
          has_linear = n.has_linear;
          has_row = n.has_row;
          fixed = n.fixed;
          entries = t;
          count = length n.pairs;
        }

-- a step on the model that the tables hold
pub step-full : (k : ℕ) (m : Model) (f : Model → Model) {t u : Tables} → t ≡ full k m → u ≡ hold (f (model_of t)) t → length m.pairs ≤ k → length (f m).pairs ≤ k → u ≡ full k (f m)
step-full k m f {t} {u} e g h i =
    g ∙ ap (λ (t : Tables). hold (f (model_of t)) t) e ∙ ap (λ (x : Model). hold (f x) (full k m)) (model-full k m) ∙ hold-full k m (f m) h i
