-- The pass over the pairs, in place: the first `count` entries are the pairs that stay so far, and those from i to n are left. What is left, sifted into what there is, is the whole.
-- Assumes nothing.
use mathlib.Core.List.{List, [], ◌∷◌, ◌++◌}
use mathlib.Core.Path.{◌≡◌, refl, sym, ap, ap₂, ◌∙◌}
use Prim.Native.Nat.{ℕ, ◌+◌, ◌-◌, ◌^◌, ◌≤◌, ◌<◌}
use native.Mathlib.Numerals.{add-one}
use native.Mathlib.Omega.{arith}
use lib.IntN.{ℤ, pos, nat_abs}
use lib.ListN.{length, take, drop, get_or, replicate}
use lib.Seq.{slice, slice-cons, slice_empty, length-take-le, drop-drop}
use Rattle.energy.specs.Model.{Entry, Model, Inside, mass}
use Rattle.energy.specs.Mass.{offset-within}
use Rattle.energy.specs.Once.{sift, sift_all, sifted, mass-sift}
use Rattle.store_pairs.specs.Store.{zip, none, load, over}
use Rattle.store_pairs.specs.Over.{over-less}
use Rattle.store_pairs.proofs.Tables.{length-zip, zip-at, slice-drop}
use Rattle.store.specs.declared.Totals.{Totals}
use Rattle.store.specs.Tables.{tables, model_of, hold}
use Rattle.store_sift.specs.Sifting.{Turn, Sifting}

-- at the head of the loop
pub record Passing (f : List ℕ) (l₀ : List ℤ) (h₀ ks₀ : List ℕ) (ws₀ : List ℤ) (from : Totals) (l : List ℤ) (h ks : List ℕ) (ws : List ℤ) (t : Totals) (i : ℕ) : Type 0 where
  pub behind : t.count ≤ i
  pub within : i ≤ from.count
  pub keys : length ks ≡ length ks₀
  pub weights : length ws ≡ length ks₀
  pub linear : length l ≡ length l₀
  pub present : length h ≡ length l₀
  pub whole : (rs : List ℕ)
      → sift_all (slice i from.count (zip ks ws)) (model_of (tables t.offset l h rs f ks ws t.count))
      ≡ sifted (model_of (tables from.offset l₀ h₀ rs f ks₀ ws₀ from.count))
  pub inside : Inside (length l₀) (slice i from.count (zip ks ws))
  pub small : mass (model_of (tables t.offset l h [] f ks ws t.count)) + load (slice i from.count (zip ks ws)) ≤ 2 ^ 40
  pub back : drop from.count (zip ks ws) ≡ drop from.count (zip ks₀ ws₀)

module _ {f : List ℕ} {l₀ : List ℤ} {h₀ ks₀ : List ℕ} {ws₀ : List ℤ} {from : Totals} (sifting : Sifting f l₀ h₀ ks₀ ws₀ from) where
  abbrev n : ℕ
  n = from.count

  pub from-small : nat_abs from.offset ≤ 2 ^ 40
  from-small = omega (arith, offset-within (model_of (tables from.offset l₀ h₀ [] f ks₀ ws₀ n)), sifting.small)

  -- before the first pair
  pub starts : (t : Totals) → t.offset ≡ from.offset → t.count ≡ 0 → Passing f l₀ h₀ ks₀ ws₀ from l₀ h₀ ks₀ ws₀ t 0
  unfolding mass
  starts t eo ec =
      let bared : (rs : List ℕ) → model_of (tables t.offset l₀ h₀ rs f ks₀ ws₀ t.count) ≡ model_of (tables from.offset l₀ h₀ rs f ks₀ ws₀ 0) =
      λ rs. ap₂ (λ (o : ℤ) (k : ℕ). model_of (tables o l₀ h₀ rs f ks₀ ws₀ k)) eo ec in
      record {
        behind = omega arith;
        within = omega arith;
        keys = refl;
        weights = sifting.even;
        linear = refl;
        present = sifting.present;
        whole = λ rs. ap (sift_all (take n (zip ks₀ ws₀))) (bared rs);
        inside = sifting.inside;
        small = omega (arith, sifting.small, ap mass (bared []));
        back = refl;
      }

  module _ {l : List ℤ} {h ks : List ℕ} {ws : List ℤ} {t : Totals} {i : ℕ} (p : Passing f l₀ h₀ ks₀ ws₀ from l h ks ws t i) where
    even : length ws ≡ length ks
    even = p.weights ∙ sym p.keys

    long : length (zip ks ws) ≡ length ks₀
    long = length-zip ks ws even ∙ p.keys

    module _ (more : i < n) where
      abbrev e : Entry
      e = (get_or ks i 0, get_or ws i (pos 0))

      -- the next pair, and those after it
      next : slice i n (zip ks ws) ≡ e ∷ slice (i + 1) n (zip ks ws)
      next =
          let fits : n ≤ length (zip ks ws) = omega (arith, long, sifting.used) in
          let c : slice i n (zip ks ws) ≡ get_or (zip ks ws) i none ∷ slice (i + 1) n (zip ks ws) = rw add-one (slice-cons i n (zip ks ws) none more fits) in
          c ∙ ap (λ (x : Entry). x ∷ slice (i + 1) n (zip ks ws)) (zip-at ks ws i even)

      next-inside : Inside (length l₀) (e ∷ slice (i + 1) n (zip ks ws))
      next-inside = rw next at p.inside

      pub turn : Turn f l h ks ws i t
      turn =
          record {
            even = even;
            here = omega (arith, p.keys, sifting.used);
            behind = p.behind;
            present = p.present ∙ sym p.linear;
            fixed = sifting.fixed ∙ sym p.linear;
            rises = next-inside.0;
            inside = omega (arith, next-inside.1, p.linear);
            small = omega (arith, p.small, ap load next);
          }

      pub turned : {l' : List ℤ} {h' ks' : List ℕ} {ws' : List ℤ} {t' : Totals}
          → length l' ≡ length l → length h' ≡ length h → length ks' ≡ length ks → length ws' ≡ length ws
          → ((rs : List ℕ) → model_of (tables t'.offset l' h' rs f ks' ws' t'.count) ≡ sift e (model_of (tables t.offset l h rs f ks ws t.count)))
          → t'.count ≤ t.count + 1 → drop (i + 1) (zip ks' ws') ≡ drop (i + 1) (zip ks ws)
          → Passing f l₀ h₀ ks₀ ws₀ from l' h' ks' ws' t' (i + 1)
      unfolding sift_all
      turned {l'} {h'} {ks'} {ws'} {t'} ll lh lk lw sifts few rest =
          let left : slice (i + 1) n (zip ks' ws') ≡ slice (i + 1) n (zip ks ws) =
          slice-drop (i + 1) n (zip ks' ws') ∙ ap (take (n - (i + 1))) rest ∙ sym (slice-drop (i + 1) n (zip ks ws)) in
          let at : (i + 1) + (n - (i + 1)) ≡ n = omega arith in
          let past : (T : List Entry) → drop (n - (i + 1)) (drop (i + 1) T) ≡ drop n T = λ T. drop-drop (n - (i + 1)) (i + 1) T ∙ ap (λ (j : ℕ). drop j T) at in
          record {
            behind = omega (arith, p.behind);
            within = omega arith;
            keys = lk ∙ p.keys;
            weights = lw ∙ p.weights;
            linear = ll ∙ p.linear;
            present = lh ∙ p.present;
            whole = λ rs.
                ap₂ sift_all left (sifts rs)
                ∙ ap (λ (s : List Entry). sift_all s (model_of (tables t.offset l h rs f ks ws t.count))) (sym next)
                ∙ p.whole rs;
            inside = rw left next-inside.2;
            small = omega (arith, p.small, ap load next, ap load left, ap mass (sifts []), mass-sift e (model_of (tables t.offset l h [] f ks ws t.count)));
            back = sym (past (zip ks' ws')) ∙ ap (drop (n - (i + 1))) rest ∙ past (zip ks ws) ∙ p.back;
          }

    -- after the last
    module _ (done : n ≤ i) where
      all-sifted : (rs : List ℕ) → model_of (tables t.offset l h rs f ks ws t.count) ≡ sifted (model_of (tables from.offset l₀ h₀ rs f ks₀ ws₀ n))
      unfolding sift_all
      all-sifted rs =
          let e : i ≡ n = omega (arith, p.within) in
          let nothing : slice i n (zip ks ws) ≡ [] = rw e (slice_empty n (zip ks ws)) in
          ap (λ (s : List Entry). sift_all s (model_of (tables t.offset l h rs f ks ws t.count))) (sym nothing) ∙ p.whole rs

      pub passed : (ks' : List ℕ) (ws' : List ℤ) → zip ks' ws' ≡ take t.count (zip ks ws) ++ (replicate (n - t.count) none ++ drop n (zip ks ws))
          → (rs : List ℕ)
          → tables t.offset l h rs f ks' ws' t.count
          ≡ hold (sifted (model_of (tables from.offset l₀ h₀ rs f ks₀ ws₀ n))) (tables from.offset l₀ h₀ rs f ks₀ ws₀ n)
      passed ks' ws' cleared rs = parts ∙ ap (λ (m : Model). hold m (tables from.offset l₀ h₀ rs f ks₀ ws₀ n)) (all-sifted rs)
        where
          kept : List Entry
          kept = take t.count (zip ks ws)

          counted : t.count ≡ length kept
          counted = sym (length-take-le t.count (zip ks ws) (omega (arith, p.behind, p.within, sifting.used, long)))

          entries : zip ks' ws' ≡ over kept n (zip ks₀ ws₀)
          entries =
              cleared
              ∙ ap₂ (λ (k : ℕ) (T : List Entry). kept ++ (replicate (n - k) none ++ T)) counted p.back
              ∙ sym (over-less kept n (zip ks₀ ws₀) (omega (arith, counted, p.behind, p.within)))

          parts : tables t.offset l h rs f ks' ws' t.count
              ≡ hold (model_of (tables t.offset l h rs f ks ws t.count)) (tables from.offset l₀ h₀ rs f ks₀ ws₀ n)
          parts i = record { offset = t.offset; linear = l; has_linear = h; has_row = rs; fixed = f; entries = entries i; count = counted i }
