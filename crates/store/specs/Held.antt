-- Laws for the callers: what the tables hold after a step, and that the next step may follow.
-- Assumes nothing.
use Rattle.std.specs.Prelude.{Bool, true, false, cond, List, [], ◌∷◌, ◌++◌, ◌≡◌, refl, ℕ, suc, ◌-◌, ◌≤◌, ℤ, length, take, drop, replicate}
use Rattle.std.proofs.Common.{sym, ap, ◌∙◌, subst, le_refl, arith, length-take, take-append-drop, length-take-le}
use Rattle.std.proofs.Math.Seq.{drop-append_seam}
use Rattle.energy.specs.Model.{Entry, Model, Sized, low, high, join_linear, touches, without, fix, quarters, ising, ends, mass}
use Rattle.energy.proofs.Mass.{mass-fix, mass-ising}
use Rattle.energy.specs.Sized.{turned}
use Rattle.energy.proofs.Fixing.{give-pairs}
use Rattle.energy.specs.Sized.{sized-ising}
use Rattle.energy.proofs.Sized.{sized-fix}
use Rattle.store_pairs.specs.Store.{none, over}
use Rattle.store_pairs.specs.Over.{take-over, length_over, over_zeros, over-more}
use Rattle.store.specs.Tables.{Tables, model_of, hold, Ready}

-- ---- what the tables hold

-- the model that was put in
pub model-hold : (m : Model) (t : Tables) → model_of (hold m t) ≡ m
model-hold m t i =
    record {
      offset = m.offset;
      linear = m.linear;
      has_linear = m.has_linear;
      has_row = m.has_row;
      fixed = m.fixed;
      pairs = take-over m.pairs t.count t.entries i;
    }

-- where every entry that is not in use was 0, the pair tables hold the pairs and then zeros, whatever stood there before
pub entries-hold : (m : Model) (t : Tables) → length m.pairs ≤ length t.entries → t.count ≤ length t.entries
    → drop t.count t.entries ≡ replicate (length t.entries - t.count) none
    → (hold m t).entries ≡ m.pairs ++ replicate (length t.entries - length m.pairs) none
entries-hold m t h k z = over_zeros m.pairs t.count t.entries h k z

-- and then every entry that is not in use is 0 again
pub zeros-hold : (m : Model) (t : Tables) → length m.pairs ≤ length t.entries → t.count ≤ length t.entries
    → drop t.count t.entries ≡ replicate (length t.entries - t.count) none
    → drop (hold m t).count (hold m t).entries ≡ replicate (length (hold m t).entries - (hold m t).count) none
zeros-hold m t h k z =
    ap (drop (length m.pairs)) (entries-hold m t h k z)
    ∙ drop-append_seam m.pairs (replicate (length t.entries - length m.pairs) none)
    ∙ ap (λ (n : ℕ). replicate (n - length m.pairs) none) (sym (length_over m.pairs t.count t.entries h k))

-- ---- the next step may follow

pub ready-next : {n : ℕ} {ks : List ℕ} {ws : List ℤ} {t : Tables} (ks' : List ℕ) (ws' : List ℤ) (u : Tables) (m : Model) → Ready n ks ws t
    → length ks' ≡ length ks → length ws' ≡ length ws → u ≡ hold m t → Sized n m → mass m ≤ mass (model_of t) → length m.pairs ≤ t.count → Ready n ks' ws' u
ready-next {n} {ks} {ws} {t} ks' ws' u m r lk lw e s small few =
    let holds : model_of u ≡ m = ap model_of e ∙ model-hold m t in
    record {
      even = lw ∙ r.even ∙ sym lk;
      used = omega (arith, r.used, ap (λ (t : Tables). t.count) e);
      sized = subst (Sized n) (sym holds) s;
      small = omega (arith, r.small, ap mass holds);
    }

length_without : (q : ℕ) (s : List Entry) → length (without q s) ≤ length s
unfolding without
length_without q [] = le_refl 0
length_without q (e ∷ s) = go (touches q e.0) (length_without q s)
  where
    go : (b : Bool) → length (without q s) ≤ length s → length (cond b (without q s) (e ∷ without q s)) ≤ suc (length s)
    go true h = omega arith
    go false h = omega arith

in_use : (k : ℕ) (s : List Entry) → length (take k s) ≤ k
in_use k s = omega (arith, length-take k s)

fix-pairs : (q : ℕ) (b : Bool) (m : Model) → (fix q b m).pairs ≡ without q m.pairs
unfolding fix
fix-pairs q b m = ap (without q) (give-pairs q b m.pairs m)

ends-pairs : (s : List Entry) (m : Model) → (ends s m).pairs ≡ m.pairs
unfolding ends
ends-pairs [] m = refl
ends-pairs (e ∷ s) m = ends-pairs s (join_linear (high e.0) e.1 (join_linear (low e.0) e.1 m))

ising-pairs : (m : Model) → (ising m).pairs ≡ quarters m.pairs
unfolding ising
ising-pairs m = ends-pairs (quarters m.pairs) (turned m)

length-quarters : (s : List Entry) → length (quarters s) ≡ length s
length-quarters [] = refl
length-quarters (e ∷ s) = ap suc (length-quarters s)

-- after a qubit was fixed
pub ready_fixed : {n : ℕ} {ks : List ℕ} {ws : List ℤ} {t : Tables} (ks' : List ℕ) (ws' : List ℤ) (u : Tables) (q : ℕ) (b : Bool) → Ready n ks ws t
    → length ks' ≡ length ks → length ws' ≡ length ws → u ≡ hold (fix q b (model_of t)) t → Ready n ks' ws' u
ready_fixed {n} {ks} {ws} {t} ks' ws' u q b r lk lw e =
    ready-next ks' ws' u (fix q b (model_of t)) r lk lw e (sized-fix n q b (model_of t) r.sized) (mass-fix q b (model_of t))
    (omega (arith, ap length (fix-pairs q b (model_of t)), length_without q (take t.count t.entries), in_use t.count t.entries))

-- and after the Ising form was made
pub ready-ising : {n : ℕ} {ks : List ℕ} {ws : List ℤ} {t : Tables} (ws' : List ℤ) (u : Tables) → Ready n ks ws t
    → length ws' ≡ length ws → u ≡ hold (ising (model_of t)) t → Ready n ks ws' u
ready-ising {n} {ks} {ws} {t} ws' u r lw e =
    ready-next ks ws' u (ising (model_of t)) r refl lw e (sized-ising n (model_of t) r.sized) (mass-ising (model_of t))
    (omega (arith, ap length (ising-pairs (model_of t)), length-quarters (take t.count t.entries), in_use t.count t.entries))

-- tables that hold their own model
pub hold-same : (t : Tables) → t.count ≤ length t.entries → t ≡ hold (model_of t) t
hold-same t h i =
    record {
      offset = t.offset;
      linear = t.linear;
      has_linear = t.has_linear;
      has_row = t.has_row;
      fixed = t.fixed;
      entries = entries i;
      count = long i;
    }
  where
    long : t.count ≡ length (take t.count t.entries)
    long = sym (length-take-le t.count t.entries h)

    entries : t.entries ≡ over (take t.count t.entries) t.count t.entries
    entries =
        sym
        (over-more (take t.count t.entries) t.count t.entries (omega (arith, long))
        ∙ ap (λ (n : ℕ). take t.count t.entries ++ drop n t.entries) (sym long)
        ∙ take-append-drop t.count t.entries)
