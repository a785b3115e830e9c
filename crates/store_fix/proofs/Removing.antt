-- The pass that deletes a qubit's pairs, in place, and gives their numbers away: T is the table, of which m entries are kept and those from i to n are left.
-- Assumes nothing.
use mathlib.Core.Bool.{Bool, true, false, cond}
use mathlib.Core.Path.{◌≡◌, refl, sym, ap, ap₂, ◌∙◌}
use mathlib.Core.List.{List, [], ◌∷◌, ◌++◌, append-nil}
use Prim.Native.Nat.{ℕ, ◌+◌, ◌-◌, ◌^◌, ◌≤◌, ◌<◌}
use native.Mathlib.Numerals.{add-one}
use native.Mathlib.Omega.{arith}
use lib.Dec.{eqb}
use lib.IntN.{ℤ, pos, nat_abs}
use lib.ListN.{length, take, drop, set, get_or, replicate}
use lib.Seq.{slice, slice-cons, slice_empty, take-suc-set, drop-set-lt, append_snoc, length-take-le}
use Rattle.energy.specs.Model.{Entry, Model, Inside, low, high, touches, neighbour, gated, give, without, add_linear, sizes}
use Rattle.energy.specs.Mass.{sizes-at, abs-gated}
use Rattle.store_pairs.specs.Store.{zip, none, load, over}
use Rattle.std.specs.Prelude.{Some, None}
use Rattle.store_pairs.specs.Over.{over-less}
use Rattle.store_pairs.proofs.Tables.{length-zip, zip-at, slice_set}
use Rattle.store.specs.Tables.{with_linear, gained, marked}
use Rattle.store_fix.specs.Fixing.{end}
use Rattle.store.proofs.Adding.{add-linear-is, gained-sizes}

-- ---- the other end, by the code's test

-- a pair with q: the other end is a qubit
pub record Touched (q k n at : ℕ) : Type 0 where
  pub yes : touches q k ≡ true
  pub other : at ≡ neighbour q k
  pub below : at < n

module _ (q k n : ℕ) (rises : low k < high k) (inside : high k < n) where
  neighbour-below : neighbour q k < n
  neighbour-below = go (eqb (low k) q)
    where
      go : (b : Bool) → cond b (high k) (low k) < n
      go true = inside
      go false = omega arith

  pub is-touched : (at : ℕ) → Some at ≡ end q k → Touched q k n at
  is-touched at e = go (touches q k) refl e
    where
      go : (b : Bool) → touches q k ≡ b → Some at ≡ cond b (Some (neighbour q k)) None → Touched q k n at
      go true t e =
          let o : at ≡ neighbour q k = cc in
          record { yes = t; other = o; below = omega (arith, o, neighbour-below) }
      go false t e = let z : ⊥ = cc in absurd z

  pub not-touched : None ≡ end q k → touches q k ≡ false
  not-touched e = go (touches q k) refl e
    where
      go : (b : Bool) → touches q k ≡ b → None ≡ cond b (Some (neighbour q k)) None → touches q k ≡ false
      go true t e = let z : ⊥ = cc in absurd z
      go false t e = t

-- ---- the definitions at one entry

without-touched : (q : ℕ) (e : Entry) (s : List Entry) → touches q e.0 ≡ true → without q (e ∷ s) ≡ without q s
unfolding without
without-touched q e s t = ap (λ (b : Bool). cond b (without q s) (e ∷ without q s)) t

without_other : (q : ℕ) (e : Entry) (s : List Entry) → touches q e.0 ≡ false → without q (e ∷ s) ≡ e ∷ without q s
unfolding without
without_other q e s t = ap (λ (b : Bool). cond b (without q s) (e ∷ without q s)) t

give-touched : (q : ℕ) (b : Bool) (e : Entry) (s : List Entry) (m : Model) → touches q e.0 ≡ true → give q b (e ∷ s) m ≡ give q b s (add_linear (neighbour q e.0) (gated b e.1) m)
unfolding give
give-touched q b e s m t = ap (λ (c : Bool). give q b s (cond c (add_linear (neighbour q e.0) (gated b e.1) m) m)) t

give-other : (q : ℕ) (b : Bool) (e : Entry) (s : List Entry) (m : Model) → touches q e.0 ≡ false → give q b (e ∷ s) m ≡ give q b s m
unfolding give
give-other q b e s m t = ap (λ (c : Bool). give q b s (cond c (add_linear (neighbour q e.0) (gated b e.1) m) m)) t

-- ---- at the head of the loop

pub record Removing (ks₀ : List ℕ) (ws₀ : List ℤ) (n q : ℕ) (on : Bool) (l₀ : List ℤ) (h₀ : List ℕ) (ks : List ℕ) (ws : List ℤ) (l : List ℤ) (h : List ℕ) (m i : ℕ) : Type 0 where
  pub written : m ≤ i
  pub within : i ≤ n
  pub keys : length ks ≡ length ks₀
  pub weights : length ws ≡ length ks₀
  pub linear : length l ≡ length l₀
  pub present : length h ≡ length l₀
  pub stay : take m (zip ks ws) ++ without q (slice i n (zip ks ws)) ≡ without q (take n (zip ks₀ ws₀))
  pub given : (z : Model) → give q on (slice i n (zip ks ws)) (with_linear l h z) ≡ give q on (take n (zip ks₀ ws₀)) (with_linear l₀ h₀ z)
  pub inside : Inside (length l₀) (slice i n (zip ks ws))
  pub size : load (slice i n (zip ks ws)) + sizes l ≤ load (take n (zip ks₀ ws₀)) + sizes l₀
  pub back : drop n (zip ks ws) ≡ drop n (zip ks₀ ws₀)

module _ {ks₀ : List ℕ} {ws₀ : List ℤ} {n q : ℕ} {on : Bool} {l₀ : List ℤ} {h₀ : List ℕ} {ks : List ℕ} {ws : List ℤ} {l : List ℤ} {h : List ℕ} {m i : ℕ}
    (fits : n ≤ length ks₀) (r : Removing ks₀ ws₀ n q on l₀ h₀ ks ws l h m i) (more : i < n) where
  -- the next entry, and those after it
  next : slice i n (zip ks ws) ≡ (get_or ks i 0, get_or ws i (pos 0)) ∷ slice (i + 1) n (zip ks ws)
  next =
      let even : length ws ≡ length ks = r.weights ∙ sym r.keys in
      let all = length-zip ks ws even in
      let l : n ≤ length (zip ks ws) = omega arith in
      let e : slice i n (zip ks ws) ≡ get_or (zip ks ws) i none ∷ slice (i + 1) n (zip ks ws) = rw add-one (slice-cons i n (zip ks ws) none more l) in
      e ∙ ap (λ (x : Entry). x ∷ slice (i + 1) n (zip ks ws)) (zip-at ks ws i even)

  next-inside : Inside (length l₀) ((get_or ks i 0, get_or ws i (pos 0)) ∷ slice (i + 1) n (zip ks ws))
  next-inside = rw next at r.inside

  next-load : load (slice i n (zip ks ws)) ≡ nat_abs (get_or ws i (pos 0)) + load (slice (i + 1) n (zip ks ws))
  next-load = ap load next

  touched : (at : ℕ) → Some at ≡ end q (get_or ks i 0) → Touched q (get_or ks i 0) (length l₀) at
  touched = is-touched q (get_or ks i 0) (length l₀) next-inside.0 next-inside.1

  -- what giving asks
  pub end_below : (at : ℕ) → Some at ≡ end q (get_or ks i 0) → at < length l
  end_below at e = omega (arith, (touched at e).below, r.linear)

  pub gift-small : load (take n (zip ks₀ ws₀)) + sizes l₀ ≤ 2 ^ 40 → (at : ℕ) → nat_abs (get_or l at (pos 0)) + nat_abs (get_or ws i (pos 0)) < 2 ^ 62
  gift-small small at = omega (arith, r.size, sizes-at l at, next-load)

  pub removed : {l' : List ℤ} {h' : List ℕ} → length l' ≡ length l → length h' ≡ length h → (at : ℕ) → Some at ≡ end q (get_or ks i 0)
      → l' ≡ gained at (gated on (get_or ws i (pos 0))) l → h' ≡ marked at (gated on (get_or ws i (pos 0))) h
      → Removing ks₀ ws₀ n q on l₀ h₀ ks ws l' h' m (i + 1)
  removed {l'} {h'} ll lh at e gl gh =
      let t = touched at e in
      let w : ℤ = get_or ws i (pos 0) in
      let x : Entry = (get_or ks i 0, get_or ws i (pos 0)) in
      let s : List Entry = slice (i + 1) n (zip ks ws) in
      let more-size : sizes l' ≤ sizes l + nat_abs (gated on w) = rw gl (gained-sizes at (gated on w) l) in
      record {
        written = omega arith;
        within = omega arith;
        keys = r.keys;
        weights = r.weights;
        linear = ll ∙ r.linear;
        present = lh ∙ r.present;
        stay = ap (λ (t : List Entry). take m (zip ks ws) ++ t) (sym (without-touched q x s t.yes) ∙ ap (without q) (sym next)) ∙ r.stay;
        given = λ z.
            ap (give q on s) (
            ap₂ (λ (a : List ℤ) (b : List ℕ). with_linear a b z) gl gh
            ∙ sym (add-linear-is at (gated on w) l h z)
            ∙ ap (λ (a : ℕ). add_linear a (gated on w) (with_linear l h z)) t.other)
            ∙ sym (give-touched q on x s (with_linear l h z) t.yes)
            ∙ ap (λ (t : List Entry). give q on t (with_linear l h z)) (sym next)
            ∙ r.given z;
        inside = next-inside.2;
        size = omega (arith, next-load, r.size, abs-gated on w);
        back = r.back;
      }

  pub stays : {ks' : List ℕ} {ws' : List ℤ} → None ≡ end q (get_or ks i 0) → length ks' ≡ length ks → length ws' ≡ length ws → zip ks' ws' ≡ set (zip ks ws) m (get_or (zip ks ws) i none)
      → Removing ks₀ ws₀ n q on l₀ h₀ ks' ws' l h (m + 1) (i + 1)
  stays {ks'} {ws'} e lk lw written =
      let t : touches q (get_or ks i 0) ≡ false = not-touched q (get_or ks i 0) (length l₀) next-inside.0 next-inside.1 e in
      let even : length ws ≡ length ks = r.weights ∙ sym r.keys in
      let all = length-zip ks ws even in
      let x : Entry = (get_or ks i 0, get_or ws i (pos 0)) in
      let s : List Entry = slice (i + 1) n (zip ks ws) in
      let T' : zip ks' ws' ≡ set (zip ks ws) m (get_or ks i 0, get_or ws i (pos 0)) = written ∙ ap (set (zip ks ws) m) (zip-at ks ws i even) in
      let rest : slice (i + 1) n (zip ks' ws') ≡ slice (i + 1) n (zip ks ws) = ap (slice (i + 1) n) T' ∙ slice_set (zip ks ws) m (i + 1) n _ (omega arith) (omega arith) in
      let room : m < length (zip ks ws) = omega arith in
      let front : take (m + 1) (zip ks' ws') ≡ take m (zip ks ws) ++ (get_or ks i 0, get_or ws i (pos 0)) ∷ [] = ap (take (m + 1)) T' ∙ rw add-one (take-suc-set (zip ks ws) m (get_or ks i 0, get_or ws i (pos 0)) room) in
      let less : load (slice (i + 1) n (zip ks' ws')) ≡ load (slice (i + 1) n (zip ks ws)) = ap load rest in
      record {
        written = omega arith;
        within = omega arith;
        keys = lk ∙ r.keys;
        weights = lw ∙ r.weights;
        linear = r.linear;
        present = r.present;
        stay =
            ap (λ (t : List Entry). take (m + 1) (zip ks' ws') ++ without q t) rest
            ∙ ap (λ (t : List Entry). t ++ without q s) front
            ∙ append_snoc (take m (zip ks ws)) x (without q s)
            ∙ ap (λ (t : List Entry). take m (zip ks ws) ++ t) (sym (without_other q x s t) ∙ ap (without q) (sym next))
            ∙ r.stay;
        given = λ z.
            ap (λ (t : List Entry). give q on t (with_linear l h z)) rest
            ∙ sym (give-other q on x s (with_linear l h z) t)
            ∙ ap (λ (t : List Entry). give q on t (with_linear l h z)) (sym next)
            ∙ r.given z;
        inside = rw rest next-inside.2;
        size = omega (arith, next-load, less, r.size);
        back = ap (drop n) T' ∙ drop-set-lt n (zip ks ws) m _ (omega arith) ∙ r.back;
      }

-- ---- at the end

without-nil : (q : ℕ) → without q [] ≡ []
unfolding without
without-nil q = refl

give-nil : (q : ℕ) (b : Bool) (m : Model) → give q b [] m ≡ m
unfolding give
give-nil q b m = refl

module _ {ks₀ : List ℕ} {ws₀ : List ℤ} {n q : ℕ} {on : Bool} {l₀ : List ℤ} {h₀ : List ℕ} {ks : List ℕ} {ws : List ℤ} {l : List ℤ} {h : List ℕ} {m i : ℕ}
    (fits : n ≤ length ks₀) (r : Removing ks₀ ws₀ n q on l₀ h₀ ks ws l h m i) (done : n ≤ i) where
  nothing : slice i n (zip ks ws) ≡ []
  nothing = let e : i ≡ n = omega arith in rw e (slice_empty n (zip ks ws))

  all-kept : take m (zip ks ws) ≡ without q (take n (zip ks₀ ws₀))
  all-kept =
      sym (append-nil (take m (zip ks ws)))
      ∙ ap (λ (t : List Entry). take m (zip ks ws) ++ t) (sym (without-nil q) ∙ ap (without q) (sym nothing))
      ∙ r.stay

  pub all-given : (z : Model) → with_linear l h z ≡ give q on (take n (zip ks₀ ws₀)) (with_linear l₀ h₀ z)
  all-given z = sym (give-nil q on (with_linear l h z)) ∙ ap (λ (t : List Entry). give q on t (with_linear l h z)) (sym nothing) ∙ r.given z

  pub counted : m ≡ length (without q (take n (zip ks₀ ws₀)))
  counted = sym (length-take-le m (zip ks ws) (omega (arith, length-zip ks ws (r.weights ∙ sym r.keys)))) ∙ ap length all-kept

  pub table-after : (T : List Entry) → T ≡ take m (zip ks ws) ++ (replicate (n - m) none ++ drop n (zip ks ws))
      → T ≡ over (without q (take n (zip ks₀ ws₀))) n (zip ks₀ ws₀)
  table-after T e =
      e
      ∙ ap (λ (t : List Entry). t ++ (replicate (n - m) none ++ drop n (zip ks ws))) all-kept
      ∙ ap (λ (t : List Entry). without q (take n (zip ks₀ ws₀)) ++ (replicate (n - m) none ++ t)) r.back
      ∙ ap (λ (k : ℕ). without q (take n (zip ks₀ ws₀)) ++ (replicate (n - k) none ++ drop n (zip ks₀ ws₀))) counted
      ∙ sym (over-less (without q (take n (zip ks₀ ws₀))) n (zip ks₀ ws₀) (omega (arith, counted, r.written)))
