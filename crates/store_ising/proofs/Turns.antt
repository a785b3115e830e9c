-- The Ising form's loops: sums, halves, and the pass that turns each pair and joins its quarter to both ends; and the whole from its parts.
-- Assumes nothing.
use mathlib.Core.List.{List, [], ◌∷◌, ◌++◌, map, append-nil}
use mathlib.Core.Path.{◌≡◌, refl, sym, ap, ap₂, ◌∙◌}
use Prim.Native.Nat.{ℕ, suc, ◌+◌, ◌*◌, ◌^◌, ◌≤◌, ◌<◌}
use native.Mathlib.Numerals.{add-one}
use native.Mathlib.Omega.{arith}
use lib.IntN.{ℤ, pos, negsuc, nat_abs, ◌+ℤ◌, +ℤ_assoc}
use lib.ListN.{length, take, drop, set, get_or, length-set, take-append-drop}
use lib.Seq.{drop-cons, slice, slice-cons, slice_empty, take-suc-set, drop-set-lt, append_snoc, length-take-le}
use mir.Syntax.{w64}
use mir.Val.{SFits}
use Rattle.laws.specs.Abs.{abs-add, fits-abs}
use Rattle.laws.specs.Sum.{sum}
use Rattle.energy.specs.Model.{Entry, Model, Inside, low, high, half, quarter, weights, quarters, ends, ising, join_linear, sizes}
use Rattle.energy.specs.Mass.{sizes-gain, sizes-quarters, sizes-sum, abs-half, abs-quarter}
use Rattle.energy.specs.Sized.{turned}
use Rattle.store_pairs.specs.Store.{zip, none, load, over}
use Rattle.store_pairs.specs.Over.{over-more}
use Rattle.store_pairs.proofs.Tables.{length-zip, zip-at, zip-take, zip-weight, weights-zip, slice_set}
use Rattle.store.specs.declared.Totals.{Totals}
use Rattle.store.specs.Tables.{tables, model_of, hold, with_linear}
use Rattle.store_ising.specs.Turning.{join_ends, Turning}

-- ---- quarters fit

pub quarter-fits : {z : ℤ} → SFits w64 z → SFits w64 (quarter z)
quarter-fits {z = pos n} f = let h = f.sfits in fits-abs w64 _ (omega (arith, abs-quarter (pos n)))
quarter-fits {z = negsuc n} f = let h = f.sfits in fits-abs w64 _ (omega (arith, abs-quarter (negsuc n)))

-- ---- a sum: what is summed and what is left is the whole

pub record Summing (cs : List ℤ) (i : ℕ) (s : ℤ) : Type 0 where
  pub within : i ≤ length cs
  pub small : nat_abs s + sizes (drop i cs) ≤ sizes cs
  pub whole : s +ℤ sum (drop i cs) ≡ sum cs

module _ {cs : List ℤ} {i : ℕ} {s : ℤ} (m : Summing cs i s) (more : i < length cs) where
  sum-next : drop i cs ≡ get_or cs i (pos 0) ∷ drop (i + 1) cs
  sum-next = rw add-one (drop-cons cs i (pos 0) more)

  pub sum-small : nat_abs (s +ℤ get_or cs i (pos 0)) ≤ sizes cs
  sum-small = omega (arith, m.small, ap sizes sum-next, abs-add s (get_or cs i (pos 0)))

  pub term-small : nat_abs (get_or cs i (pos 0)) ≤ sizes cs
  term-small = omega (arith, m.small, ap sizes sum-next)

  pub sum-turn : {t : ℤ} → t ≡ s +ℤ get_or cs i (pos 0) → Summing cs (i + 1) t
  sum-turn {t} e =
      record {
        within = omega arith;
        small = omega (arith, m.small, ap sizes sum-next, abs-add s (get_or cs i (pos 0)), ap nat_abs e);
        whole =
            ap (λ (z : ℤ). z +ℤ sum (drop (i + 1) cs)) e
            ∙ +ℤ_assoc s (get_or cs i (pos 0)) (sum (drop (i + 1) cs))
            ∙ ap (λ (x : List ℤ). s +ℤ sum x) (sym sum-next)
            ∙ m.whole;
      }

-- ---- halves: what is halved and the halves of what is left are the whole

pub record Halving (l₀ l : List ℤ) (i : ℕ) : Type 0 where
  pub kept : length l ≡ length l₀
  pub within : i ≤ length l₀
  pub whole : take i l ++ map half (drop i l) ≡ map half l₀

-- ---- both ends of a pair

ends-sizes : (x : Entry) (m : Model) → sizes (join_ends x m).linear ≤ sizes m.linear + 2 * nat_abs x.1
ends-sizes x m =
    omega (arith, sizes-gain (join_linear (low x.0) x.1 m).linear (high x.0) x.1, sizes-gain m.linear (low x.0) x.1)

ends-cons : (x : Entry) (s : List Entry) (m : Model) → ends (x ∷ s) m ≡ ends s (join_ends x m)
unfolding ends
ends-cons x s m = refl

ends-nil : (m : Model) → ends [] m ≡ m
unfolding ends
ends-nil m = refl

-- ---- the pass over the pairs

-- as many weights are in use as pairs
pub used-long : (ks : List ℕ) (ws : List ℤ) (n : ℕ) → length ws ≡ length ks → n ≤ length ks → length (take n ws) ≡ n
used-long ks ws n even fits = length-take-le n ws (omega arith)

pub record Turns (ks : List ℕ) (ws₀ : List ℤ) (n : ℕ) (l₀ : List ℤ) (h₀ : List ℕ) (ws : List ℤ) (l : List ℤ) (h : List ℕ) (i : ℕ) : Type 0 where
  pub within : i ≤ n
  pub weights : length ws ≡ length ks
  pub linear : length l ≡ length l₀
  pub present : length h ≡ length l₀
  pub turned-so-far : take i (zip ks ws) ++ quarters (slice i n (zip ks ws)) ≡ quarters (take n (zip ks ws₀))
  pub joined : (z : Model) → ends (quarters (slice i n (zip ks ws))) (with_linear l h z) ≡ ends (quarters (take n (zip ks ws₀))) (with_linear l₀ h₀ z)
  pub inside : Inside (length l₀) (slice i n (zip ks ws))
  pub size : sizes l + 2 * load (quarters (slice i n (zip ks ws))) ≤ sizes l₀ + load (take n (zip ks ws₀))
  pub back : drop n (zip ks ws) ≡ drop n (zip ks ws₀)

pub turn-starts : (ks : List ℕ) (ws : List ℤ) (n : ℕ) (l : List ℤ) (h : List ℕ) → length ws ≡ length ks → length h ≡ length l → Inside (length l) (take n (zip ks ws))
    → Turns ks ws n l h ws l h 0
turn-starts ks ws n l h even same inside =
    record {
      within = omega arith;
      weights = even;
      linear = refl;
      present = same;
      turned-so-far = refl;
      joined = λ z. refl;
      inside = inside;
      size = omega (arith, sizes-quarters (take n (zip ks ws)));
      back = refl;
    }

module _ {ks : List ℕ} {ws₀ : List ℤ} {n : ℕ} {l₀ : List ℤ} {h₀ : List ℕ} {ws : List ℤ} {l : List ℤ} {h : List ℕ} {i : ℕ}
    (fits : n ≤ length ks) (r : Turns ks ws₀ n l₀ h₀ ws l h i) (more : i < n) where
  next : slice i n (zip ks ws) ≡ (get_or ks i 0, get_or ws i (pos 0)) ∷ slice (i + 1) n (zip ks ws)
  next =
      let all = length-zip ks ws r.weights in
      let room : n ≤ length (zip ks ws) = omega arith in
      let e : slice i n (zip ks ws) ≡ get_or (zip ks ws) i none ∷ slice (i + 1) n (zip ks ws) = rw add-one (slice-cons i n (zip ks ws) none more room) in
      e ∙ ap (λ (x : Entry). x ∷ slice (i + 1) n (zip ks ws)) (zip-at ks ws i r.weights)

  next-inside : Inside (length l₀) ((get_or ks i 0, get_or ws i (pos 0)) ∷ slice (i + 1) n (zip ks ws))
  next-inside = rw next at r.inside

  next-load : load (quarters (slice i n (zip ks ws))) ≡ nat_abs (quarter (get_or ws i (pos 0))) + load (quarters (slice (i + 1) n (zip ks ws)))
  next-load = ap (λ (s : List Entry). load (quarters s)) next

  -- what joining asks
  pub low-in : low (get_or ks i 0) < length l
  low-in = omega (arith, next-inside.0, next-inside.1, r.linear)

  pub high-in : high (get_or ks i 0) < length l
  high-in = omega (arith, next-inside.1, r.linear)

  pub ends-small : sizes l₀ + load (take n (zip ks ws₀)) ≤ 2 ^ 40 → sizes l + 2 * nat_abs (quarter (get_or ws i (pos 0))) ≤ 2 ^ 41
  ends-small small = omega (arith, r.size, next-load)

  pub pair_turn : {ws' : List ℤ} {l' : List ℤ} {h' : List ℕ} (c c' : ℤ) → c ≡ quarter (get_or ws i (pos 0)) → c' ≡ c → ws' ≡ set ws i c
      → length l' ≡ length l → length h' ≡ length h
      → ((z : Model) → with_linear l' h' z ≡ join_ends (get_or ks i 0, c') (with_linear l h z))
      → Turns ks ws₀ n l₀ h₀ ws' l' h' (i + 1)
  pair_turn {ws'} {l'} {h'} c c' e e' w ll lh step =
      let all = length-zip ks ws r.weights in
      let room : i < length (zip ks ws) = omega arith in
      let q : ℤ = quarter (get_or ws i (pos 0)) in
      let y : Entry = (get_or ks i 0, q) in
      let s : List Entry = slice (i + 1) n (zip ks ws) in
      let T' : zip ks ws' ≡ set (zip ks ws) i (get_or ks i 0, quarter (get_or ws i (pos 0))) =
      ap (zip ks) (w ∙ ap (set ws i) e) ∙ zip-weight ks ws i (quarter (get_or ws i (pos 0))) in
      let rest : slice (i + 1) n (zip ks ws') ≡ slice (i + 1) n (zip ks ws) = ap (slice (i + 1) n) T' ∙ slice_set (zip ks ws) i (i + 1) n _ (omega arith) (omega arith) in
      let front : take (i + 1) (zip ks ws') ≡ take i (zip ks ws) ++ (get_or ks i 0, quarter (get_or ws i (pos 0))) ∷ [] = ap (take (i + 1)) T' ∙ rw add-one (take-suc-set (zip ks ws) i (get_or ks i 0, quarter (get_or ws i (pos 0))) room) in
      let whole : (z : Model) → with_linear l' h' z ≡ join_ends (get_or ks i 0, quarter (get_or ws i (pos 0))) (with_linear l h z) =
      λ z. step z ∙ ap (λ (a : ℤ). join_ends (get_or ks i 0, a) (with_linear l h z)) (e' ∙ e) in
      let bigger : l' ≡ (join_ends y (with_linear l h (model_of (tables (pos 0) l h [] [] ks ws n)))).linear = ap (λ (m : Model). m.linear) (whole (model_of (tables (pos 0) l h [] [] ks ws n))) in
      record {
        within = omega arith;
        weights = ap length w ∙ simp length-set r.weights;
        linear = ll ∙ r.linear;
        present = lh ∙ r.present;
        turned-so-far =
            ap₂ (λ (a b : List Entry). a ++ quarters b) front rest
            ∙ append_snoc (take i (zip ks ws)) y (quarters s)
            ∙ ap (λ (x : List Entry). take i (zip ks ws) ++ quarters x) (sym next)
            ∙ r.turned-so-far;
        joined = λ z.
            ap₂ (λ (x : List Entry) (m : Model). ends (quarters x) m) rest (whole z)
            ∙ sym (ends-cons y (quarters s) (with_linear l h z))
            ∙ ap (λ (x : List Entry). ends (quarters x) (with_linear l h z)) (sym next)
            ∙ r.joined z;
        inside = rw rest next-inside.2;
        size =
            omega (
              arith,
              r.size,
              next-load,
              ap (λ (x : List Entry). load (quarters x)) rest,
              ap sizes bigger,
              ends-sizes y (with_linear l h (model_of (tables (pos 0) l h [] [] ks ws n))),
            );
        back = ap (drop n) T' ∙ drop-set-lt n (zip ks ws) i _ (omega arith) ∙ r.back;
      }

length-quarters : (s : List Entry) → length (quarters s) ≡ length s
length-quarters [] = refl
length-quarters (e ∷ s) = ap suc (length-quarters s)

module _ {ks : List ℕ} {ws₀ : List ℤ} {n : ℕ} {l₀ : List ℤ} {h₀ : List ℕ} {ws : List ℤ} {l : List ℤ} {h : List ℕ} {i : ℕ}
    (fits : n ≤ length ks) (even : length ws₀ ≡ length ks) (r : Turns ks ws₀ n l₀ h₀ ws l h i) (done : n ≤ i) where
  nothing : slice i n (zip ks ws) ≡ []
  nothing = let e : i ≡ n = omega arith in rw e (slice_empty n (zip ks ws))

  all-quarters : take n (zip ks ws) ≡ quarters (take n (zip ks ws₀))
  all-quarters =
      let e : i ≡ n = omega arith in
      ap (λ (k : ℕ). take k (zip ks ws)) (sym e)
      ∙ sym (append-nil (take i (zip ks ws)))
      ∙ ap (λ (t : List Entry). take i (zip ks ws) ++ quarters t) (sym nothing)
      ∙ r.turned-so-far

  pub counted : length (quarters (take n (zip ks ws₀))) ≡ n
  counted = length-quarters (take n (zip ks ws₀)) ∙ length-take-le n (zip ks ws₀) (omega (arith, length-zip ks ws₀ even))

  pub table-turned : zip ks ws ≡ over (quarters (take n (zip ks ws₀))) n (zip ks ws₀)
  table-turned =
      sym (take-append-drop n (zip ks ws))
      ∙ ap₂ ◌++◌ all-quarters r.back
      ∙ ap (λ (k : ℕ). quarters (take n (zip ks ws₀)) ++ drop k (zip ks ws₀)) (sym counted)
      ∙ sym (over-more (quarters (take n (zip ks ws₀))) n (zip ks ws₀) (omega (arith, counted)))

  pub all-joined : (z : Model) → with_linear l h z ≡ ends (quarters (take n (zip ks ws₀))) (with_linear l₀ h₀ z)
  all-joined z = sym (ends-nil (with_linear l h z)) ∙ ap (λ (t : List Entry). ends (quarters t) (with_linear l h z)) (sym nothing) ∙ r.joined z

-- ---- the whole

-- the weights of the pairs in use
pub weights-used : (ks : List ℕ) (ws : List ℤ) (n : ℕ) → length ws ≡ length ks → n ≤ length ks → weights (take n (zip ks ws)) ≡ take n ws
weights-used ks ws n even fits =
    ap weights (sym (zip-take n ks ws))
    ∙ weights-zip (take n ks) (take n ws) (used-long ks ws n even fits ∙ sym (length-take-le n ks fits))

-- the two sums, and the offset with their half and their quarter, are in range
module _ {l : List ℤ} {h ks : List ℕ} {ws : List ℤ} {t : Totals} (r : Turning l h ks ws t) where
  pub weights-small : sizes (take t.count ws) ≤ 2 ^ 40
  weights-small = omega (arith, r.small, ap sizes (weights-used ks ws t.count r.even r.used))

  pub offset-fits : SFits w64 t.offset
  offset-fits = fits-abs w64 _ (omega (arith, r.small))

  module _ {a b : ℤ} (p : a ≡ sum l) (q : b ≡ sum (take t.count ws)) where
    a_small : nat_abs (half a) ≤ 2 ^ 40
    a_small = omega (arith, abs-half a, ap nat_abs p, sizes-sum l, r.small)

    b-small : nat_abs (quarter b) ≤ 2 ^ 40
    b-small = omega (arith, abs-quarter b, ap nat_abs q, sizes-sum (take t.count ws), weights-small)

    pub sum-fits : SFits w64 (t.offset +ℤ half a)
    sum-fits = fits-abs w64 _ (omega (arith, abs-add t.offset (half a), a_small, r.small))

    pub all-fits : SFits w64 (t.offset +ℤ half a +ℤ quarter b)
    all-fits = fits-abs w64 _ (omega (arith, abs-add t.offset (half a), abs-add (t.offset +ℤ half a) (quarter b), a_small, b-small, r.small))

    pub offset-is : t.offset +ℤ half a +ℤ quarter b ≡ t.offset +ℤ half (sum l) +ℤ quarter (sum (take t.count ws))
    offset-is = ap₂ (λ (x y : ℤ). t.offset +ℤ half x +ℤ quarter y) p q

pub all-turned : (o o' : ℤ) (l l₁ l₂ : List ℤ) (h h₂ r f ks : List ℕ) (ws ws' : List ℤ) (n : ℕ) → length ws ≡ length ks → n ≤ length ks
    → o' ≡ o +ℤ half (sum l) +ℤ quarter (sum (take n ws)) → l₁ ≡ map half l
    → zip ks ws' ≡ over (quarters (take n (zip ks ws))) n (zip ks ws)
    → ((z : Model) → with_linear l₂ h₂ z ≡ ends (quarters (take n (zip ks ws))) (with_linear l₁ h z))
    → tables o' l₂ h₂ r f ks ws' n ≡ hold (ising (model_of (tables o l h r f ks ws n))) (tables o l h r f ks ws n)
unfolding ising
all-turned o o' l l₁ l₂ h h₂ r f ks ws ws' n even fits eo el et step =
    parts ∙ ap (λ (m : Model). hold m (tables o l h r f ks ws n)) (step M ∙ ap (λ (a : List ℤ). ends (quarters (take n (zip ks ws))) (with_linear a h M)) el)
  where
    M : Model
    M = turned (model_of (tables o l h r f ks ws n))

    off : o' ≡ M.offset
    off = eo ∙ ap (λ (x : List ℤ). o +ℤ half (sum l) +ℤ quarter (sum x)) (sym (weights-used ks ws n even fits))

    count : n ≡ length (quarters (take n (zip ks ws)))
    count = sym (length-quarters (take n (zip ks ws)) ∙ length-take-le n (zip ks ws) (omega (arith, length-zip ks ws even)))

    parts : tables o' l₂ h₂ r f ks ws' n ≡ hold (with_linear l₂ h₂ M) (tables o l h r f ks ws n)
    parts i = record { offset = off i; linear = l₂; has_linear = h₂; has_row = r; fixed = f; entries = et i; count = count i }
