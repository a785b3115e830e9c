-- One pair's turn, and one entered value, by the code's tests and stores.
-- Assumes nothing.
use mathlib.Core.Bool.{Bool, true, false, cond, ◌&&◌}
use mathlib.Core.List.{List, [], ◌∷◌, ◌++◌}
use mathlib.Core.Path.{◌≡◌, refl, sym, ap, ap₂, ◌∙◌}
use Prim.Native.Nat.{ℕ, ◌+◌, ◌^◌, ◌≤◌, ◌<◌}
use native.Mathlib.Numerals.{add-one}
use native.Mathlib.Omega.{arith}
use lib.Dec.{eqb}
use lib.IntN.{ℤ, pos, nat_abs, ◌+ℤ◌, +ℤ_idr}
use lib.ListN.{length, take, drop, set, get_or}
use lib.Seq.{take-suc-set, drop-set-lt}
use borrow.Author.Tests.{eq-eqb, ne_eqb}
use mir.Syntax.{w64}
use mir.Val.{SFits, to_z, of_z}
use mir.Facts.{to_z-of_z}
use lib.Signed.{mag}
use Rattle.laws.specs.Abs.{abs-add, fits-abs}
use Rattle.energy.specs.Model.{Entry, Model, low, high, gated, add_linear, add_offset, mass}
use Rattle.energy.specs.Mass.{sizes-at, abs-gated, offset-within}
use Rattle.energy.specs.Once.{enter, keep, sift, mass-sift}
use Rattle.store_pairs.specs.Store.{zip, none}
use Rattle.store_pairs.proofs.Tables.{length-zip, zip-at}
use Rattle.store.specs.declared.Totals.{Totals}
use Rattle.store.specs.Tables.{tables, model_of, gained, marked}
use Rattle.store.proofs.Adding.{add-linear-is}
use Rattle.store_sift.specs.Sifting.{model_by, free_by, MayEnter, Giving, Turn}

-- ---- the tests

pub free-low : (f : List ℕ) (k : ℕ) → get_or f (low k) 0 ≡ 0 → eqb (get_or f (high k) 0) 0 ≡ free_by f k
free-low f k e = rw (eq-eqb (get_or f (low k) 0) 0 e)

-- a product that goes through a local, of a weight that did
pub read_back : {r w : ℤ} (b : Bool) → mag r < 2 ^ 63 → SFits w64 w → r ≡ gated b (to_z w64 (of_z w64 w)) → to_z w64 (of_z w64 r) ≡ gated b w
read_back {r} {w} b small fits e = to_z-of_z {w = w64} (record { sfits = small }) ∙ e ∙ ap (gated b) (to_z-of_z fits)

-- ---- a pair with a fixed end

module _ {f : List ℕ} {l : List ℤ} {h : List ℕ} {k : ℕ} {w : ℤ} (g : Giving f l h k w) where
  abbrev x : ℕ
  x = get_or f (low k) 0

  abbrev y : ℕ
  y = get_or f (high k) 0

  -- what adding to a linear entry asks
  pub gift-small : (q : ℕ) (b : Bool) → nat_abs (get_or l q (pos 0)) + nat_abs (gated b w) < 2 ^ 62
  gift-small q b = omega (arith, sizes-at l q, abs-gated b w, g.small)

  module _ {l' : List ℤ} {h' : List ℕ} (o : ℤ) (rs : List ℕ) (s : List Entry) where
    gains : (q : ℕ) (c : ℤ) → l' ≡ gained q c l → h' ≡ marked q c h → model_by (o +ℤ pos 0) l' h' rs f s ≡ add_linear q c (model_by o l h rs f s)
    gains q c el eh =
        ap (λ (z : ℤ). model_by z l' h' rs f s) (+ℤ_idr o)
        ∙ ap₂ (λ (a : List ℤ) (b : List ℕ). model_by o a b rs f s) el eh
        ∙ sym (add-linear-is q c l h (model_by o l h rs f s))

    pub to_low : x ≡ 0 → l' ≡ gained (low k) (gated (eqb y 2) w) l → h' ≡ marked (low k) (gated (eqb y 2) w) h
        → model_by (o +ℤ pos 0) l' h' rs f s ≡ sift (k, w) (model_by o l h rs f s)
    unfolding sift
    to_low e el eh =
        gains (low k) (gated (eqb y 2) w) el eh
        ∙ rw (eq-eqb x 0 e, free-low f k e ∙ g.taken)

    pub to_high : (x ≡ 0 → ⊥) → y ≡ 0 → l' ≡ gained (high k) (gated (eqb x 2) w) l → h' ≡ marked (high k) (gated (eqb x 2) w) h
        → model_by (o +ℤ pos 0) l' h' rs f s ≡ sift (k, w) (model_by o l h rs f s)
    unfolding sift
    to_high n e el eh = gains (high k) (gated (eqb x 2) w) el eh ∙ rw (ne_eqb x 0 n, eq-eqb y 0 e)

  pub to-offset : (x ≡ 0 → ⊥) → (y ≡ 0 → ⊥) → (c : ℤ) → c ≡ gated (eqb x 2) (gated (eqb y 2) w)
      → (o : ℤ) (rs : List ℕ) (s : List Entry) → model_by (o +ℤ c) l h rs f s ≡ sift (k, w) (model_by o l h rs f s)
  unfolding sift
  to-offset n m c e o rs s = ap (λ (z : ℤ). model_by (o +ℤ z) l h rs f s) e ∙ rw (ne_eqb x 0 n, ne_eqb y 0 m)

-- ---- an entered value

module _ {q : ℕ} {t : Totals} {l : List ℤ} {h r f : List ℕ} (e : MayEnter q t l h r f) (on : Bool) where
  pub enter-small : nat_abs (t.offset +ℤ gated on (get_or l q (pos 0))) ≤ 2 ^ 40
  enter-small =
      let c : ℤ = get_or l q (pos 0) in
      omega (arith, abs-add t.offset (gated on c), abs-gated on c, sizes-at l q, e.small)

  pub offset-fits : SFits w64 t.offset
  offset-fits = fits-abs w64 _ (omega (arith, e.small))

  pub enter-fits : {g : ℤ} → g ≡ gated on (get_or l q (pos 0)) → SFits w64 (t.offset +ℤ g)
  enter-fits {g} eg = fits-abs w64 _ (omega (arith, enter-small, ap (λ (z : ℤ). nat_abs (t.offset +ℤ z)) eg))

  pub entered : (g o : ℤ) {l' : List ℤ} {h' r' f' : List ℕ} → g ≡ gated on (get_or l q (pos 0)) → o ≡ t.offset +ℤ g → l' ≡ set l q (pos 0) → h' ≡ set h q 0 → r' ≡ set r q 0 → f' ≡ set f q (cond on 2 1)
      → (s : List Entry) → model_by o l' h' r' f' s ≡ enter q on (model_by t.offset l h r f s)
  entered g o eg eo el eh er ef s i =
      record { offset = (eo ∙ ap (λ (z : ℤ). t.offset +ℤ z) eg) i; linear = el i; has_linear = eh i; has_row = er i; fixed = ef i; pairs = s }

-- ---- a pair's turn

sift-keep : (f : List ℕ) (k : ℕ) (w : ℤ) → free_by f k ≡ true → (o : ℤ) (l : List ℤ) (h rs : List ℕ) (s : List Entry)
    → keep (k, w) (model_by o l h rs f s) ≡ sift (k, w) (model_by o l h rs f s)
unfolding sift
sift-keep f k w e o l h rs s = go (eqb (get_or f (low k) 0) 0) (eqb (get_or f (high k) 0) 0) e
  where
    m : Model
    m = model_by o l h rs f s

    go : (a b : Bool) → (a && b) ≡ true
        → keep (k, w) m
        ≡ cond a (cond b (keep (k, w) m) (add_linear (low k) (gated (eqb (get_or f (high k) 0) 2) w) m))
        (cond b (add_linear (high k) (gated (eqb (get_or f (low k) 0) 2) w) m) (add_offset (gated (eqb (get_or f (low k) 0) 2) (gated (eqb (get_or f (high k) 0) 2) w)) m))
    go true true e = refl
    go true false e = let z : ◌≡◌ {A = ℕ} 0 1 = cc in absurd (omega arith)
    go false b e = let z : ◌≡◌ {A = ℕ} 0 1 = cc in absurd (omega arith)

module _ {f : List ℕ} {l : List ℤ} {h ks : List ℕ} {ws : List ℤ} {i : ℕ} {t : Totals} (turn : Turn f l h ks ws i t) where
  abbrev k : ℕ
  k = get_or ks i 0

  abbrev w : ℤ
  w = get_or ws i (pos 0)

  -- it stays
  module _ (ks' : List ℕ) (ws' : List ℤ) (copied : zip ks' ws' ≡ set (zip ks ws) t.count (get_or (zip ks ws) i none)) where
    written : zip ks' ws' ≡ set (zip ks ws) t.count (k, w)
    written =
        copied ∙ ap (set (zip ks ws) t.count) (zip-at ks ws i turn.even)

    pub behind-stays : drop (i + 1) (zip ks' ws') ≡ drop (i + 1) (zip ks ws)
    behind-stays = ap (drop (i + 1)) written ∙ drop-set-lt (i + 1) (zip ks ws) t.count (k, w) (omega (arith, turn.behind))

    pub stays : free_by f k ≡ true → (o : ℤ) → o ≡ t.offset → (rs : List ℕ)
        → model_of (tables o l h rs f ks' ws' (t.count + 1)) ≡ sift (k, w) (model_of (tables t.offset l h rs f ks ws t.count))
    stays free o eo rs =
        let room : t.count < length (zip ks ws) = omega (arith, turn.behind, turn.here, length-zip ks ws turn.even) in
        let more : take (t.count + 1) (zip ks' ws') ≡ take t.count (zip ks ws) ++ (k, w) ∷ [] =
        ap (take (t.count + 1)) written ∙ rw add-one (take-suc-set (zip ks ws) t.count (k, w) room) in
        ap₂ (λ (o : ℤ) (s : List Entry). model_by o l h rs f s) eo more
        ∙ sift-keep f k w free t.offset l h rs (take t.count (zip ks ws))

  -- it is given away
  pub giving : free_by f k ≡ false → (c : ℤ) → c ≡ w → Giving f l h k c
  unfolding mass
  giving taken c e =
      record {
        present = turn.present;
        fixed = turn.fixed;
        low-in = omega (arith, turn.rises, turn.inside);
        high-in = turn.inside;
        taken = taken;
        small = omega (arith, turn.small, ap nat_abs e);
      }

  module _ {l' : List ℤ} {h' : List ℕ} {g c : ℤ} (e : c ≡ w)
      (given : (o : ℤ) (rs : List ℕ) (s : List Entry) → model_by (o +ℤ g) l' h' rs f s ≡ sift (k, c) (model_by o l h rs f s)) where
    pub goes : (o : ℤ) → o ≡ t.offset +ℤ g → (rs : List ℕ)
        → model_of (tables o l' h' rs f ks ws t.count) ≡ sift (k, w) (model_of (tables t.offset l h rs f ks ws t.count))
    goes o eo rs =
        ap (λ (o : ℤ). model_by o l' h' rs f (take t.count (zip ks ws))) eo
        ∙ given t.offset rs (take t.count (zip ks ws))
        ∙ ap (λ (c : ℤ). sift (k, c) (model_of (tables t.offset l h rs f ks ws t.count))) e

    pub sum-small : nat_abs (t.offset +ℤ g) ≤ 2 ^ 40
    sum-small =
        let m : Model = model_of (tables t.offset l h [] f ks ws t.count) in
        omega (arith, ap (λ (z : Model). nat_abs z.offset) (goes (t.offset +ℤ g) refl []), offset-within (sift (k, w) m), mass-sift (k, w) m, turn.small)

  pub offset-small : nat_abs t.offset ≤ 2 ^ 40
  offset-small = omega (arith, offset-within (model_of (tables t.offset l h [] f ks ws t.count)), turn.small)
