-- What entering a value and the one pass over the pairs ask of the tables.
-- Assumes nothing: these are definitions, and the law that a model of the build meets them.
use Rattle.std.specs.Prelude.{Bool, false, ◌&&◌, List, [], ◌≡◌, ℕ, ◌+◌, ◌^◌, ◌≤◌, ◌<◌, eqb, ℤ, pos, nat_abs, length, take, get_or}
use Rattle.std.proofs.Common.{sym, ◌∙◌}
use Rattle.energy.specs.Model.{Entry, Model, Inside, low, high, sizes, mass}
use Rattle.store_pairs.specs.Store.{zip}
use Rattle.store.specs.declared.Totals.{Totals}
use Rattle.store.specs.Tables.{tables, model_of, Ready}

-- a model by its parts
abbrev pub model_by : ℤ → List ℤ → List ℕ → List ℕ → List ℕ → List Entry → Model
model_by o l h r f s = record { offset = o; linear = l; has_linear = h; has_row = r; fixed = f; pairs = s }

-- neither end of the pair is fixed
abbrev pub free_by : List ℕ → ℕ → Bool
free_by f k = eqb (get_or f (low k) 0) 0 && eqb (get_or f (high k) 0) 0

-- what entering the value of q asks
pub record MayEnter (q : ℕ) (t : Totals) (l : List ℤ) (h r f : List ℕ) : Type 0 where
  pub linear : q < length l
  pub present : q < length h
  pub row : q < length r
  pub fixed : q < length f
  pub small : nat_abs t.offset + sizes l ≤ 2 ^ 40

-- what giving a pair with a fixed end away asks
pub record Giving (f : List ℕ) (l : List ℤ) (h : List ℕ) (k : ℕ) (w : ℤ) : Type 0 where
  pub present : length h ≡ length l
  pub fixed : length f ≡ length l
  pub low-in : low k < length l
  pub high-in : high k < length l
  pub taken : free_by f k ≡ false
  pub small : sizes l + nat_abs w ≤ 2 ^ 40

-- what the turn of the pair at i asks, when the first `count` pairs are those that stay so far
pub record Turn (f : List ℕ) (l : List ℤ) (h ks : List ℕ) (ws : List ℤ) (i : ℕ) (t : Totals) : Type 0 where
  pub even : length ws ≡ length ks
  pub here : i < length ks
  pub behind : t.count ≤ i
  pub present : length h ≡ length l
  pub fixed : length f ≡ length l
  pub rises : low (get_or ks i 0) < high (get_or ks i 0)
  pub inside : high (get_or ks i 0) < length l
  pub small : mass (model_of (tables t.offset l h [] f ks ws t.count)) + nat_abs (get_or ws i (pos 0)) ≤ 2 ^ 40

-- what the whole pass asks
pub record Sifting (f : List ℕ) (l : List ℤ) (h ks : List ℕ) (ws : List ℤ) (t : Totals) : Type 0 where
  pub even : length ws ≡ length ks
  pub used : t.count ≤ length ks
  pub present : length h ≡ length l
  pub fixed : length f ≡ length l
  pub inside : Inside (length l) (take t.count (zip ks ws))
  pub small : mass (model_of (tables t.offset l h [] f ks ws t.count)) ≤ 2 ^ 40

-- a model of the build meets it
pub sifting : {n : ℕ} {l : List ℤ} {h r f ks : List ℕ} {ws : List ℤ} (t : Totals) → Ready n ks ws (tables t.offset l h r f ks ws t.count) → Sifting f l h ks ws t
unfolding mass
sifting {n} {l} {h} {r} {f} {ks} {ws} t ready =
    record {
      even = ready.even;
      used = ready.used;
      present = ready.sized.has_linear ∙ sym ready.sized.linear;
      fixed = ready.sized.fixed ∙ sym ready.sized.linear;
      inside = rw ready.sized.linear ready.sized.inside;
      small = ready.small;
    }
