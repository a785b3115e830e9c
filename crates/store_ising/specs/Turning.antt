-- What the code of the Ising form asks of the tables.
-- Assumes nothing: these are definitions, and the law that a model of the build meets them.
use Rattle.std.specs.Prelude.{List, ◌≡◌, ℕ, ◌+◌, ◌*◌, ◌^◌, ◌≤◌, ◌<◌, ℤ, nat_abs, length, take}
use Rattle.std.proofs.Common.{sym, ◌∙◌}
use Rattle.energy.specs.Model.{Entry, Model, Inside, low, high, join_linear, sizes, mass}
use Rattle.store_pairs.specs.Store.{zip, load}
use Rattle.store.specs.declared.Totals.{Totals}
use Rattle.store.specs.Tables.{tables, Ready}

-- an entry's number joins both of its ends
abbrev pub join_ends : Entry → Model → Model
join_ends e m = join_linear (high e.0) e.1 (join_linear (low e.0) e.1 m)

pub record Ends (l : List ℤ) (h : List ℕ) (k : ℕ) (c : ℤ) : Type 0 where
  pub present : length h ≡ length l
  pub low-in : low k < length l
  pub high-in : high k < length l
  pub small : sizes l + 2 * nat_abs c ≤ 2 ^ 41

pub record Quartering (ks : List ℕ) (ws : List ℤ) (n : ℕ) (l : List ℤ) (h : List ℕ) : Type 0 where
  pub even : length ws ≡ length ks
  pub used : n ≤ length ks
  pub present : length h ≡ length l
  pub inside : Inside (length l) (take n (zip ks ws))
  pub small : sizes l + load (take n (zip ks ws)) ≤ 2 ^ 40

pub record Turning (l : List ℤ) (h ks : List ℕ) (ws : List ℤ) (t : Totals) : Type 0 where
  pub even : length ws ≡ length ks
  pub used : t.count ≤ length ks
  pub present : length h ≡ length l
  pub inside : Inside (length l) (take t.count (zip ks ws))
  pub small : nat_abs t.offset + sizes l + load (take t.count (zip ks ws)) ≤ 2 ^ 40

-- a model of the build meets them
pub turning : {n : ℕ} {l : List ℤ} {h r f ks : List ℕ} {ws : List ℤ} (t : Totals) → Ready n ks ws (tables t.offset l h r f ks ws t.count) → Turning l h ks ws t
unfolding mass
turning {n} {l} {h} {r} {f} {ks} {ws} t ready =
    record {
      even = ready.even;
      used = ready.used;
      present = ready.sized.has_linear ∙ sym ready.sized.linear;
      inside = rw ready.sized.linear ready.sized.inside;
      small = ready.small;
    }
