-- What placing asks of the tables, and how far the log grows: a gate's penalty has at most 10 pairs and an Or 3, which is 01's bound 10G+3B on the pair tables.
-- Assumes nothing.
use Rattle.std.specs.Prelude.{Bool, cond, List, [], ◌∷◌, ◌≡◌, refl, ℕ, zero, suc, ◌+◌, ◌^◌, ◌≤◌, ◌<◌, T, leb, ℤ, pos, negsuc, nat_abs, length, take, drop, get_or}
use Rattle.std.proofs.Common.{sym, ap, ◌∙◌, arith, leb→le, ne_eqb}
use Rattle.penalty.specs.declared.Kind.{Kind}
use Rattle.penalty.specs.declared.Kind.TheVariants.{Or}
use Rattle.penalty.specs.declared.Penalty.{Penalty}
use Rattle.penalty.specs.Rows.{Slot, rows, row_of}
use Rattle.penalty.specs.Every.{every_kind, kind_at}
use Rattle.energy.specs.Model.{Entry, is_zero, halves, sizes}
use Rattle.energy.specs.Mass.{Few}
use Rattle.store_pairs.specs.Store.{load, zip}
use Rattle.store.specs.declared.Totals.{Totals}

-- how many of these coefficients are not 0
abbrev pub filled_by : ℤ → ℕ
filled_by c = cond (is_zero c) 0 1

abbrev pub filled : List ℤ → ℕ
filled [] = 0
filled (c ∷ cs) = filled_by c + filled cs

-- a number of halves is 0 where the whole number is
pub filled-halves : (c : ℤ) → filled_by (halves c) ≡ filled_by c
filled-halves (pos zero) = refl
filled-halves (pos (suc n)) = ap (λ (b : Bool). cond b 0 1) (ne_eqb (suc n + suc n) 0 (λ e. omega arith) ∙ sym (ne_eqb (suc n) 0 (λ e. omega arith)))
filled-halves (negsuc n) = refl

-- the log has grown by at most k, and what stands after it stays
pub record Longer (n r k : ℕ) (T T' : List Entry) : Type 0 where
  pub grows : n ≤ r
  pub most : r ≤ n + k
  pub rest : drop r T' ≡ drop r T

-- ---- what each step of placing asks

pub record Pairing (l : List ℤ) (h r ks : List ℕ) (ws : List ℤ) (n p q : ℕ) (c : ℤ) : Type 0 where
  pub present : length h ≡ length l
  pub rows : length r ≡ length l
  pub even : length ws ≡ length ks
  pub first : p < length l
  pub second : q < length l
  pub room : n + filled_by c ≤ length ks
  pub small : sizes l + nat_abs c ≤ 2 ^ 41

pub record Singles (l : List ℤ) (h : List ℕ) (at : Slot → ℕ) (cs : List ℤ) : Type 0 where
  pub present : length h ≡ length l
  pub wired : (s : Slot) → at s < length l
  pub few : (i : ℕ) → nat_abs (get_or cs i (pos 0)) ≤ 6
  pub small : sizes l ≤ 2 ^ 40

pub record Twos (l : List ℤ) (h r ks : List ℕ) (ws : List ℤ) (n : ℕ) (at : Slot → ℕ) (cs : List ℤ) : Type 0 where
  pub present : length h ≡ length l
  pub rows : length r ≡ length l
  pub even : length ws ≡ length ks
  pub wired : (s : Slot) → at s < length l
  pub few : (i : ℕ) → nat_abs (get_or cs i (pos 0)) ≤ 6
  pub room : n + filled cs ≤ length ks
  pub small : sizes l ≤ 2 ^ 40 + 72

-- the qubits are in the tables, the log has room for the penalty's pairs, its coefficients are small, and so are those of the tables
pub record Placing (l : List ℤ) (h r ks : List ℕ) (ws : List ℤ) (t : Totals) (at : Slot → ℕ) (p : Penalty) : Type 0 where
  pub present : length h ≡ length l
  pub rows : length r ≡ length l
  pub even : length ws ≡ length ks
  pub wired : (s : Slot) → at s < length l
  pub few : Few p
  pub room : t.count + filled p.pairs ≤ length ks
  pub offset : nat_abs t.offset ≤ 2 ^ 40
  pub small : sizes l ≤ 2 ^ 40

pub record Settling (ks : List ℕ) (ws : List ℤ) (sk : List ℕ) (sw : List ℤ) (t : Totals) : Type 0 where
  pub even : length ws ≡ length ks
  pub scratch-keys : length sk ≡ length ks
  pub scratch-weights : length sw ≡ length ks
  pub used : t.count ≤ length ks
  pub small : load (take t.count (zip ks ws)) ≤ 2 ^ 40

-- what settling asks
pub record Settleable (ks : List ℕ) (ws : List ℤ) (t : Totals) : Type 0 where
  pub even : length ws ≡ length ks
  pub most : length ks ≤ 10192
  pub used : t.count ≤ length ks
  pub small : load (take t.count (zip ks ws)) ≤ 2 ^ 40

-- ---- how far the log grows: one computed test of the table's rows

within : Kind → Bool
unfolding rows
within kind = leb (filled (row_of kind).pairs) 10

tested : T (every_kind within)
unfolding within row_of
tested = tt

-- a gate's penalty has at most 10 pairs
pub filled_row : (kind : Kind) → filled (row_of kind).pairs ≤ 10
unfolding within
filled_row kind = leb→le (filled (row_of kind).pairs) 10 (kind_at within tested kind)

-- and an Or, of which the joins are made, 3
pub filled-or : filled (row_of Or).pairs ≤ 3
unfolding rows row_of
filled-or = leb→le 3 3 tt
