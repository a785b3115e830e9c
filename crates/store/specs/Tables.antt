-- What stands in the lent tables: the model, with its pairs at the front of the pair tables.
-- Assumes nothing: these are definitions.
use Rattle.std.specs.Prelude.{◌||◌, cond, List, ◌≡◌, ℕ, ◌^◌, ◌≤◌, eqb, ℤ, pos, ◌+ℤ◌, length, take, set, get_or}
use Rattle.energy.specs.Plain.{Setting}
use Rattle.energy.specs.Model.{Entry, Model, Sized, is_zero, mass}
use Rattle.store_pairs.specs.declared.Pairs.{Pairs}
use Rattle.store_pairs.specs.Store.{zip, over}

pub record Tables : Type 0 where
  pub offset : ℤ
  pub linear : List ℤ
  pub has_linear : List ℕ
  pub has_row : List ℕ
  pub fixed : List ℕ
  -- the two pair tables, side by side
  pub entries : List Entry
  -- how many of them are in use
  pub count : ℕ

-- the tables as the code has them
abbrev pub tables : ℤ → List ℤ → List ℕ → List ℕ → List ℕ → List ℕ → List ℤ → ℕ → Tables
tables offset linear has_linear has_row fixed keys weights count =
    record { offset = offset; linear = linear; has_linear = has_linear; has_row = has_row; fixed = fixed; entries = zip keys weights; count = count }

-- the same, with the pair tables in one
abbrev pub tables_with : ℤ → List ℤ → List ℕ → List ℕ → List ℕ → Pairs → ℕ → Tables
tables_with offset linear has_linear has_row fixed pairs count = tables offset linear has_linear has_row fixed pairs.keys.now pairs.weights.now count

-- the model that they hold
abbrev pub model_of : Tables → Model
model_of t =
    record {
      offset = t.offset;
      linear = t.linear;
      has_linear = t.has_linear;
      has_row = t.has_row;
      fixed = t.fixed;
      pairs = take t.count t.entries;
    }

-- the tables with the model m in them instead: entries of the pair tables that are no longer in use are 0, and those after them stay
abbrev pub hold : Model → Tables → Tables
hold m t =
    record {
      offset = m.offset;
      linear = m.linear;
      has_linear = m.has_linear;
      has_row = m.has_row;
      fixed = m.fixed;
      entries = over m.pairs t.count t.entries;
      count = length m.pairs;
    }

-- a model with other linear tables
abbrev pub with_linear : List ℤ → List ℕ → Model → Model
with_linear l h m = record { offset = m.offset; linear = l; has_linear = h; has_row = m.has_row; fixed = m.fixed; pairs = m.pairs }

-- what each step asks of the tables: they have n qubits, the pairs in use are pairs of these, and the sum of all sizes is small
pub record Ready (n : ℕ) (keys : List ℕ) (weights : List ℤ) (t : Tables) : Type 0 where
  pub even : length weights ≡ length keys
  pub used : t.count ≤ length keys
  pub sized : Sized n (model_of t)
  pub small : mass (model_of t) ≤ 2 ^ 40

-- "Adding 0 makes no entry": a table of coefficients whose entry q gains c, and a table of marks
unfoldable pub gained : ℕ → ℤ → List ℤ → List ℤ
gained q c l = cond (is_zero c) l (set l q (get_or l q (pos 0) +ℤ c))

unfoldable pub marked : ℕ → ℤ → List ℕ → List ℕ
marked q c h = cond (is_zero c) h (set h q 1)

-- 1 where the qubit i has a linear entry or a row
abbrev pub one_at : List ℕ → List ℕ → ℕ → ℕ
one_at h r i = cond (eqb (get_or h i 0) 1 || eqb (get_or r i 0) 1) 1 0

-- the setting that a table of values holds: 1 is true
abbrev pub setting_of : List ℕ → Setting
setting_of values q = eqb (get_or values q 0) 1
