-- `fresh::dump_fresh` meets its contract, by what `dump_model` ensures on tables that are all 0.
use Rattle.std.proofs.Common.{ℕ, ℤ, pos, sym}
use lib.ListN.{length-replicate}
use Rattle.qubot_left.specs.Fresh.{fresh}
use Rattle.text_dump.proofs.fresh.dump_fresh.Goals as goal

pub slice_bounds-tables-end : goal.slice_bounds-tables-end
slice_bounds-tables-end c = sym (length-replicate {A = ℕ} 1000 0)

pub slice_bounds-tables-end-2 : goal.slice_bounds-tables-end-2
slice_bounds-tables-end-2 c = sym (length-replicate {A = ℕ} 3065 0)

pub slice_bounds-tables-end-3 : goal.slice_bounds-tables-end-3
slice_bounds-tables-end-3 c = sym (length-replicate {A = ℕ} 3065 0)

pub slice_bounds-tables-end-4 : goal.slice_bounds-tables-end-4
slice_bounds-tables-end-4 c = sym (length-replicate {A = ℤ} 3065 (pos 0))

pub slice_bounds-tables-end-5 : goal.slice_bounds-tables-end-5
slice_bounds-tables-end-5 c = sym (length-replicate {A = ℕ} 3065 0)

pub slice_bounds-tables-end-6 : goal.slice_bounds-tables-end-6
slice_bounds-tables-end-6 c = sym (length-replicate {A = ℕ} 3065 0)

pub slice_bounds-tables-end-7 : goal.slice_bounds-tables-end-7
slice_bounds-tables-end-7 c = sym (length-replicate {A = ℕ} 3065 0)

pub slice_bounds-tables-end-8 : goal.slice_bounds-tables-end-8
slice_bounds-tables-end-8 c = sym (length-replicate {A = ℕ} 10192 0)

pub slice_bounds-tables-end-9 : goal.slice_bounds-tables-end-9
slice_bounds-tables-end-9 c = sym (length-replicate {A = ℤ} 10192 (pos 0))

pub returns : goal.returns
unfolding fresh
returns c = λ i. (c.dump_model.ensures.left i).1
