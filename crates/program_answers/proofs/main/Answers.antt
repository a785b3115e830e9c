-- `program_answers::main` is safe: the output is long enough. The lengths are cited, so that no list of so many bytes is computed.
use Rattle.std.proofs.Common.{ℕ, ◌≤◌, arith, sym}
use lib.ListN.{length-replicate}
use mathlib.Core.Path.{subst⁻¹}
use Rattle.program_answers.proofs.main.Goals as goal

pub slice_bounds-answer_all-end : goal.slice_bounds-answer_all-end
slice_bounds-answer_all-end c = sym (length-replicate {A = ℕ} 626936 0)

pub slice_bounds-answer_all-end-2 : goal.slice_bounds-answer_all-end-2
slice_bounds-answer_all-end-2 c = sym (length-replicate {A = ℕ} 300000 0)

pub answer_all-requires : goal.answer_all-requires
answer_all-requires c = subst⁻¹ (λ (n : ℕ). 7837 ≤ n) (length-replicate {A = ℕ} 300000 0) (omega arith)
