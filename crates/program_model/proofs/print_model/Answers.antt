-- `program_model::print_model` is safe: a text that was printed lies within the buffer, as the contract of `dump_fresh` has it.
use Rattle.std.proofs.Common.{sym, length-take-le}
use Rattle.text_left.specs.Dumped.{inside-text}
use Rattle.program_model.proofs.print_model.Goals as goal

pub slice_bounds-write_front-end : goal.slice_bounds-write_front-end
slice_bounds-write_front-end c = inside-text _ _ _ _ _ _ _ c.dump_fresh.ensures c.in-Ok.is

pub slice_bounds-write_front-end-in-Ok : goal.slice_bounds-write_front-end-in-Ok
slice_bounds-write_front-end-in-Ok c = sym (length-take-le c.in-Ok.n _ (inside-text _ _ _ _ _ _ _ c.dump_fresh.ensures c.in-Ok.is))
