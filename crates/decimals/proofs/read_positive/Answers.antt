-- `decimals::read_positive` meets its contract: a number up to 2^63 - 1 is an i64.
use Rattle.std.proofs.Common.{Some, sym, ap, ◌∙◌, ◌-◌, ◌^◌, arith, w64}
use mir.Facts.{to_z_pos}
use Rattle.decimals.specs.Upto.{told-bound, positive-is, positive-none}
use Rattle.decimals.proofs.read_positive.Goals as goal

pub returns-in_err-n : goal.returns-in_err-n
returns-in_err-n c = c.from_residual.ensures ∙ positive-none _ (sym c.in_err-n.ensures)

pub overflow_cast-result : goal.overflow_cast-result
overflow_cast-result c = record { sfits = omega (arith, told-bound (2 ^ 63 - 1) _ _ (sym c.in_ok-n.ensures)) }

pub returns : goal.returns
returns c = ap Some (to_z_pos w64 (omega (arith, told-bound (2 ^ 63 - 1) _ _ (sym c.in_ok-n.ensures)))) ∙ positive-is _ _ (sym c.in_ok-n.ensures)
