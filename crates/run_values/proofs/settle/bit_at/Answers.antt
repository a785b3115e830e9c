-- `run_values::settle::bit_at` meets its contract.
use Rattle.std.proofs.Common.{le-ltb, ◌∙◌}
use Rattle.run_values.proofs.Numbers.{no-bit}
use Rattle.run_values.proofs.settle.bit_at.Goals as goal

pub returns-else-index-lt64 : goal.returns-else-index-lt64
returns-else-index-lt64 c = le-ltb _ _ c.if-index-lt64.false ∙ no-bit c.args.n c.args.index c.ranges.n.fits c.if-index-lt64.false
