-- `run_give::give_all` meets its contract.
use Rattle.std.proofs.Common.{to_z-of_z, w64, rules}
use Rattle.run_values.proofs.Exits.{returned}
use Rattle.run_give.proofs.Given.{all-on, all-stop, all_end}
use Rattle.run_give.proofs.give_all.Goals as goal

pub returns-in_err-give_bits : goal.returns-in_err-give_bits
returns-in_err-give_bits c =
    returned c.from_residual.result _ c.from_residual.ensures.1 (all-stop c.loop-i.invariant c.loop-i-test.true c.part_of.ensures (to_z-of_z {w = w64} (search rules)) c.in_err-give_bits.ensures)

pub loop-i-preserved : goal.loop-i-preserved
loop-i-preserved c = all-on c.loop-i.invariant c.loop-i-test.true c.part_of.ensures (to_z-of_z {w = w64} (search rules)) c.in_ok-give_bits.ensures c.give_bits.auto.values

pub returns : goal.returns
returns c = all_end c.loop-i.invariant c.loop-i-test.false
