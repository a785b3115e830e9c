-- `heads::fill_values` meets its contract.
use Rattle.std.proofs.Common.{to_z-of_z, SFits, w64, ◌∙◌, arith}
use Rattle.cases.proofs.Filled.{none_filled, one_more, all_filled}
use Rattle.cases.proofs.heads.fill_values.Goals as goal

pub loop-i-init : goal.loop-i-init
loop-i-init c = none_filled _ _

pub loop-i-preserved : goal.loop-i-preserved
loop-i-preserved c =
    let fits : SFits w64 c.value_at.result = record { sfits = c.value_at.type_inv } in
    one_more _ _ _ _ _ (omega arith) c.loop-i.invariant (to_z-of_z fits ∙ c.value_at.ensures)

pub returns : goal.returns
returns c = all_filled _ _ c.loop-i.i _ (omega arith) c.loop-i.invariant
