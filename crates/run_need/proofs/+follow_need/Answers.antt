-- The goals of the cycle of calls {follow, need}: each is a lemma of `proofs/Cycle.antt`.
-- Assumes nothing.
use Rattle.std.proofs.Common.{arith, ◌∙◌}
use Rattle.run_values.proofs.Exits.{returned}
use Rattle.run_need.proofs.Cycle.{lists, parts, left, none_left, operand, settles, going-asked, going_on, going-stop, going_end, had, was-fixed, by-rule}
use Rattle.run_need.proofs.+follow_need.Goals as goal

pub follow-operands_of-o-requires : goal.follow-operands_of-o-requires
follow-operands_of-o-requires t c = lists c.requires c.rule_at-rule.ensures

pub follow-need-requires : goal.follow-need-requires
follow-need-requires t c =
    going-asked c.loop-i.invariant (left c.requires c.rule_at-rule.ensures c.operands_of-o.ensures c.count_of-i-end.ensures c.loop-i-test.true)
    (operand c.requires c.rule_at-rule.ensures c.operands_of-o.ensures c.loop-i.i c.operand_at.ensures)
    c.decreases

pub follow-returns-in_err-need : goal.follow-returns-in_err-need
follow-returns-in_err-need t c =
    returned c.from_residual.result _ c.from_residual.ensures.1
    (going-stop c.loop-i.invariant (left c.requires c.rule_at-rule.ensures c.operands_of-o.ensures c.count_of-i-end.ensures c.loop-i-test.true)
    (operand c.requires c.rule_at-rule.ensures c.operands_of-o.ensures c.loop-i.i c.operand_at.ensures)
    c.in_err-need.ensures)

pub follow-loop-i-preserved : goal.follow-loop-i-preserved
follow-loop-i-preserved t c =
    going_on c.loop-i.invariant (left c.requires c.rule_at-rule.ensures c.operands_of-o.ensures c.count_of-i-end.ensures c.loop-i-test.true)
    (operand c.requires c.rule_at-rule.ensures c.operands_of-o.ensures c.loop-i.i c.operand_at.ensures)
    c.in_ok-need.ensures
    c.need.auto.values

pub follow-settle-requires : goal.follow-settle-requires
follow-settle-requires t c =
    (parts c.requires c.rule_at-rule.ensures c.operands_of-o.ensures, omega (arith, c.requires.name, c.requires.values, c.loop-i.invariant.long))

pub follow-returns : goal.follow-returns
follow-returns t c =
    c.settle.ensures
    ∙ settles c.requires c.rule_at-rule.ensures c.operands_of-o.ensures c.loop-i.values
    ∙ going_end c.loop-i.invariant (none_left c.requires c.rule_at-rule.ensures c.operands_of-o.ensures c.count_of-i-end.ensures c.loop-i-test.false)

pub need-returns-then-f-eq0 : goal.need-returns-then-f-eq0
need-returns-then-f-eq0 t c = by-rule c.requires c.from-at.ensures c.if-v-eq2.true c.if-f-eq0.true c.follow.ensures

pub need-returns-else-f-eq0 : goal.need-returns-else-f-eq0
need-returns-else-f-eq0 t c = was-fixed c.requires c.from-at.ensures c.if-v-eq2.true c.if-f-eq0.false c.fixed_byte.ensures

pub need-returns-else-v-eq2 : goal.need-returns-else-v-eq2
need-returns-else-v-eq2 t c = had c.requires c.from-at.ensures c.if-v-eq2.false
