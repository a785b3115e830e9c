use Rattle.std.proofs.Common.{sym, ◌∙◌, ap₂, ◌||◌}
use Rattle.circuit.specs.File.{records as records_of}
use Rattle.circuit.specs.Search.{stop, go_on, end, all_left}
use Rattle.circuit.specs.Partner.{wrong, first_wrong}
use Rattle.circuit.specs.Marks.{marks-none}
use Rattle.circuit_references.proofs.partner.first_wrong.Goals as goal

pub loop-n-init : goal.loop-n-init
unfolding first_wrong
loop-n-init c = (marks-none _, all_left (wrong c.args.c.now) (records_of c.args.c.now))

pub returns-then-gate-input : goal.returns-then-gate-input
unfolding wrong
returns-then-gate-input c = stop _ _ _ _ c.loop-n.invariant.1 c.loop-n-test.true (sym (ap₂ ◌||◌ c.wrong_gate-gate.ensures c.wrong_input-input.ensures) ∙ c.if-gate-input.true)

pub loop-n-preserved : goal.loop-n-preserved
unfolding wrong
loop-n-preserved c = (c.mark.ensures, go_on _ _ _ _ c.loop-n.invariant.1 c.loop-n-test.true (sym (ap₂ ◌||◌ c.wrong_gate-gate.ensures c.wrong_input-input.ensures) ∙ c.if-gate-input.false))

pub returns : goal.returns
returns c = end _ _ _ _ c.loop-n.invariant.1 c.loop-n-test.false
