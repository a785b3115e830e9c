use Rattle.std.proofs.Common.{sym, ◌∙◌, arith}
use Rattle.circuit.specs.File.{records as records_of}
use Rattle.circuit.specs.Search.{stop, go_on, end, all_left}
use Rattle.circuit.specs.Form.{breaks, first_broken}
use Rattle.circuit.specs.Passing.{holds-start, holds_after, breaks-by}
use Rattle.circuit_form.proofs.first_broken.Goals as goal

pub loop-n-init : goal.loop-n-init
unfolding first_broken
loop-n-init c = (holds-start c.args.c.now, all_left (breaks c.args.c.now) (records_of c.args.c.now))

pub returns-then-breaks_by : goal.returns-then-breaks_by
returns-then-breaks_by c = stop _ _ _ _ c.loop-n.invariant.1 c.loop-n-test.true (breaks-by _ _ _ c.loop-n.invariant.0 ∙ sym c.breaks_by.ensures ∙ c.if-breaks_by.true)

pub after-p-requires : goal.after-p-requires
after-p-requires c = (omega arith, sym c.breaks_by.ensures ∙ c.if-breaks_by.false)

pub loop-n-preserved : goal.loop-n-preserved
loop-n-preserved c = (rw c.after-p.ensures (holds_after _ _ _ c.loop-n.invariant.0 (sym c.breaks_by.ensures ∙ c.if-breaks_by.false)), go_on _ _ _ _ c.loop-n.invariant.1 c.loop-n-test.true (breaks-by _ _ _ c.loop-n.invariant.0 ∙ sym c.breaks_by.ensures ∙ c.if-breaks_by.false))

pub returns : goal.returns
returns c = end _ _ _ _ c.loop-n.invariant.1 c.loop-n-test.false
