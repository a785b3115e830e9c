use Rattle.std.proofs.Common.{sym, ◌∙◌}
use Rattle.circuit.specs.File.{records as records_of}
use Rattle.circuit.specs.Search.{stop, go_on, end, all_left}
use Rattle.circuit.specs.Earlier.{late, first_late}
use Rattle.circuit_references.proofs.earlier.first_late.Goals as goal

pub loop-n-init : goal.loop-n-init
unfolding first_late
loop-n-init c = all_left (late c.args.c.now) (records_of c.args.c.now)

pub returns-then-is_late : goal.returns-then-is_late
returns-then-is_late c = stop _ _ _ _ c.loop-n.invariant c.loop-n-test.true (sym c.is_late.ensures ∙ c.if-is_late.true)

pub loop-n-preserved : goal.loop-n-preserved
loop-n-preserved c = go_on _ _ _ _ c.loop-n.invariant c.loop-n-test.true (sym c.is_late.ensures ∙ c.if-is_late.false)

pub returns : goal.returns
returns c = end _ _ _ _ c.loop-n.invariant c.loop-n-test.false
