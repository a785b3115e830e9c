use Rattle.std.proofs.Common.{arith}
use Rattle.numbering.specs.State.{same-start, same-then}
use Rattle.numbering_roots.proofs.Rooting.{rooting-start, root-inside, root-refused, root-on, root-end}
use Rattle.numbering_roots.proofs.visit_roots.Goals as goal

pub loop-n-init : goal.loop-n-init
loop-n-init c = (rooting-start _ c.requires.0 c.requires.3, same-start)

pub bounds-naming-gate : goal.bounds-naming-gate
bounds-naming-gate c = omega (arith, root-inside c.loop-n-test.true c.loop-n.invariant.0 c.field_at.ensures, c.loop-n.invariant.0.ready.inv.gates)

pub returns-then-q-ne0 : goal.returns-then-q-ne0
returns-then-q-ne0 c = record {
  outcome = root-refused c.loop-n-test.true c.loop-n.invariant.0 c.field_at.ensures c.if-q-ne0.true;
  same = c.loop-n.invariant.1;
}

pub visit-requires : goal.visit-requires
visit-requires c = (c.loop-n.invariant.0.ready, root-inside c.loop-n-test.true c.loop-n.invariant.0 c.field_at.ensures)

pub loop-n-preserved : goal.loop-n-preserved
loop-n-preserved c =
    let v = c.visit.ensures in
    (root-on c.loop-n-test.true c.loop-n.invariant.0 c.field_at.ensures c.if-q-ne0.false v.answer.tables, same-then c.loop-n.invariant.1 v.same)

pub returns : goal.returns
returns c = record { outcome = root-end c.loop-n-test.false c.loop-n.invariant.0; same = c.loop-n.invariant.1 }
