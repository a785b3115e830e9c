use Rattle.std.proofs.Common.{arith, refl, length-set}
use Rattle.numbering.specs.State.{same-start, same-then}
use Rattle.numbering_roots.proofs.Rooting.{joining-start, joining-on, joining-end}
use Rattle.numbering_roots.proofs.name_joins.Goals as goal

pub loop-j-init : goal.loop-j-init
loop-j-init c = (joining-start _ _, same-start)

pub loop-j-preserved : goal.loop-j-preserved
loop-j-preserved c = (
  joining-on c.loop-j-test.true c.loop-j.invariant.0,
  same-then c.loop-j.invariant.1
      (record { qubits = refl; origins = refl; roles = refl; qubits_long = refl; origins_long = length-set _ _ _; roles_long = length-set _ _ _ }),
)

pub returns : goal.returns
returns c = record { tables = joining-end c.loop-j-test.false c.loop-j.invariant.0; same = c.loop-j.invariant.1 }

pub returns-2 : goal.returns-2
returns-2 c = record {
  tables = joining-end (omega (arith, c.loop-j.auto.j-end, c.loop-j-test.true)) (joining-on c.loop-j-test.true c.loop-j.invariant.0);
  same = same-then c.loop-j.invariant.1
      (record { qubits = refl; origins = refl; roles = refl; qubits_long = refl; origins_long = length-set _ _ _; roles_long = length-set _ _ _ });
}
