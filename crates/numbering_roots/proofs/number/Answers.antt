-- `numbering_roots::number` meets its contract, by what `visit_roots` and `name_joins` ensure. Assumes nothing.
use Rattle.laws.specs.Handed.{handed_on}
use Rattle.std.proofs.Common.{sym, arith}
use Rattle.numbering.specs.State.{same-then}
use Rattle.numbering_roots.proofs.Rooting.{back, back-refused, roots-asked, number-refused, joins-asked, number-all}
use Rattle.numbering_roots.proofs.number.Goals as goal

pub visit_roots-requires : goal.visit_roots-requires
visit_roots-requires c = roots-asked c.requires.0 c.requires.1 c.first_new-first.ensures

pub name_joins-requires : goal.name_joins-requires
name_joins-requires c = joins-asked c.requires.0 c.requires.1 c.first_new-first.ensures c.in_ok-visit_roots.ensures.outcome

pub returns-in_err-visit_roots : goal.returns-in_err-visit_roots
returns-in_err-visit_roots c =
    let s = c.in_err-visit_roots.ensures.same in
    rw (handed_on _ c.from_residual.ensures.1)
    (back-refused (grind (arith, sym s.qubits)) (grind (arith, sym s.origins)) (grind (arith, sym s.roles))
    (number-refused c.requires.0 c.requires.1 c.first_new-first.ensures c.in_err-visit_roots.ensures.outcome))

pub returns : goal.returns
returns c =
    let s = same-then c.in_ok-visit_roots.ensures.same c.name_joins.ensures.same in
    back (grind (arith, sym s.qubits)) (grind (arith, sym s.origins)) (grind (arith, sym s.roles))
    (number-all c.requires.0 c.requires.1 c.first_new-first.ensures c.in_ok-visit_roots.ensures.outcome c.name_joins.ensures.tables)
