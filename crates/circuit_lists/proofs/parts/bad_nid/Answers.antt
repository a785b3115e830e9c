-- `parts::bad_nid` meets its contract: it reads the record where the bad state stands.
use Rattle.std.proofs.Common.{ap, ◌∙◌, arith}
use Rattle.energy.specs.Circuit.{Bad}
use Rattle.circuit_lists.proofs.Reading.{bad-inside, bad-read}
use Rattle.circuit_lists.proofs.parts.bad_nid.Goals as goal

pub overflow_add-first : goal.overflow_add-first
overflow_add-first c = omega (arith, bad-inside c.requires.0 c.requires.1 c.requires.2)

pub overflow_add-first-2 : goal.overflow_add-first-2
overflow_add-first-2 c = omega (arith, bad-inside c.requires.0 c.requires.1 c.requires.2)

pub nid_at-requires : goal.nid_at-requires
nid_at-requires c = omega (arith, bad-inside c.requires.0 c.requires.1 c.requires.2)

pub returns : goal.returns
returns c = c.nid_at.ensures ∙ ap (λ (x : Bad). x.nid) (bad-read c.requires.0 c.requires.1 c.requires.2)
