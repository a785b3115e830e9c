-- `parts::number_names` meets its contract: cleared tables are the numbering's start.
use Rattle.std.proofs.Common.{arith}
use Rattle.qubot_fill.specs.Parts.{gates-are, list-bits-are, gates-few, list-bits-few, is-prepared, cleared-start}
use Rattle.qubot_fill.proofs.parts.number_names.Goals as goal

pub list_starts-starts-requires : goal.list_starts-starts-requires
list_starts-starts-requires c = let p = c.requires.0 in (p.sound.timely.regular, gates-are p, list-bits-are p)

pub overflow_add-from : goal.overflow_add-from
overflow_add-from c = let p = c.requires.0 in omega (arith, gates-few p, list-bits-few p)

pub number-requires : goal.number-requires
number-requires c =
    let z = c.clear_names.ensures in
    (rw c.list_starts-starts.ensures (is-prepared c.requires.0), cleared-start _ c.requires.1 z.0 z.1 z.2)
