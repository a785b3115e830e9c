-- `run_left::run_left` meets its contract: the counts and the starts are those of the file.
use Rattle.qubot_left.specs.Parts.{gates-are, list-bits-are}
use Rattle.run_left.specs.Left.{passed}
use Rattle.run_left.proofs.run_left.Goals as goal

pub list_starts-starts-requires : goal.list_starts-starts-requires
list_starts-starts-requires c =
    let l = c.requires in
    let p = passed l c.counts_of-k.result c.counts_of-k.ensures in
    (l.sound.timely.regular, gates-are p, list-bits-are p)
