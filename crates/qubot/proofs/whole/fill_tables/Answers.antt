-- `whole::fill_tables` meets its contract: the parts that are lent have exactly the lengths of 7, and go back into their tables (`Parts`).
use Rattle.std.proofs.Common.{ap, ◌∙◌}
use Rattle.qubot_left.specs.Built.{lent, in_tables}
use Rattle.qubot_left.specs.Lent.{lent_in}
use Rattle.qubot_left.specs.Parts.{name-parts, model-parts, fitted}
use Rattle.qubot.proofs.whole.fill_tables.Goals as goal

pub fill-requires : goal.fill-requires
fill-requires c =
    let t = lent_in c.args.tables.now in
    (c.requires.0, name-parts c.requires.0 {t = t} c.requires.1, model-parts c.requires.0 {t = t} c.requires.1)

pub returns-clause-left : goal.returns-clause-left
returns-clause-left c =
    let t = lent_in c.args.tables.now in
    fitted {k = c.args.k} t c.requires.1 (lent c.fill.new.qubits c.fill.new.origins c.fill.new.roles c.fill.new.linear c.fill.new.present c.fill.new.rows c.fill.new.fixed c.fill.new.keys c.fill.new.weights) c.fill.result c.fill.auto.qubits c.fill.auto.origins c.fill.auto.roles c.fill.auto.linear c.fill.auto.present c.fill.auto.rows c.fill.auto.fixed c.fill.auto.keys c.fill.auto.weights
    ∙ ap (in_tables t) c.fill.ensures
