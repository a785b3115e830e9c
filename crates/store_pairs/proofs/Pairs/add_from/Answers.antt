use Rattle.std.proofs.Common.{◌∙◌, ap, rules}
use Rattle.store_pairs.specs.Store.{zip}
use Rattle.store_pairs.proofs.Tables.{zip-weight}
use Rattle.store_pairs.proofs.Entries.{entry-at}
use Rattle.store_pairs.proofs.Pairs.add_from.Goals as goal

pub returns-clause-entries : goal.returns-clause-entries
returns-clause-entries c =
    let s = c.args.self.now in
    rw (entry-at s c.args.at, entry-at s c.args.from)
    (ap (zip s.keys.now) (search rules) ∙ zip-weight s.keys.now s.weights.now c.args.at _)
