-- `append` meets its contract: an entry is written.
use Rattle.std.proofs.Common.{to_z-of_z, ◌∙◌}
use Rattle.store_pairs.proofs.Tables.{entry-written}
use Rattle.store_pairs.proofs.Pairs.append.Goals as goal

pub returns-clause-entries : goal.returns-clause-entries
returns-clause-entries c =
    let s = c.args.self.now in
    (rw (to_z-of_z c.ranges.w) at c.set.ensures.entries) ∙ entry-written s.keys.now s.weights.now c.args.n (c.args.key, c.args.w) s.even c.requires
