use Rattle.std.proofs.Common.{to_z-of_z}
use Rattle.store_pairs.proofs.Tables.{zip-set}
use Rattle.store_pairs.proofs.Pairs.set.Goals as goal

pub returns-clause-entries : goal.returns-clause-entries
returns-clause-entries c =
    let s = c.args.self.now in
    rw (c.set_entry.ensures.keys_after, c.set_entry.ensures.weights_after, to_z-of_z c.ranges.w) (zip-set s.keys.now s.weights.now c.args.at c.args.key c.args.w)
