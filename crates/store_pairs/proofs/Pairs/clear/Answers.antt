-- `clear` meets its contract: what it writes, side by side, is in `Filling`.
use Rattle.store_pairs.proofs.Filling.{cleared}
use Rattle.store_pairs.proofs.Pairs.clear.Goals as goal

pub returns-clause-entries : goal.returns-clause-entries
returns-clause-entries c =
    let a = c.args in
    let s = a.self.now in
    cleared s.keys.now s.weights.now a.from a.to _ _ (s.even, c.requires.0, c.requires.1) (c.fill.ensures.after (λ y h. h)) (c.fill-2.ensures.after (λ y h. h))
