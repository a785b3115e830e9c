-- `fix::give_one` meets its contract: times false what is given is 0, and adding 0 changes nothing (`Adding`).
use Rattle.std.proofs.Common.{pos, get_or}
use Rattle.store.proofs.Adding.{not-given}
use Rattle.store_fix.proofs.fix.give_one.Goals as goal

pub returns-else-on : goal.returns-else-on
returns-else-on c =
    let a = c.args in
    let both = not-given a.on a.at (get_or a.pairs.now.weights.now a.i (pos 0)) a.linear.now a.present.now c.if-on.false in
    record { linear_after = both.0; present_after = both.1 }
