-- `model_place::place_one` meets its contract.
use Rattle.model_place.proofs.OneRow.{row-placed, none-placed}
use Rattle.store.specs.Tables.{tables}
use Rattle.model_place.proofs.place_one.Goals as goal

pub place-requires : goal.place-requires
place-requires c = rw c.row.ensures (rw c.in-Some.is at c.requires)

pub returns-in-Some : goal.returns-in-Some
returns-in-Some c = let a = c.args in λ f. row-placed (tables a.t.offset a.linear.now a.present.now a.rows.now f a.keys.now a.weights.now a.t.count) c.in-Some.is c.row.ensures (c.place.ensures f)

pub returns-in-None : goal.returns-in-None
returns-in-None c =
    let a = c.args in
    let nothing = rw c.in-None.is at c.requires in
    λ f. none-placed a.t.offset a.linear.now a.present.now a.rows.now f a.keys.now a.weights.now a.t.count c.in-None.is nothing.0 nothing.1
