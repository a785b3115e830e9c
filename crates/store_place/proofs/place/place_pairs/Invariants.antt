-- `place::place_pairs` meets its contract: what is left to add equals what there was (`Placing`).
use Rattle.penalty.specs.Rows.{twos}
use Rattle.store_pairs.specs.Tables.{SameTables}
use Rattle.store_place.specs.Wiring.{slots_of}
use Rattle.store_place.proofs.Placing.{Logging}
use Rattle.store_place.proofs.place.place_pairs.Given as goal

abbrev pub invariant-loop-first : goal.invariant-loop-first
invariant-loop-first l =
    Logging (slots_of l.fn.w) twos l.fn.cs l.initial.linear l.initial.present l.initial.rows l.initial.pairs.keys.now l.initial.pairs.weights.now l.n l.linear l.present l.rows l.pairs.keys.now l.pairs.weights.now l.end l.first-iterator.a.a.rest.now l.first-iterator.a.b.rest.now l.first-iterator.b.rest.now
    × SameTables l.initial.pairs l.pairs
