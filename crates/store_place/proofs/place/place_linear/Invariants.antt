-- `place::place_linear` meets its contract: what is left to add equals what there was (`Placing`).
use Rattle.penalty.specs.Rows.{singles}
use Rattle.store_place.specs.Wiring.{slots_of}
use Rattle.store_place.proofs.Placing.{Linears}
use Rattle.store_place.proofs.place.place_linear.Given as goal

abbrev pub invariant-loop-qubit : goal.invariant-loop-qubit
invariant-loop-qubit l =
    Linears (slots_of l.fn.w) singles l.fn.cs l.initial.linear l.initial.present l.linear l.present l.qubit-iterator.a.rest.now l.qubit-iterator.b.rest.now
