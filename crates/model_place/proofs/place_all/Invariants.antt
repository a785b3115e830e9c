-- `model_place::place_all` meets its contract: before each turn the tables hold the log of the names so far (`Blank`).
use Rattle.std.proofs.Common.{◌≡◌, length}
use Rattle.circuit.specs.Meaning.{circuit_of}
use Rattle.numbering.specs.State.{mk}
use Rattle.model_place.specs.Blank.{Logged}
use Rattle.model_place.proofs.place_all.Given as goal

abbrev pub invariant-loop-q : goal.invariant-loop-q
invariant-loop-q l =
    Logged (circuit_of l.numbered.circuit.now) (mk l.numbered.qubits.now l.numbered.origins.now l.numbered.roles.now l.numbered.next.0) l.q l.t l.linear l.present l.rows l.keys l.weights
    × (length l.linear ≡ length l.initial.linear)
    × (length l.present ≡ length l.initial.present)
    × (length l.rows ≡ length l.initial.rows)
    × (length l.keys ≡ length l.initial.keys)
    × (length l.weights ≡ length l.initial.weights)
