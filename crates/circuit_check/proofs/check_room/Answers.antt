-- `circuit_check::check_room` meets its contract, by its two tests.
use Rattle.std.proofs.Common.{sym, ◌∙◌}
use Rattle.circuit_check.proofs.Checks.{no-bad, room-short, room-enough}
use Rattle.circuit_check.proofs.check_room.Goals as goal

pub returns-then-k-eq0 : goal.returns-then-k-eq0
returns-then-k-eq0 c = no-bad _ _ _ _ c.if-k-eq0.true

pub returns-then-no_room : goal.returns-then-no_room
returns-then-no_room c = room-short _ _ _ _ c.if-k-eq0.false (sym c.no_room.ensures ∙ c.if-no_room.true)

pub returns : goal.returns
returns c = room-enough _ _ _ _ c.if-k-eq0.false (sym c.no_room.ensures ∙ c.if-no_room.false)
