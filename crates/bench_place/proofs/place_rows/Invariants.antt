-- `place_rows` meets its contract: the bounds that placing asks follow from what each penalty adds (`Rounds`).
use Rattle.std.proofs.Common.{[]}
use Rattle.store.specs.Tables.{tables}
use Rattle.bench_place.proofs.Rounds.{Growing}
use Rattle.bench_place.proofs.place_rows.Given as goal

abbrev pub invariant-loop-i : goal.invariant-loop-i
invariant-loop-i l = Growing (tables l.t.offset l.linear l.present l.rows [] l.keys l.weights l.t.count) l.i
