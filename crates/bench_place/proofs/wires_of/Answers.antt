-- `wires_of` meets its contract: each name is below 3,065.
use Rattle.std.proofs.Common.{◌<◌}
use Rattle.penalty.specs.Rows.{Slot, in₁, in₂, in₃, res, aux, car}
use Rattle.store_place.specs.declared.Wires.{Wires}
use Rattle.store_place.specs.Wiring.{slots_of}
use Rattle.bench_place.proofs.wires_of.Goals as goal

all-below : (w : Wires) → w.x1.0 < 3065 → w.x2.0 < 3065 → w.x3.0 < 3065 → w.z.0 < 3065 → w.a.0 < 3065 → w.k.0 < 3065 → (s : Slot) → slots_of w s < 3065
all-below w a b c d e f in₁ = a
all-below w a b c d e f in₂ = b
all-below w a b c d e f in₃ = c
all-below w a b c d e f res = d
all-below w a b c d e f aux = e
all-below w a b c d e f car = f

pub returns : goal.returns
returns c = all-below _ c.name.ensures c.name-2.ensures c.name-3.ensures c.name-4.ensures c.name-5.ensures c.name-6.ensures
