-- the nearest float of the count, times 0.5, is what the definition says
use Rattle.std.proofs.Common.{ap, ◌∙◌, to_z-of_z}
use Rattle.std.specs.Prelude.{Float}
use Rattle.std.specs.Float.{binary64}
use Rattle.std.specs.Float.Ieee.{mul, of_int, of_bits}
use Rattle.units.specs.Halves.{halves_of}
use Rattle.units.proofs.f64_of_halves.Goals as goal

pub returns : goal.returns
unfolding halves_of
returns c =
    ap (λ (x : Float). mul binary64 x (of_bits binary64 0x3fe0_0000_0000_0000))
    (c.nearest_i64_to_f64.ensures ∙ ap (of_int binary64) (to_z-of_z c.ranges.h))
