-- `report::print_ran` meets its contract: the energy, the bad states, the verdict.
use Rattle.std.proofs.Common.{arith}
use Rattle.text.specs.Paste.{then}
use Rattle.report_lines.specs.Length.{hit-length}
use Rattle.report.proofs.print_ran.Goals as goal

pub put_hit-requires : goal.put_hit-requires
put_hit-requires c = record { below = omega (arith, c.put_bads-last.ensures.upper_bound, c.put_energy-first.ensures.upper_bound, hit-length c.args.hit, c.requires) }

pub returns : goal.returns
returns c = record {
  printed = then c.put_energy-first.ensures.printed (then c.put_bads-last.ensures.printed c.put_hit.ensures);
  upper_bound = omega (arith, c.put_bads-last.ensures.upper_bound, c.put_energy-first.ensures.upper_bound, hit-length c.args.hit, c.requires, c.put_hit.ensures.place);
}
