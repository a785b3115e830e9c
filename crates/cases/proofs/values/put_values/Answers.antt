-- `values::put_values` meets its contract: a word, the values of the names, and the end of the line.
use Rattle.std.proofs.Common.{arith, sym, ap, length-take}
use Rattle.cases.specs.Lines.{values_line}
use Rattle.text.specs.Paste.{then, printed-as}
use Rattle.cases.proofs.Names.{counted}
use Rattle.cases.proofs.values.put_values.Goals as goal

pub returns : goal.returns
unfolding values_line
returns c =
    let names = counted c.args.values.now _ c.names_in-n.ensures in
    record {
      printed = printed-as (ap values_line (sym names.1)) (then c.put_bytes-first.ensures (then c.put_each-end.ensures.printed c.put.ensures));
      upper_bound =
          omega (arith, names.0, length-take c.names_in-n.result c.args.values.now, c.put_bytes-first.ensures.place, c.put_each-end.ensures.value, c.put.ensures.place);
    }
