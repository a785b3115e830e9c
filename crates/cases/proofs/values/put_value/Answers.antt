-- `values::put_value` meets its contract: a space and a digit.
use Rattle.text.specs.Paste.{then}
use Rattle.cases.proofs.values.put_value.Goals as goal

pub returns : goal.returns
returns c = then c.put-next.ensures c.put.ensures
