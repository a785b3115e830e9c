-- `heads::read_values` meets its contract: as many values as the bytes and the table have.
use Rattle.std.proofs.Common.{ap, ◌∙◌, List, ℤ, ◌++◌, drop, arith, length-take-le}
use Rattle.cases.specs.Values.{values_of}
use Rattle.cases.proofs.Filled.{into}
use Rattle.cases.proofs.heads.read_values.Goals as goal

pub returns : goal.returns
returns c =
    ap (λ (l : List ℤ). l ++ drop c.min-count.result c.args.inputs.now)
    (c.fill_values.ensures ∙ ap (values_of c.args.s.now) (length-take-le c.min-count.result c.args.inputs.now (omega arith)))
    ∙ into _ _ _ _ _ c.min-here.ensures c.min-count.ensures
