-- `model_finish::turn` meets its contract.
use Rattle.std.proofs.Common.{sym, ap, ◌∙◌, arith}
use Rattle.store_pairs.proofs.Tables.{length-zip}
use Rattle.store.specs.Tables.{Tables, tables, model_of, hold}
use Rattle.energy.specs.Finished.{in_form}
use Rattle.store.specs.Held.{hold-same}
use Rattle.units.specs.declared.Form.{Form}
use Rattle.model_finish.proofs.turn.Goals as goal

pub returns-in-Binary : goal.returns-in-Binary
returns-in-Binary c =
    let a = c.args in
    λ rs f.
    let t : Tables = tables a.t.offset a.linear.now a.present.now rs f a.keys.now a.weights.now a.t.count in
    hold-same t (omega (arith, length-zip a.keys.now a.weights.now c.requires.even, c.requires.used))
    ∙ ap (λ (x : Form). hold (in_form x (model_of t)) t) (sym c.in-Binary.is)
