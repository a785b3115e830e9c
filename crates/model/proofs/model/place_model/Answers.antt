-- `model::place_model` meets its contract: the log of all rows, settled (`Modelled`).
use Rattle.numbering.specs.State.{mk}
use Rattle.model.specs.Modelled.{settleable, settles}
use Rattle.model.proofs.model.place_model.Goals as goal

pub settle_all-requires : goal.settle_all-requires
settle_all-requires c =
    let a = c.args in
    settleable a.numbered.circuit.now a.numbered.bads a.numbered.constraints (mk a.numbered.qubits.now a.numbered.origins.now a.numbered.roles.now a.numbered.next.0) c.requires.0 {t = c.place_all-t.result} {l = c.place_all-t.new.linear} {h = c.place_all-t.new.present} {r = c.place_all-t.new.rows} {ks = c.place_all-t.new.keys} {ws = c.place_all-t.new.weights} c.place_all-t.ensures

pub returns : goal.returns
returns c =
    let v = c.settle_all in
    let a = c.args in
    settles a.numbered.circuit.now a.numbered.bads a.numbered.constraints (mk a.numbered.qubits.now a.numbered.origins.now a.numbered.roles.now a.numbered.next.0) c.requires.0 {t = c.place_all-t.result} {l = c.place_all-t.new.linear} {h = c.place_all-t.new.present} {r = c.place_all-t.new.rows} {ks = c.place_all-t.new.keys} {ws = c.place_all-t.new.weights} c.place_all-t.ensures
    {u = v.result} {ks' = v.new.keys} {ws' = v.new.weights} v.auto.keys v.auto.weights v.ensures
