-- `fill` meets its contract: where there is no model, the tables are zeroed (`Parts`).
use Rattle.std.proofs.Common.{sym, ◌∙◌}
use Rattle.circuit.specs.Meaning.{circuit_of}
use Rattle.qubot_fill.specs.Tables.{lent}
use Rattle.qubot_fill.specs.Parts.{all-zero, zeroed-as, kept-as}
use Rattle.qubot_fill.proofs.fill.Goals as goal

pub number_names-ended-requires : goal.number_names-ended-requires
number_names-ended-requires c = (c.requires.0, c.requires.1)

pub fill_model-filled-requires : goal.fill_model-filled-requires
fill_model-filled-requires c = (
  c.requires.0,
  record { qubits = c.number_names-ended.auto.qubits ∙ c.requires.1.qubits; origins = c.number_names-ended.auto.origins ∙ c.requires.1.origins; roles = c.number_names-ended.auto.roles ∙ c.requires.1.roles },
  c.requires.2,
  c.number_names-ended.ensures,
)

pub shape_of-qubits-then-is_ok : goal.shape_of-qubits-then-is_ok
shape_of-qubits-then-is_ok c = c.number_names-ended.auto.qubits

pub shape_of-origins-then-is_ok : goal.shape_of-origins-then-is_ok
shape_of-origins-then-is_ok c = c.number_names-ended.auto.origins

pub shape_of-roles-then-is_ok : goal.shape_of-roles-then-is_ok
shape_of-roles-then-is_ok c = c.number_names-ended.auto.roles

pub shape_of-linear-then-is_ok : goal.shape_of-linear-then-is_ok
shape_of-linear-then-is_ok c = c.fill_model-filled.auto.linear

pub shape_of-present-then-is_ok : goal.shape_of-present-then-is_ok
shape_of-present-then-is_ok c = c.fill_model-filled.auto.present

pub shape_of-rows-then-is_ok : goal.shape_of-rows-then-is_ok
shape_of-rows-then-is_ok c = c.fill_model-filled.auto.rows

pub shape_of-fixed-then-is_ok : goal.shape_of-fixed-then-is_ok
shape_of-fixed-then-is_ok c = c.fill_model-filled.auto.fixed

pub shape_of-keys-then-is_ok : goal.shape_of-keys-then-is_ok
shape_of-keys-then-is_ok c = c.fill_model-filled.auto.keys

pub shape_of-weights-then-is_ok : goal.shape_of-weights-then-is_ok
shape_of-weights-then-is_ok c = c.fill_model-filled.auto.weights

pub returns-then-is_ok : goal.returns-then-is_ok
returns-then-is_ok c = kept-as (circuit_of c.args.circuit.now) (lent c.number_names-ended.new.qubits c.number_names-ended.new.origins c.number_names-ended.new.roles c.fill_model-filled.new.linear c.fill_model-filled.new.present c.fill_model-filled.new.rows c.fill_model-filled.new.fixed c.fill_model-filled.new.keys c.fill_model-filled.new.weights) c.fill_model-filled.result (sym c.is_ok.ensures.value ∙ c.if-is_ok.true) ∙ c.fill_model-filled.ensures

pub shape_of-qubits : goal.shape_of-qubits
shape_of-qubits c = c.clear_names.auto.qubits ∙ c.number_names-ended.auto.qubits

pub shape_of-origins : goal.shape_of-origins
shape_of-origins c = c.clear_names.auto.origins ∙ c.number_names-ended.auto.origins

pub shape_of-roles : goal.shape_of-roles
shape_of-roles c = c.clear_names.auto.roles ∙ c.number_names-ended.auto.roles

pub shape_of-linear : goal.shape_of-linear
shape_of-linear c = c.clear_model.auto.linear ∙ c.fill_model-filled.auto.linear

pub shape_of-present : goal.shape_of-present
shape_of-present c = c.clear_model.auto.present ∙ c.fill_model-filled.auto.present

pub shape_of-rows : goal.shape_of-rows
shape_of-rows c = c.clear_model.auto.rows ∙ c.fill_model-filled.auto.rows

pub shape_of-fixed : goal.shape_of-fixed
shape_of-fixed c = c.clear_model.auto.fixed ∙ c.fill_model-filled.auto.fixed

pub shape_of-keys : goal.shape_of-keys
shape_of-keys c = c.clear_model.auto.keys ∙ c.fill_model-filled.auto.keys

pub shape_of-weights : goal.shape_of-weights
shape_of-weights c = c.clear_model.auto.weights ∙ c.fill_model-filled.auto.weights

pub returns : goal.returns
returns c =
    let n = c.clear_names.ensures in
    let z = c.clear_model.ensures in
    zeroed-as (circuit_of c.args.circuit.now) (lent c.number_names-ended.new.qubits c.number_names-ended.new.origins c.number_names-ended.new.roles c.fill_model-filled.new.linear c.fill_model-filled.new.present c.fill_model-filled.new.rows c.fill_model-filled.new.fixed c.fill_model-filled.new.keys c.fill_model-filled.new.weights) c.fill_model-filled.result (sym c.is_ok.ensures.value ∙ c.if-is_ok.false)
    (all-zero (circuit_of c.args.circuit.now) {q = c.number_names-ended.new.qubits} {o = c.number_names-ended.new.origins} {r = c.number_names-ended.new.roles} {l = c.fill_model-filled.new.linear} {h = c.fill_model-filled.new.present} {w = c.fill_model-filled.new.rows} {f = c.fill_model-filled.new.fixed} {ks = c.fill_model-filled.new.keys} {ws = c.fill_model-filled.new.weights}
    (record { qubits = c.number_names-ended.auto.qubits ∙ c.requires.1.qubits; origins = c.number_names-ended.auto.origins ∙ c.requires.1.origins; roles = c.number_names-ended.auto.roles ∙ c.requires.1.roles })
    (record { linear = c.fill_model-filled.auto.linear ∙ c.requires.2.linear; has_linear = c.fill_model-filled.auto.present ∙ c.requires.2.has_linear; has_row = c.fill_model-filled.auto.rows ∙ c.requires.2.has_row; fixed = c.fill_model-filled.auto.fixed ∙ c.requires.2.fixed; keys = c.fill_model-filled.auto.keys ∙ c.requires.2.keys; weights = c.fill_model-filled.auto.weights ∙ c.requires.2.weights })
    n.0 n.1 n.2 z.0 z.1 z.2 z.3 z.4 z.5)
    ∙ c.fill_model-filled.ensures
