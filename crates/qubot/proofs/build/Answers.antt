-- `build` meets its contract, on all bytes and all tables (`Parts`).
use Rattle.std.specs.Prelude.{Result}
use Rattle.std.proofs.Common.{ap, ◌∙◌}
use Rattle.laws.specs.Handed.{handed_on}
use Rattle.circuit.specs.declared.Refusal.{Refusal}
use Rattle.qubot_left.specs.declared.Finished.{Finished}
use Rattle.qubot_left.specs.Lent.{lent_in}
use Rattle.qubot_left.specs.Parts.{enough, accepted-as, refused_as, built-as}
use Rattle.qubot.proofs.build.Goals as goal

pub fill_tables-filled-requires : goal.fill_tables-filled-requires
fill_tables-filled-requires c =
    let t = lent_in c.args.tables.now in
    let a = accepted-as c.args.circuit.now c.args.form t c.check.ensures c.least_of-names.ensures c.lesser-pairs.ensures c.in_ok-k.was in
    (record { sound = a.sound; counts = a.counts }, enough t a)

pub returns-in_err-k-clause-left : goal.returns-in_err-k-clause-left
returns-in_err-k-clause-left c =
    ap (λ (z : Result Finished Refusal). (lent_in c.args.tables.now, z)) (handed_on _ c.from_residual.ensures.1)
    ∙ refused_as c.args.circuit.now c.args.form (lent_in c.args.tables.now) c.check.ensures c.least_of-names.ensures c.lesser-pairs.ensures c.in_err-k.was

pub returns-clause-left : goal.returns-clause-left
returns-clause-left c =
    ap (λ (z : Result Finished Refusal). (lent_in c.fill_tables-filled.new.tables, z)) c.answer_of.ensures
    ∙ built-as c.args.circuit.now c.args.form (lent_in c.args.tables.now) c.check.ensures c.least_of-names.ensures c.lesser-pairs.ensures c.in_ok-k.was c.fill_tables-filled.ensures.left
