use Rattle.std.proofs.Common.{sym, ◌∙◌, inl, inr, arith}
use Rattle.std.proofs.lemmas.List.{length_push}
use Rattle.std.proofs.lemmas.Slice.Zip.{zip_turn, zip_end}
use Rattle.store.proofs.Energies.{counts, skips, count-done}
use Rattle.store.proofs.count.count_variables.Goals as goal
use Rattle.store.proofs.count.count_variables.Goals.{then-has_linear-eq1-via-then-has_linear-eq1, then-has_linear-eq1-via-else-has_linear-eq1+then-has_row-eq1}

pub loop-has_linear-preserved-in-loop-has_linear : goal.loop-has_linear-preserved-in-loop-has_linear
loop-has_linear-preserved-in-loop-has_linear c =
    let t = zip_turn c.args.present.now c.args.rows.now c.loop-has_linear.yielded c.into_iter-has_linear-iterator.result c.loop-has_linear.has_linear-iterator c.next.new.self _ (cc) (cc) c.loop-has_linear.yielded_by _ c.in-Some.is c.next.ensures.steps in
    rw length_push
    (elim c.then-has_linear-eq1.branch [
      | then-has_linear-eq1-via-then-has_linear-eq1 w ↦ counts c.loop-has_linear.invariant c.requires t.0 (inl (sym (t.2 0) ∙ w.if-has_linear-eq1.true))
      | then-has_linear-eq1-via-else-has_linear-eq1+then-has_row-eq1 w ↦ counts c.loop-has_linear.invariant c.requires t.0 (inr (sym (t.3 0) ∙ w.if-has_row-eq1.true))
    ])

pub loop-has_linear-preserved : goal.loop-has_linear-preserved
loop-has_linear-preserved c =
    let t = zip_turn c.args.present.now c.args.rows.now c.loop-has_linear.yielded c.into_iter-has_linear-iterator.result c.loop-has_linear.has_linear-iterator c.next.new.self _ (cc) (cc) c.loop-has_linear.yielded_by _ c.in-Some.is c.next.ensures.steps in
    rw length_push
    (skips c.loop-has_linear.invariant c.requires t.0 (λ e. c.if-has_linear-eq1.false (t.2 0 ∙ e)) (λ e. c.if-has_row-eq1.false (t.3 0 ∙ e)))

pub returns : goal.returns
returns c =
    let t = zip_end c.args.present.now c.args.rows.now c.loop-has_linear.yielded c.into_iter-has_linear-iterator.result c.loop-has_linear.has_linear-iterator c.next.new.self _ (cc) (cc) c.loop-has_linear.yielded_by c.in-None.is c.next.ensures.steps in
    count-done c.loop-has_linear.invariant (omega (arith, t))
