-- `fix::fix_qubit` meets its contract: the pairs are given away, then the qubit's own entries are taken out (`Fixed`).
use Rattle.std.proofs.Common.{◌+ℤ◌, ◌∙◌, sym, arith, w64, SFits, to_z-of_z}
use Rattle.store.proofs.Lent.{back}
use Rattle.store_fix.proofs.Fixed.{taking, old-fits, sum-fits, all-fixed}
use Rattle.store_fix.proofs.fix.fix_qubit.Goals as goal

pub take_out-count-requires : goal.take_out-count-requires
take_out-count-requires c = taking c.requires.1

pub overflow_add-result : goal.overflow_add-result
overflow_add-result c =
    let a = c.args in
    let gift-fits : SFits w64 c.enter-given.result = record { sfits = c.enter-given.type_inv } in
    simp (to_z-of_z (old-fits c.requires.1), to_z-of_z gift-fits) (sum-fits c.requires.1 a.q.0 a.on c.take_out-count.ensures.m_after c.enter-given.ensures.value)

pub returns : goal.returns
returns c =
    let a = c.args in
    let out = c.take_out-count in
    let clear = c.enter-given in
    let gift-fits : SFits w64 clear.result = record { sfits = clear.type_inv } in
    let all-fit : SFits w64 (a.t.offset +ℤ clear.result) = sum-fits c.requires.1 a.q.0 a.on out.ensures.m_after clear.ensures.value in
    let same = out.ensures.same in
    back (grind (arith, sym same.keys)) (grind (arith, sym same.weights))
    ∙ all-fixed c.requires.1 a.q.0 a.on out.ensures.m_after out.new.pairs.keys.now out.new.pairs.weights.now out.result clear.result _ out.ensures.value out.ensures.entries clear.ensures.value (simp (to_z-of_z (old-fits c.requires.1), to_z-of_z gift-fits, to_z-of_z all-fit)) clear.ensures.linear_after clear.ensures.present_after clear.ensures.rows_after clear.ensures.fixed_after
