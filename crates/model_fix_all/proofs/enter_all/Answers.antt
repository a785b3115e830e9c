use Rattle.std.proofs.Common.{sym, ◌∙◌, List, ℕ, ◌+◌, ◌<◌, arith, length}
use Rattle.model_fixes.specs.Fixing.{Reading, fixes_by, fixes-count, none-entered, in-fixed, may-enter, stops, goes_on, all-entered}
use Rattle.model_fix_all.proofs.enter_all.Goals as goal

more_left : {b : List ℕ} {bads constraints : ℕ} {qs : List ℕ} {next states count k : ℕ} → Reading b bads constraints qs next states count → k < count + 3 → k < length (fixes_by b qs next)
more_left r h = omega (arith, fixes-count r)

pub overflow_add-k-end : goal.overflow_add-k-end
overflow_add-k-end c = omega (arith, c.requires.0.small)

pub loop-k-init : goal.loop-k-init
loop-k-init c = none-entered c.requires.1

pub fix_at-on-requires : goal.fix_at-on-requires
fix_at-on-requires c = (c.requires.0, c.loop-k-test.true)

pub contradicts-requires : goal.contradicts-requires
contradicts-requires c = in-fixed c.requires.1 c.loop-k.invariant (more_left c.requires.0 c.loop-k-test.true) c.fix_at-on.ensures

pub returns-then-contradicts : goal.returns-then-contradicts
returns-then-contradicts c = stops c.requires.1 c.loop-k.invariant (more_left c.requires.0 c.loop-k-test.true) c.fix_at-on.ensures (sym c.contradicts.ensures ∙ c.if-contradicts.true)

pub enter_value-t-requires : goal.enter_value-t-requires
enter_value-t-requires c = may-enter c.requires.1 c.loop-k.invariant (more_left c.requires.0 c.loop-k-test.true) c.fix_at-on.ensures

pub loop-k-preserved : goal.loop-k-preserved
loop-k-preserved c =
    let e = c.enter_value-t.ensures in
    goes_on c.requires.1 c.loop-k.invariant (more_left c.requires.0 c.loop-k-test.true) c.fix_at-on.ensures (sym c.contradicts.ensures ∙ c.if-contradicts.false) e.0 e.1

pub returns : goal.returns
returns c = all-entered c.requires.1 c.loop-k.invariant (omega (arith, c.loop-k-test.false, fixes-count c.requires.0))
