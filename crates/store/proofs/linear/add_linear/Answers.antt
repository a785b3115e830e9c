-- `linear::add_linear` meets its contract, by its test (`Adding`).
use Rattle.std.proofs.Common.{ap, pos, w64, of_z, to_z-of_z}
use Rattle.std.proofs.Math.Facts.{sfits_lit}
use Rattle.laws.specs.Machine.{is_eq}
use Rattle.store.proofs.Adding.{not-gained, was-gained}
use Rattle.store.proofs.linear.add_linear.Goals as goal

pub returns-else-c-ne0 : goal.returns-else-c-ne0
returns-else-c-ne0 c =
    let both = not-gained c.args.q c.args.c c.args.linear.now c.args.present.now (is_eq w64 {b = pos 0} c.ranges.c (sfits_lit tt) c.if-c-ne0.false) in
    record { linear_after = both.0; present_after = both.1 }

pub returns-then-c-ne0 : goal.returns-then-c-ne0
returns-then-c-ne0 c =
    let test = c.if-c-ne0.true in
    let called = c.join_linear.ensures in
    let both = was-gained c.args.q c.args.c _ c.args.linear.now _ c.args.present.now _ (to_z-of_z c.ranges.c) (λ e. test (ap (of_z w64) e)) called.linear_after called.present_after in
    record { linear_after = both.0; present_after = both.1 }
