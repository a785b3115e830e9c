-- `place::add_pair` meets its contract, by its tests (`Placing`).
use Rattle.std.proofs.Common.{ap, arith, pos, w64, of_z, to_z-of_z}
use Rattle.std.proofs.Math.Facts.{sfits_lit}
use Rattle.laws.specs.Machine.{is_eq}
use Rattle.energy.specs.Mass.{sizes-at}
use Rattle.store_place.proofs.Placing.{pair-none, was-equal, was-new, new-longer}
use Rattle.store_place.proofs.place.add_pair.Goals as goal

pub returns-then-c-eq0-clause-result_after : goal.returns-then-c-eq0-clause-result_after
returns-then-c-eq0-clause-result_after c =
    let a = c.args in
    λ o f. pair-none a.p a.q a.c _ (is_eq w64 {b = pos 0} c.ranges.c (sfits_lit tt) c.if-c-eq0.true)

pub join_linear-requires : goal.join_linear-requires
join_linear-requires c =
    let a = c.args in
    let at = sizes-at a.linear.now a.p in
    (omega (arith, c.requires.first), omega (arith, c.requires.first, c.requires.present), simp (to_z-of_z c.ranges.c) (omega (arith, at, c.requires.small)))

pub returns-then-p-q-clause-result_after : goal.returns-then-p-q-clause-result_after
returns-then-p-q-clause-result_after c =
    let a = c.args in
    λ o f. was-equal o a.linear.now _ a.present.now _ a.rows.now f a.pairs.now.keys.now a.pairs.now.weights.now a.n a.p a.q a.c _ (to_z-of_z c.ranges.c) (λ e. c.if-c-eq0.false (ap (of_z w64) e)) c.if-p-q.true c.join_linear.ensures.linear_after c.join_linear.ensures.present_after

pub returns-clause-result_after : goal.returns-clause-result_after
returns-clause-result_after c =
    let a = c.args in
    λ o f. was-new a.pairs.now.keys.now c.append.new.self.keys.now a.pairs.now.weights.now c.append.new.self.weights.now a.n _ a.p a.q _ a.c _ c.requires.even (to_z-of_z c.ranges.c) (λ e. c.if-c-eq0.false (ap (of_z w64) e)) c.requires.room c.key_of-key.ensures c.append.ensures.value c.append.ensures.entries o a.linear.now a.present.now a.rows.now f c.if-p-q.false

pub returns-clause-longer : goal.returns-clause-longer
returns-clause-longer c =
    let a = c.args in
    new-longer a.pairs.now.keys.now c.append.new.self.keys.now a.pairs.now.weights.now c.append.new.self.weights.now a.n _ a.p a.q _ a.c _ c.requires.even (to_z-of_z c.ranges.c) (λ e. c.if-c-eq0.false (ap (of_z w64) e)) c.requires.room c.key_of-key.ensures c.append.ensures.value c.append.ensures.entries
