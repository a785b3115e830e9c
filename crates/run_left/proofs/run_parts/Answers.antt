-- `run_left::run_parts` meets its contract: the parts that it lends are what a run asks, and what it then does is the run of the whole.
use Rattle.std.proofs.Common.{◌∙◌, ◌+◌, ◌*◌, ◌≤◌, arith, w64, to_z-of_z}
use Rattle.laws.specs.Abs.{fits-abs}
use Rattle.qubot_left.specs.Left.{names-counted}
use Rattle.run_left.specs.Left.{names-few, from-few, gates-part, names-part, ready, runs_as}
use Rattle.run_left.specs.Lent.{lent_in}
use Rattle.run_left.proofs.run_parts.Goals as goal
use Rattle.run_left.proofs.run_parts.Goals.{Start}

-- the counts are small
few : (s : Start) → 3 * s.args.k.gates + s.args.k.bad_states + 1 ≤ 65536
few s = names-few s.requires.0 s.args.k s.requires.1

pub overflow_mul-n : goal.overflow_mul-n
overflow_mul-n c = omega (arith, few (goal.at.overflow_mul-n c).Start)

pub overflow_add-n : goal.overflow_add-n
overflow_add-n c = omega (arith, few (goal.at.overflow_add-n c).Start)

pub overflow_add-n-2 : goal.overflow_add-n-2
overflow_add-n-2 c = omega (arith, few (goal.at.overflow_add-n-2 c).Start)

pub overflow_add-on : goal.overflow_add-on
overflow_add-on c = omega (arith, from-few c.requires.0 c.args.k c.requires.1)

pub slice_bounds-on-end-2 : goal.slice_bounds-on-end-2
slice_bounds-on-end-2 c = gates-part c.requires.0 c.args.k c.requires.1

pub slice_bounds-on-end-3 : goal.slice_bounds-on-end-3
slice_bounds-on-end-3 c = names-part c.requires.0 c.args.k c.requires.1 c.args.tables.now.origins.now c.requires.0.origins

pub slice_bounds-on-end-4 : goal.slice_bounds-on-end-4
slice_bounds-on-end-4 c = names-part c.requires.0 c.args.k c.requires.1 c.args.tables.now.roles.now c.requires.0.roles

pub slice_bounds-on-end-5 : goal.slice_bounds-on-end-5
slice_bounds-on-end-5 c = names-part c.requires.0 c.args.k c.requires.1 c.args.tables.now.fixed.now c.requires.0.fixed

pub slice_bounds-model-end-2 : goal.slice_bounds-model-end-2
slice_bounds-model-end-2 c = names-part c.requires.0 c.args.k c.requires.1 c.args.tables.now.has_linear.now c.requires.0.has_linear

pub slice_bounds-model-end-3 : goal.slice_bounds-model-end-3
slice_bounds-model-end-3 c = names-part c.requires.0 c.args.k c.requires.1 c.args.tables.now.has_row.now c.requires.0.has_row

pub run_on-requires : goal.run_on-requires
run_on-requires c =
    rw (c.requires.2, c.requires.3)
    (ready {b = c.args.circuit.now} {u = lent_in c.args.tables.now} {f = c.args.f} c.requires.0 c.args.k c.requires.1 _ _ (names-counted _ c.args.k c.requires.1) (to_z-of_z (fits-abs w64 _ c.requires.0.offset)))

pub returns : goal.returns
returns c =
    c.run_on.ensures
    ∙ runs_as {b = c.args.circuit.now} {u = lent_in c.args.tables.now} {f = c.args.f} c.requires.0 c.args.k c.requires.1 _ _ (names-counted _ c.args.k c.requires.1) (to_z-of_z (fits-abs w64 _ c.requires.0.offset)) c.args.inputs.now
    c.args.values.now
