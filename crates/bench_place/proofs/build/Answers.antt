-- `build` is safe: settling may follow placing.
use Rattle.std.proofs.Common.{[], sym, ◌∙◌, arith, length}
use Rattle.store_place.specs.Growth.{settling}
use Rattle.bench_place.proofs.Rounds.{zeros-weigh}
use Rattle.bench_place.proofs.build.Goals as goal

pub place_rows-t-requires : goal.place_rows-t-requires
place_rows-t-requires c =
    let lens = c.requires.linear_len in
    let room = c.requires.keys_len in
    (c.fill.auto.self ∙ lens.0, lens.1, lens.2, room.1 ∙ sym room.0, omega (arith, room.0), omega arith, zeros-weigh (length c.args.linear.now) (c.fill.ensures.after (λ y e. e)))

pub settle-u-requires : goal.settle-u-requires
settle-u-requires c =
    let k = c.place_rows-t.auto in
    let last = c.place_rows-t.new in
    let lens = c.requires.keys_len in
    let lk = k.keys ∙ lens.0 in
    settling last.linear last.present last.rows [] c.place_rows-t.result (k.weights ∙ lens.1 ∙ sym lk) (lens.2 ∙ sym lk) (lens.3 ∙ sym lk) (omega (arith, c.place_rows-t.ensures.0, lk)) (omega (arith, c.place_rows-t.ensures.1))
