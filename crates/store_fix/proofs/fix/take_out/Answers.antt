use Rattle.std.proofs.Common.{arith}
use Rattle.store_pairs.specs.Tables.{same-then}
use Rattle.store_pairs.proofs.Entries.{weights-long}
use Rattle.store_fix.proofs.Removing.{end_below, gift-small, removed, stays, all-given, counted, table-after}
use Rattle.store_fix.proofs.fix.take_out.Goals as goal
use Rattle.store_fix.proofs.fix.take_out.Goals.{in-Some, in-None}

pub give_one-requires : goal.give_one-requires
give_one-requires c =
    let r = c.requires in
    let at = c.in-Some.at in
    let below = end_below r.used c.loop-i.invariant.0 c.loop-i-test.true at c.in-Some.ensures in
    (omega arith, below, omega arith, gift-small r.used c.loop-i.invariant.0 c.loop-i-test.true r.small at)

pub loop-i-preserved : goal.loop-i-preserved
loop-i-preserved c =
    let r = c.requires in
    elim c.match-end_of.branch [
      | in-Some w ↦
          let giving = w.give_one in
          rw (w.pairs-is, w.linear-is, w.present-is, w.m-is)
          (removed r.used c.loop-i.invariant.0 c.loop-i-test.true giving.auto.linear giving.auto.present w.in-Some.at w.in-Some.ensures giving.ensures.linear_after giving.ensures.present_after, c.loop-i.invariant.1)
      | in-None w ↦
          let copying = w.copy_within in
          rw (w.pairs-is, w.linear-is, w.present-is, w.m-is)
          (stays r.used c.loop-i.invariant.0 c.loop-i-test.true w.in-None.ensures copying.ensures.same.long (weights-long copying.ensures.same) copying.ensures.entries, same-then c.loop-i.invariant.1 copying.ensures.same)
    ]

pub returns : goal.returns
returns c =
    let used = c.requires.used in
    let inv = c.loop-i.invariant.0 in
    let done = c.loop-i-test.false in
    record {
      value = counted used inv done;
      entries = table-after used inv done _ c.clear.ensures.entries;
      m_after = all-given used inv done;
      same = same-then c.loop-i.invariant.1 c.clear.ensures.same;
    }
