-- The goals of the cycle of calls {process, visit, visit_list, visit_operands}: each is a lemma of `proofs/Cycle.antt`.
-- Assumes nothing.
use Rattle.numbering.specs.State.{same-start, same-then}
use Rattle.numbering.proofs.Cycle.{from-process, had, entered, then, name-asked, list-first, list-second, listed-first, divided}
use Rattle.numbering.proofs.Cycle.{operands-asked, visited, finish-asked, finished, answer}
use Rattle.numbering.proofs.Cycle.{loop-asked, going_on, fields-on, fields-done, bits-on, bits-done}
use Rattle.numbering.proofs.walk.+process_visit_visit_list_visit_operands.Goals as goal
use Rattle.numbering.proofs.walk.+process_visit_visit_list_visit_operands.Goals.{process-then-is_division, process-else-is_division}

pub process-one_name-requires : goal.process-one_name-requires
process-one_name-requires t c =
    name-asked (entered c.requires.0 c.requires.1 c.act_at-act.ensures c.is_division.ensures c.if-is_division.true c.decreases)

pub process-visit_list-requires : goal.process-visit_list-requires
process-visit_list-requires t c =
    let start = entered c.requires.0 c.requires.1 c.act_at-act.ensures c.is_division.ensures c.if-is_division.true c.decreases in
    list-first (then start c.one_name.ensures.tables) c.field_at.ensures

pub process-visit_list-requires-then-is_division : goal.process-visit_list-requires-then-is_division
process-visit_list-requires-then-is_division t c =
    let start = entered c.requires.0 c.requires.1 c.act_at-act.ensures c.is_division.ensures c.if-is_division.true c.decreases in
    let named = then start c.one_name.ensures.tables in
    list-second (listed-first named c.field_at.ensures c.visit_list.ensures.tables) c.field_at-then-is_division.ensures

pub process-visit_operands-requires : goal.process-visit_operands-requires
process-visit_operands-requires t c =
    operands-asked (entered c.requires.0 c.requires.1 c.act_at-act.ensures c.is_division.ensures c.if-is_division.false c.decreases) c.arity_at.ensures

pub process-finish_gate-requires : goal.process-finish_gate-requires
process-finish_gate-requires t c =
    let start = entered c.requires.0 c.requires.1 c.act_at-act.ensures c.is_division.ensures c.if-is_division.false c.decreases in
    finish-asked (visited start c.arity_at.ensures c.visit_operands.ensures.tables) c.act_at-act.ensures

pub visit-returns-then-q-eq0 : goal.visit-returns-then-q-eq0
visit-returns-then-q-eq0 t c = record { answer = from-process c.requires.0 c.if-q-eq0.true c.process.ensures.answer; same = c.process.ensures.same }

pub visit-returns-else-q-eq0 : goal.visit-returns-else-q-eq0
visit-returns-else-q-eq0 t c = record { answer = had c.requires.0 c.if-q-eq0.false; same = same-start }

pub visit_list-visit-requires : goal.visit_list-visit-requires
visit_list-visit-requires t c = loop-asked (bits-on c.loop-n-test.true c.loop-n.invariant.0) c.decreases c.field_at.ensures

pub visit_list-loop-n-preserved : goal.visit_list-loop-n-preserved
visit_list-loop-n-preserved t c =
    (going_on (bits-on c.loop-n-test.true c.loop-n.invariant.0) c.field_at.ensures c.visit.ensures.answer.tables, same-then c.loop-n.invariant.1 c.visit.ensures.same)

pub visit_list-returns : goal.visit_list-returns
visit_list-returns t c = record { tables = bits-done c.loop-n-test.false c.loop-n.invariant.0; same = c.loop-n.invariant.1 }

pub visit_operands-visit-requires : goal.visit_operands-visit-requires
visit_operands-visit-requires t c = loop-asked (fields-on c.loop-i-test.true c.loop-i.invariant.0) c.decreases c.field_at.ensures

pub visit_operands-loop-i-preserved : goal.visit_operands-loop-i-preserved
visit_operands-loop-i-preserved t c =
    (going_on (fields-on c.loop-i-test.true c.loop-i.invariant.0) c.field_at.ensures c.visit.ensures.answer.tables, same-then c.loop-i.invariant.1 c.visit.ensures.same)

pub visit_operands-returns : goal.visit_operands-returns
visit_operands-returns t c = record { tables = fields-done c.loop-i-test.false c.loop-i.invariant.0; same = c.loop-i.invariant.1 }

pub process-overflow_sub-result : goal.process-overflow_sub-result
process-overflow_sub-result t c =
    elim c.if-is_division.branch [
      | process-then-is_division w ↦
          let start = entered c.requires.0 c.requires.1 c.act_at-act.ensures c.is_division.ensures w.if-is_division.true c.decreases in
          let first = listed-first (then start w.one_name.ensures.tables) w.field_at.ensures w.visit_list.ensures.tables in
          rw w.naming-is (answer (divided first w.field_at-then-is_division.ensures w.visit_list-then-is_division.ensures.tables)).1
      | process-else-is_division w ↦
          let start = entered c.requires.0 c.requires.1 c.act_at-act.ensures c.is_division.ensures w.if-is_division.false c.decreases in
          let operands = visited start w.arity_at.ensures w.visit_operands.ensures.tables in
          rw w.naming-is (answer (finished operands c.act_at-act.ensures w.finish_gate.ensures.tables)).1
    ]

pub process-returns : goal.process-returns
process-returns t c =
    elim c.if-is_division.branch [
      | process-then-is_division w ↦
          let start = entered c.requires.0 c.requires.1 c.act_at-act.ensures c.is_division.ensures w.if-is_division.true c.decreases in
          let first = listed-first (then start w.one_name.ensures.tables) w.field_at.ensures w.visit_list.ensures.tables in
          rw w.naming-is
          (record {
            answer = (answer (divided first w.field_at-then-is_division.ensures w.visit_list-then-is_division.ensures.tables)).2;
            same = same-then (same-then w.one_name.ensures.same w.visit_list.ensures.same) w.visit_list-then-is_division.ensures.same;
          })
      | process-else-is_division w ↦
          let start = entered c.requires.0 c.requires.1 c.act_at-act.ensures c.is_division.ensures w.if-is_division.false c.decreases in
          let operands = visited start w.arity_at.ensures w.visit_operands.ensures.tables in
          rw w.naming-is
          (record {
            answer = (answer (finished operands c.act_at-act.ensures w.finish_gate.ensures.tables)).2;
            same = same-then w.visit_operands.ensures.same w.finish_gate.ensures.same;
          })
    ]
