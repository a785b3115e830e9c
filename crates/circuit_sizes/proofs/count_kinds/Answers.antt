use Rattle.std.proofs.Common.{◌≡◌, true, false, refl, sym, ap, ◌∙◌, arith}
use borrow.Author.Tests.{le-leb, lt-leb}
use Rattle.circuit.specs.File.{is_kind, records as records_of}
use Rattle.circuit.specs.Count.{count_before, counted-more, counted_same, count-le, length-those}
use Rattle.circuit_sizes.proofs.count_kinds.Goals as goal
use Rattle.circuit_sizes.proofs.count_kinds.Goals.{then-low-kind+then-kind-high, else-low-kind, else-low-kind-via-then-low-kind+else-kind-high, else-low-kind-via-else-low-kind}

pub loop-n-init : goal.loop-n-init
unfolding count_before
loop-n-init c = refl

pub overflow_add-count : goal.overflow_add-count
overflow_add-count c = omega (arith, c.loop-n.invariant, count-le (is_kind c.args.c.now c.args.low c.args.high) c.loop-n.n)

pub loop-n-preserved : goal.loop-n-preserved
loop-n-preserved c =
    let a = c.args in
    let kind = c.kind_byte_at-kind.result in
    let is = is_kind a.c.now a.low a.high in
    elim c.if-low-kind.branch [
      | then-low-kind+then-kind-high w ↦
          let yes : is c.loop-n.n ≡ true = rw (← c.kind_byte_at-kind.ensures, le-leb a.low kind w.if-low-kind.true, le-leb kind a.high w.if-kind-high.true) in
          rw w.count-is (counted-more is c.loop-n.invariant yes)
      | else-low-kind w ↦
          let no : is c.loop-n.n ≡ false =
          elim w.else-low-kind.branch [
            | else-low-kind-via-then-low-kind+else-kind-high x ↦ rw (← c.kind_byte_at-kind.ensures, le-leb a.low kind x.if-low-kind.true, lt-leb kind a.high x.if-kind-high.false)
            | else-low-kind-via-else-low-kind x ↦ rw (← c.kind_byte_at-kind.ensures, lt-leb a.low kind x.if-low-kind.false)
          ] in
          rw w.count-is (counted_same is c.loop-n.invariant no)
    ]

pub returns : goal.returns
returns c =
    let a = c.args in
    let e : c.loop-n.n ≡ records_of a.c.now = omega arith in
    c.loop-n.invariant ∙ ap (count_before (is_kind a.c.now a.low a.high)) e ∙ sym (length-those (is_kind a.c.now a.low a.high) (records_of a.c.now))
