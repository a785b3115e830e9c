-- `run_tables::list_bads` meets its contract.
use Rattle.std.proofs.Common.{sym, ap, ◌∙◌}
use Rattle.run_rules.specs.Code.{name_in}
use Rattle.run_values.specs.Need.{is_true}
use Rattle.run_tables.proofs.Trues.{listed-on, listed-skip, listed-end}
use Rattle.run_tables.proofs.list_bads.Goals as goal
use Rattle.run_tables.proofs.list_bads.Goals.{then-truth, else-truth}

pub loop-n-preserved : goal.loop-n-preserved
loop-n-preserved c =
    let looked = c.truth.ensures ∙ ap (is_true c.args.values.now) (ap (λ q. q.0) c.qubit_of.ensures ∙ ap (name_in c.args.on.now.qubits.now) c.field_at.ensures) in
    elim c.if-truth.branch [
      | then-truth w ↦
          rw (w.nids-is, w.count-is) (listed-on c.requires.1 c.loop-n-test.true c.loop-n.invariant (sym looked ∙ w.if-truth.true) w.nid_at.ensures)
      | else-truth w ↦ rw (w.nids-is, w.count-is) (listed-skip c.loop-n-test.true c.loop-n.invariant (sym looked ∙ w.if-truth.false))
    ]

pub returns : goal.returns
returns c = listed-end c.requires.1 c.loop-n.invariant c.loop-n-test.false
