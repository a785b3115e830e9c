-- `run_meaning::needs::need_bads` meets its contract.
use Rattle.std.proofs.Common.{◌≡◌, ◌∷◌, ◌+◌, ◌-◌, drop, arith, ap, ◌∙◌}
use Rattle.circuit.specs.File.{field}
use Rattle.circuit.specs.Meaning.{circuit_of}
use Rattle.run_rules.specs.Code.{name_in}
use Rattle.run_values.specs.Asking.{state_in}
use Rattle.run_values.proofs.Exits.{returned}
use Rattle.run_meaning.specs.Ran.{bad_qubits}
use Rattle.run_meaning.proofs.Left.{left_as, left-on, left-stop, left_end, bad-on, bad-done}
use Rattle.run_meaning.proofs.needs.need_bads.Goals as goal
use Rattle.run_meaning.proofs.needs.need_bads.Goals.{In-loop-n}

next : (c : In-loop-n) → drop (c.loop-n.n - c.args.on.now.bads) (bad_qubits (circuit_of c.args.on.now.circuit.now) (state_in c.args.on.now)) ≡ name_in (state_in c.args.on.now).qubits (field c.args.on.now.circuit.now c.loop-n.n 0) ∷ drop (c.loop-n.n + 1 - c.args.on.now.bads) (bad_qubits (circuit_of c.args.on.now.circuit.now) (state_in c.args.on.now))
next c = bad-on c.args.on.now.circuit.now c.args.on.now.starts.now c.args.on.now.bads c.requires.0.ready.laid (state_in c.args.on.now) c.loop-n.n c.loop-n.invariant.0 (omega (arith, c.loop-n-test.true, c.requires.1))

pub returns-in_err-need : goal.returns-in_err-need
returns-in_err-need c =
    returned c.from_residual.result _ c.from_residual.ensures.1
    (left-stop (left_as (next (goal.at.returns-in_err-need c).In-loop-n) c.loop-n.invariant.1)
    (ap (λ q. q.0) c.qubit_of.ensures ∙ ap (name_in c.args.on.now.qubits.now) c.field_at-gate.ensures)
    c.in_err-need.ensures)

pub loop-n-preserved : goal.loop-n-preserved
loop-n-preserved c = (
  omega (arith, c.loop-n.invariant.0),
  left-on (left_as (next (goal.at.loop-n-preserved c).In-loop-n) c.loop-n.invariant.1)
      (ap (λ q. q.0) c.qubit_of.ensures ∙ ap (name_in c.args.on.now.qubits.now) c.field_at-gate.ensures)
      c.in_ok-need.ensures
      c.need.auto.values,
)

pub returns : goal.returns
returns c = left_end (left_as (bad-done c.args.on.now.circuit.now c.args.on.now.starts.now c.args.on.now.bads c.requires.0.ready.laid (state_in c.args.on.now) c.loop-n.n c.loop-n.invariant.0 (omega (arith, c.loop-n-test.false, c.requires.1))) c.loop-n.invariant.1)
