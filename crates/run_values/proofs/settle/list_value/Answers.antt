-- `run_values::settle::list_value` meets its contract: its sum is the number of the bits from i on.
use Rattle.std.proofs.Common.{◌<◌, ◌≡◌, ◌+◌, ◌*◌, ◌-◌, ◌^◌, arith, ap, refl, ◌∙◌}
use Rattle.circuit.specs.File.{field}
use Rattle.run_rules.specs.Code.{name_in}
use Rattle.run_values.specs.Need.{bit, is_true}
use Rattle.run_values.proofs.Numbers.{byte-is, turn, turn-fits, start, end}
use Rattle.run_values.proofs.settle.list_value.Goals as goal
use Rattle.run_values.proofs.settle.list_value.Goals.{After-from}

-- what this turn adds
added : (c : After-from) → c.from.result ≡ bit (is_true c.args.values.now (name_in c.args.on.now.qubits.now (field c.args.on.now.circuit.now (c.loop-i.i - 1) 1)))
added c = c.from.ensures ∙ byte-is c.truth.result ∙ ap bit (rw (c.truth.ensures, c.qubit_of-q.ensures, c.field_at.ensures) refl)

some : (c : After-from) → c.args.list.from < c.loop-i.i
some c = omega (arith, c.loop-i-test.true)

fits : (c : After-from) → c.from.result + 2 * c.loop-i.sum < 2 ^ 64
fits c =
    rw (added c)
    (turn-fits c.args.values.now c.args.on.now.circuit.now c.args.on.now.qubits.now c.args.list.from c.args.list.bits c.loop-i.i c.loop-i.sum (some c) c.loop-i.invariant.1 c.loop-i.invariant.2 c.requires.1)

pub loop-i-init : goal.loop-i-init
loop-i-init c = (omega arith, omega arith, start c.args.values.now c.args.on.now.circuit.now c.args.on.now.qubits.now c.args.list.from c.args.list.bits)

pub overflow_mul-sum : goal.overflow_mul-sum
overflow_mul-sum c = record { fits = omega (arith, fits c) }

pub overflow_add-sum : goal.overflow_add-sum
overflow_add-sum c = record { fits = fits c }

pub loop-i-preserved : goal.loop-i-preserved
loop-i-preserved c = (
  omega (arith, c.loop-i-test.true),
  omega arith,
  rw (added c)
      (turn c.args.values.now c.args.on.now.circuit.now c.args.on.now.qubits.now c.args.list.from c.args.list.bits c.loop-i.i c.loop-i.sum (some c) c.loop-i.invariant.1 c.loop-i.invariant.2),
)

pub returns : goal.returns
returns c =
    end c.args.values.now c.args.on.now.circuit.now c.args.on.now.qubits.now c.args.list.from c.args.list.bits c.loop-i.i c.loop-i.sum (omega (arith, c.loop-i-test.false, c.loop-i.invariant.0)) c.loop-i.invariant.2
