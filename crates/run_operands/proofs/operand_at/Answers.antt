-- `run_operands::operand_at` meets its contract.
use Rattle.std.proofs.Common.{sym, ap, ◌∙◌}
use Rattle.run_operands.proofs.Listed.{read-few, read_first, read-second}
use Rattle.run_rules.specs.Code.{name_in}
use Rattle.run_operands.proofs.operand_at.Goals as goal
use Rattle.run_operands.proofs.operand_at.Goals.{then-j-o, else-j-o}
use Rattle.circuit.specs.File.{field}

pub returns-then-i-o : goal.returns-then-i-o
returns-then-i-o c = ap (λ q. q.0) c.few_at.ensures ∙ sym (read-few c.args.on.now.circuit.now c.args.on.now.qubits.now c.args.o c.args.i c.requires.three c.if-i-o.true)

pub returns : goal.returns
returns c =
    ap (λ q. q.0) c.qubit_of.ensures
    ∙ ap (name_in c.args.on.now.qubits.now) c.field_at.ensures
    ∙ elim c.if-j-o.branch [
      | then-j-o w ↦
          ap (λ n. name_in c.args.on.now.qubits.now (field c.args.on.now.circuit.now n 1)) w.at-is
          ∙ sym (read_first c.args.on.now.circuit.now c.args.on.now.qubits.now c.args.o c.requires.three c.args.i c.if-i-o.false w.if-j-o.true)
      | else-j-o w ↦
          ap (λ n. name_in c.args.on.now.qubits.now (field c.args.on.now.circuit.now n 1)) w.at-is
          ∙ sym (read-second c.args.on.now.circuit.now c.args.on.now.qubits.now c.args.o c.requires.three c.args.i c.if-i-o.false w.if-j-o.false c.requires.inside)
    ]
