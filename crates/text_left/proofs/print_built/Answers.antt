-- `text_left::print_built` meets its contract: the refusal as it is, or the text.
use Rattle.std.specs.Prelude.{ℕ, Result}
use Rattle.std.proofs.Common.{◌≡◌, sym, ap, ◌∙◌, []}
use Rattle.laws.specs.Handed.{handed_on}
use Rattle.qubot_left.specs.Built.{Tables, lent}
use Rattle.text_left.specs.Dumped.{printed_by}
use Rattle.text_left.proofs.print_built.Goals as goal
use Rattle.text_left.proofs.print_built.Goals.{Start}
use Rattle.qubot_left.specs.declared.Finished.{Finished}
use Rattle.circuit.specs.declared.Refusal.{Refusal}

-- the tables that are printed
abbrev tables : Start → Tables
tables s =
    lent s.args.qubits.now [] [] s.args.linear.now s.args.has.now [] s.args.fixed.now s.args.keys.now s.args.weights.now

-- what is printed, by the build's answer
same : (s : Start) (x : Result Finished Refusal) → s.args.built ≡ x
    → printed_by s.args.circuit.now s.args.buf.now (tables s) x ≡ printed_by s.args.circuit.now s.args.buf.now (tables s) s.args.built
same s x e = ap (printed_by s.args.circuit.now s.args.buf.now (tables s)) (sym e)

pub print_left-requires : goal.print_left-requires
print_left-requires c = c.requires _ c.in_ok-built.was

pub returns-in_err-built : goal.returns-in_err-built
returns-in_err-built c =
    ap (λ (z : Result ℕ Refusal). (c.args.buf.now, z)) (handed_on _ c.from_residual.ensures.1) ∙ same (goal.at.returns-in_err-built c).Start _ c.in_err-built.was

pub returns : goal.returns
returns c = c.print_left.ensures ∙ same (goal.at.returns c).Start _ c.in_ok-built.was
