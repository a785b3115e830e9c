-- `circuit_check::check_names` meets its contract, by what its calls ensure.
use Rattle.std.proofs.Common.{sym, ap, ◌∙◌}
use Rattle.circuit.specs.declared.Counts.{Counts}
use Rattle.circuit.specs.Check.{roomed}
use Rattle.circuit.specs.Limits.{gates-of}
use Rattle.circuit_check.proofs.Checks.{named-late, named-wrong, named_ok}
use Rattle.circuit_check.proofs.check_names.Goals as goal

pub first_late-requires : goal.first_late-requires
first_late-requires c = (c.requires.0.form, ap (λ (k : Counts). k.gates) c.requires.1 ∙ gates-of _, c.list_tops-tops.ensures)

pub returns-in-Some : goal.returns-in-Some
returns-in-Some c = named-late _ _ _ _ (sym c.first_late.ensures ∙ c.in-Some.is)

pub returns-in-Some-first_wrong : goal.returns-in-Some-first_wrong
returns-in-Some-first_wrong c = named-wrong _ _ _ _ (sym c.first_late.ensures ∙ c.in_default.is) (sym c.first_wrong.ensures ∙ c.in-Some-first_wrong.is)

pub returns : goal.returns
returns c = c.check_room.ensures ∙ ap (λ (k : Counts). roomed k c.args.gates c.args.qubits c.args.pairs) c.requires.1 ∙ sym (named_ok _ _ _ _ (sym c.first_late.ensures ∙ c.in_default.is) (sym c.first_wrong.ensures ∙ c.in_default-first_wrong.is))
