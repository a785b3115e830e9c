-- `circuit_check::check` meets its contract, by what its calls ensure.
use Rattle.std.proofs.Common.{sym, ap, ◌∙◌}
use Rattle.circuit.specs.Check.{too_many}
use Rattle.circuit.specs.Limits.{regular}
use Rattle.circuit_check.proofs.Checks.{odd-length, too-many-records, form-broken, form-ok}
use Rattle.circuit_check.proofs.check.Goals as goal

pub returns-then-c-ne0 : goal.returns-then-c-ne0
returns-then-c-ne0 c = odd-length _ _ _ _ c.if-c-ne0.true

pub returns-then-too_many : goal.returns-then-too_many
returns-then-too_many c = too-many-records _ _ _ _ c.if-c-ne0.false (ap too_many (sym c.counts_of-k.ensures) ∙ sym c.too_many.ensures ∙ c.if-too_many.true)

pub check_names-requires : goal.check_names-requires
check_names-requires c = (regular _ (ap too_many (sym c.counts_of-k.ensures) ∙ sym c.too_many.ensures ∙ c.if-too_many.false) (sym c.first_broken.ensures ∙ c.in_default.is), c.counts_of-k.ensures, sym c.too_many.ensures ∙ c.if-too_many.false)

pub returns-in-Some : goal.returns-in-Some
returns-in-Some c = form-broken _ _ _ _ c.if-c-ne0.false (ap too_many (sym c.counts_of-k.ensures) ∙ sym c.too_many.ensures ∙ c.if-too_many.false) (sym c.first_broken.ensures ∙ c.in-Some.is)

pub returns : goal.returns
returns c = c.check_names.ensures ∙ sym (form-ok _ _ _ _ c.if-c-ne0.false (ap too_many (sym c.counts_of-k.ensures) ∙ sym c.too_many.ensures ∙ c.if-too_many.false) (sym c.first_broken.ensures ∙ c.in_default.is))
