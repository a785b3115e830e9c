-- `joined` meets its contract.
use Rattle.std.proofs.Common.{◌∙◌}
use Rattle.model_fixes.specs.Fixing.{joined-many, joined-one}
use Rattle.model_fixes.proofs.joined.Goals as goal

pub returns-then-numbered-gt1 : goal.returns-then-numbered-gt1
returns-then-numbered-gt1 c = joined-many c.requires c.if-numbered-gt1.true

pub returns-else-numbered-gt1 : goal.returns-else-numbered-gt1
returns-else-numbered-gt1 c = c.named_by.ensures ∙ joined-one c.requires c.if-numbered-gt1.false
