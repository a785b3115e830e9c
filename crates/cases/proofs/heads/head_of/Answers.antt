-- `heads::head_of` meets its contract: the three tests, and what the readers ensure.
use Rattle.std.proofs.Common.{lt-ltb, le-ltb}
use Rattle.cases.proofs.heads.head_of.Goals as goal

pub returns-then-s-lt8 : goal.returns-then-s-lt8
returns-then-s-lt8 c = simp (lt-ltb _ _ c.if-s-lt8.true)

pub returns-then-form-gt1 : goal.returns-then-form-gt1
returns-then-form-gt1 c = simp (le-ltb _ _ c.if-s-lt8.false, lt-ltb _ _ c.if-form-gt1.true)

pub returns-then-job-gt1 : goal.returns-then-job-gt1
returns-then-job-gt1 c = simp (le-ltb _ _ c.if-s-lt8.false, le-ltb _ _ c.if-form-gt1.false, lt-ltb _ _ c.if-job-gt1.true)

pub returns : goal.returns
returns c =
    simp (
      le-ltb _ _ c.if-s-lt8.false,
      le-ltb _ _ c.if-form-gt1.false,
      le-ltb _ _ c.if-job-gt1.false,
      c.from.ensures,
      c.form_of.ensures,
      c.word_at.ensures,
      c.half_at.ensures,
    )
