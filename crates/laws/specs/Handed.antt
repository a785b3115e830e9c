-- The error that a `?` hands on.
-- Assumes nothing.
use Rattle.std.specs.Prelude.{◌≡◌, Err, Result}
use Rattle.std.specs.Result.{IsErrAnd}
use Rattle.std.proofs.Common.{◌∙◌, ap}
use Rattle.std.proofs.lemmas.Result.{err_from_is_err_and}

pub handed_on : {T E : Type 0} (r : Result T E) {e : E} → IsErrAnd r (λ y. y ≡ e) → r ≡ Err e
handed_on r h = let x = err_from_is_err_and r h in x.1 ∙ ap Err x.2
