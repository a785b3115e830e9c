-- From a circuit that passed the checks to its finished model: names, penalties, joins, fixing, form, or refusal 8 or 9.
-- Assumes nothing: these are definitions.
use Rattle.std.specs.Prelude.{ℕ}
use Rattle.units.specs.declared.Form.{Form}
use Rattle.energy.specs.Circuit.{Circuit}
use Rattle.energy.specs.Model.{Model}
use Rattle.energy.specs.Clash.{Clash, none, at, clash}
use Rattle.numbering.specs.State.{State}
use Rattle.numbering.specs.Numbered.{Outcome, refused, numbered, number}
use Rattle.model_fixes.specs.Order.{fixes_of}
use Rattle.model.specs.Steps.{finished_of}

pub data Made : Type 0 where
  -- 8: the gate that already has a qubit when its turn comes
  already : ℕ → Made
  -- 9: the qubit that is to be fixed to two values
  clashes : ℕ → Made
  -- the names, and the finished model
  model : State → Model → Made

abbrev pub after_clash : Form → Circuit → State → Clash → Made
after_clash form c s (at q) = clashes q
after_clash form c s none = model s (finished_of form c s)

abbrev pub after_number : Form → Circuit → Outcome → Made
after_number form c (refused g s) = already g
after_number form c (numbered s) = after_clash form c s (clash (fixes_of c s))

unfoldable pub make : Form → Circuit → Made
make form c = after_number form c (number c)
