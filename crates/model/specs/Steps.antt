-- The steps from a numbered circuit to its finished model: penalties and joins placed, qubits fixed (the crate `model_fixes`), the form.
-- Assumes nothing: these are definitions.
use Rattle.units.specs.declared.Form.{Form}
use Rattle.energy.specs.Circuit.{Circuit}
use Rattle.energy.specs.Model.{Model, empty, place_all}
use Rattle.energy.specs.Fixing.{fix_all}
use Rattle.energy.specs.Finished.{in_form}
use Rattle.numbering.specs.State.{State, names_of}
use Rattle.numbering.specs.Numbered.{rows_of}
use Rattle.model_fixes.specs.Order.{fixes_of}

-- the model before fixing: the penalties of the named gates and of the joins, in the order of the names
unfoldable pub placed_of : Circuit → State → Model
placed_of c s = place_all (rows_of c s) (empty (names_of c))

-- the finished model, in the form asked for
unfoldable pub finished_of : Form → Circuit → State → Model
finished_of form c s = in_form form (fix_all (fixes_of c s) (placed_of c s))
