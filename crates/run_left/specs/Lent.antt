-- The tables that a build left, as they are lent.
-- Assumes nothing: these are definitions.
use Rattle.qubot_left.specs.Built.{Tables, lent}
use Rattle.run_left.specs.declared.LeftTables.{LeftTables}

abbrev pub lent_in : LeftTables → Tables
lent_in t =
    lent t.qubits.now t.origins.now t.roles.now t.linear.now t.has_linear.now t.has_row.now
    t.fixed.now
    t.keys.now
    t.weights.now
