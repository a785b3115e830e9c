-- The nine lent tables as one value of the code.
-- Assumes nothing: these are definitions.
use Rattle.std.specs.Prelude.{◌≡◌, length}
use Rattle.qubot_fill.specs.Tables.{Tables, lent}
use Rattle.qubot_left.specs.declared.LentTables.{LentTables}

-- what stands in them
abbrev pub lent_in : LentTables → Tables
lent_in t =
    lent t.qubits.now t.origins.now t.roles.now t.linear.now t.has_linear.now t.has_row.now
    t.fixed.now
    t.keys.now
    t.weights.now

-- they are still the tables that were lent, each as long as before
pub record SameTables (old new : LentTables) : Type 0 where
  pub qubits : new.qubits.ghost_name ≡ old.qubits.ghost_name
  pub origins : new.origins.ghost_name ≡ old.origins.ghost_name
  pub roles : new.roles.ghost_name ≡ old.roles.ghost_name
  pub linear : new.linear.ghost_name ≡ old.linear.ghost_name
  pub has_linear : new.has_linear.ghost_name ≡ old.has_linear.ghost_name
  pub has_row : new.has_row.ghost_name ≡ old.has_row.ghost_name
  pub fixed : new.fixed.ghost_name ≡ old.fixed.ghost_name
  pub keys : new.keys.ghost_name ≡ old.keys.ghost_name
  pub weights : new.weights.ghost_name ≡ old.weights.ghost_name
  pub qubits_long : length new.qubits.now ≡ length old.qubits.now
  pub origins_long : length new.origins.now ≡ length old.origins.now
  pub roles_long : length new.roles.now ≡ length old.roles.now
  pub linear_long : length new.linear.now ≡ length old.linear.now
  pub has_linear_long : length new.has_linear.now ≡ length old.has_linear.now
  pub has_row_long : length new.has_row.now ≡ length old.has_row.now
  pub fixed_long : length new.fixed.now ≡ length old.fixed.now
  pub keys_long : length new.keys.now ≡ length old.keys.now
  pub weights_long : length new.weights.now ≡ length old.weights.now
