-- Gate numbers and qubit names, as their types have them: a tuple struct is an antt record whose field is `0`.
-- "In the text and in the tables qubit 0 is the false constant and 1 the true one; the first new name is 2."
-- Assumes nothing.
use Rattle.std.specs.Prelude.{ℕ, Bool, true, false}
use Rattle.units.specs.declared.Gate.{Gate}
use Rattle.units.specs.declared.Qubit.{Qubit}

abbrev pub gate : ℕ → Gate
gate n = record { 0 = n }

abbrev pub qubit : ℕ → Qubit
qubit n = record { 0 = n }

-- the constant's qubit
abbrev pub constant : Bool → Qubit
constant false = qubit 0
constant true = qubit 1

abbrev pub first_new : Qubit
first_new = qubit 2
