-- `evaluate::linear_energy` meets its contract: what is summed and what is left is the whole (`Energies`).
use Rattle.store.specs.Tables.{setting_of}
use Rattle.store.proofs.Energies.{Weighing}
use Rattle.store.proofs.evaluate.linear_energy.Given as goal

abbrev pub invariant-loop-i : goal.invariant-loop-i
invariant-loop-i l = Weighing l.form (setting_of l.values) l.linear l.e l.i
