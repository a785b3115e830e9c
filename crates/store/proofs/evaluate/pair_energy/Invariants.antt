-- `evaluate::pair_energy` meets its contract: what is summed and what the iterator has left is the whole (`Energies`).
use Rattle.std.proofs.Common.{length, take}
use Rattle.store_pairs.specs.Store.{zip}
use Rattle.store.specs.Tables.{setting_of}
use Rattle.store.specs.Evaluating.{joint_in}
use Rattle.store.proofs.Energies.{Joining}
use Rattle.store.proofs.evaluate.pair_energy.Given as goal

abbrev pub invariant-loop-key : goal.invariant-loop-key
invariant-loop-key l =
    Joining l.form (joint_in l.form) (setting_of l.values) (length l.values) (take l.n (zip l.keys l.weights)) l.e (zip l.key-iterator.a.rest.now l.key-iterator.b.rest.now)
