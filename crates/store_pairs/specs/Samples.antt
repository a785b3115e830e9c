-- The definitions at small logs, computed: keys in no order, two contributions to one key, and a sum that returns to 0 and stays.
-- Assumes nothing.
use Rattle.std.specs.Prelude.{◌≡◌, refl, [], ◌∷◌, pos, negsuc}
use Rattle.energy.specs.Model.{add}
use Rattle.store_pairs.specs.Store.{canonical}

sum-stays : canonical ((131077, pos 2) ∷ (65539, pos 1) ∷ (131077, negsuc 1) ∷ []) ≡ (65539, pos 1) ∷ (131077, pos 0) ∷ []
unfolding canonical add
sum-stays = refl

-- Or of qubits 2 and 3 as qubit 4, twice: the pairs 2 3, 2 4 and 3 4
or-twice : canonical ((131075, pos 2) ∷ (131076, negsuc 3) ∷ (196612, negsuc 3) ∷ (131075, pos 2) ∷ (131076, negsuc 3) ∷ (196612, negsuc 3) ∷ []) ≡ (131075, pos 4) ∷ (131076, negsuc 7) ∷ (196612, negsuc 7) ∷ []
unfolding canonical add
or-twice = refl
