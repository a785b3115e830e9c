-- Listing the true bad states, as the code does it.
-- Assumes nothing: these are definitions.
use Rattle.std.specs.Prelude.{cond, List, [], ◌∷◌, ◌++◌, ℕ, zero, suc, ◌-◌, length, replicate}
use Rattle.circuit.specs.File.{field, nid_at}
use Rattle.run_rules.specs.Code.{name_in}
use Rattle.run_values.specs.Need.{is_true}
use Rattle.run_tables.specs.declared.Listing.{Listing}

-- the nids of the true ones of m bad states from record n on
unfoldable pub true_from : List ℕ → List ℕ → List ℕ → ℕ → ℕ → List ℕ
true_from b qubits t n zero = []
true_from b qubits t n (suc m) =
    cond (is_true t (name_in qubits (field b n 0))) (nid_at b n ∷ true_from b qubits t (suc n) m) (true_from b qubits t (suc n) m)

abbrev pub listed_as : List ℕ → Listing
listed_as ns = record { nids = ns ++ replicate (64 - length ns) 0; count = length ns }

abbrev pub listed_of : List ℕ → List ℕ → List ℕ → ℕ → ℕ → Listing
listed_of b qubits t n m = listed_as (true_from b qubits t n m)
