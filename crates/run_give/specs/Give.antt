-- Giving the inputs: 11 to 13, and the bits of a value.
-- Assumes nothing: these are definitions.
use Rattle.std.specs.Prelude.{Bool, List, [], ◌∷◌, ℕ, suc, ◌-◌, eqb, ℤ, pos, get_or, set}
use Rattle.std.specs.Int.Signed.{quot_z, rem_z}
use Rattle.laws.specs.Equal.{eq_z}
use Rattle.units.specs.Name.{gate}
use Rattle.energy.specs.Circuit.{Input}
use Rattle.run_values.specs.declared.Stop.TheVariants.{NoQubit, NotUsedUp}
use Rattle.run_values.specs.Need.{Got, table, stopped, and_then, decide, bit}

-- "A bit is true when value % 2 is 1, then the value is halved toward zero, so a negative value sets only false bits."
abbrev pub low_bit : ℤ → Bool
low_bit v = eq_z (rem_z v (pos 2)) (pos 1)

abbrev pub halved : ℤ → ℤ
halved v = quot_z v (pos 2)

-- Input number k, from its first bit on; `qubits` has the qubit of each gate. "12: a listed input bit has no qubit; place: the gate. 13: a value is not
-- used up by its bits; place: the input."
unfoldable pub give_bits : List ℕ → ℕ → List ℕ → ℤ → List ℕ → Got
give_bits qubits k [] v t = decide (eq_z v (pos 0)) table (λ t. stopped (NotUsedUp k)) t
give_bits qubits k (g ∷ gs) v t =
    decide (eqb (get_or qubits g 0) 0) (λ t. stopped (NoQubit (gate g))) (λ t. give_bits qubits k gs (halved v) (set t (get_or qubits g 0 - 1) (bit (low_bit v)))) t

-- "then, for each input in order, 12 over its bits and 13": the inputs from number k on
unfoldable pub give_all : List ℕ → ℕ → List Input → List ℤ → List ℕ → Got
give_all qubits k [] vs t = table t
give_all qubits k (i ∷ is) [] t = table t
give_all qubits k (i ∷ is) (v ∷ vs) t = and_then (give_bits qubits k i.bits v t) (give_all qubits (suc k) is vs)
