-- A run: the answer and the value table afterwards.
-- Assumes nothing: these are definitions.
use Rattle.std.specs.Prelude.{Bool, true, false, cond, List, [], ◌∷◌, ◌++◌, map, ℕ, suc, ◌-◌, eqb, ltb, ℤ, pos, length, drop, replicate, Err, Ok}
use Rattle.laws.specs.Equal.{eq_z}
use Rattle.units.specs.declared.Form.{Form}
use Rattle.units.specs.Halves.{energy_of}
use Rattle.energy.specs.Plain.{Setting}
use Rattle.energy.specs.Circuit.{Circuit, Bad}
use Rattle.energy.specs.Model.{Model, Entry, low, high, energy_in}
use Rattle.numbering.specs.State.{State, qubit_of}
use Rattle.numbering.specs.Numbered.{bad_gates}
use Rattle.circuit.specs.Meaning.{circuit_of}
use Rattle.store.specs.Tables.{Tables, model_of}
use Rattle.circuit.specs.declared.Refusal.{Refusal}
use Rattle.circuit.specs.declared.Refusal.TheVariants.{FewValues, OtherCount}
pub use Rattle.run_values.specs.Code.{refusal_of}
use Rattle.run_outcome.specs.declared.Run.{Run}
use Rattle.run_values.specs.Need.{Got, table, stopped, and_then, each, is_true, Net, need_of}
use Rattle.run_meaning.specs.Give.{give_all}

-- ---- what a run starts from: the circuit, its numbering, and the finished model

pub record Built : Type 0 where
  pub circuit : Circuit
  pub state : State
  pub model : Model
  pub form : Form

-- what the file and the tables of the build say
abbrev pub built_of : List ℕ → State → Form → Tables → Built
built_of b s form t = record { circuit = circuit_of b; state = s; model = model_of t; form = form }

abbrev pub net_of : Built → Net
net_of u = record { circuit = u.circuit; state = u.state; fixed = u.model.fixed }

-- ---- "Needed, in this order: linear entries by name; rows by name (empty ones also), each with its higher neighbours by name; bad states."

-- the names from q on whose flag is 1
unfoldable pub marked : ℕ → List ℕ → List ℕ
marked q [] = []
marked q (f ∷ fs) = cond (eqb f 1) (q ∷ marked (suc q) fs) (marked (suc q) fs)

-- the keys of the pairs, rising
unfoldable pub keys_of : List Entry → List ℕ
keys_of [] = []
keys_of (e ∷ s) = e.0 ∷ keys_of s

-- the higher neighbours of q, as the keys have them
unfoldable pub higher : ℕ → List ℕ → List ℕ
higher q [] = []
higher q (k ∷ ks) = cond (eqb (low k) q) (high k ∷ higher q ks) (higher q ks)

-- each of these names, with its higher neighbours
unfoldable pub with_higher : List ℕ → List ℕ → List ℕ
with_higher ks [] = []
with_higher ks (q ∷ qs) = (q ∷ higher q ks) ++ with_higher ks qs

abbrev pub bad_qubits : Circuit → State → List ℕ
bad_qubits c s = map (qubit_of s) (bad_gates c)

abbrev pub needed : Built → List ℕ
needed u =
    marked 0 u.model.has_linear ++ (with_higher (keys_of u.model.pairs) (marked 0 u.model.has_row) ++ bad_qubits u.circuit u.state)

-- ---- the answer

-- the setting that a table of values holds: 1 is true
abbrev pub setting_of : List ℕ → Setting
setting_of t q = is_true t q

-- "True bad states are listed in file order, each by its nid"
unfoldable pub true_nids : State → List Bad → List ℕ → List ℕ
true_nids s [] t = []
true_nids s (b ∷ bs) t = cond (is_true t (qubit_of s b.gate)) (b.nid ∷ true_nids s bs t) (true_nids s bs t)

-- an answer, and the value table afterwards
pub record Done : Type 0 where
  pub run : Run
  pub values : List ℕ

abbrev pub done : Run → List ℕ → Done
done r t = record { run = r; values = t }

-- "inside the answer (at most 64)": entries after the last are 0
abbrev pub listing : List ℕ → List ℕ
listing ns = ns ++ replicate (64 - length ns) 0

abbrev pub refusal : Refusal → Run
refusal x = record { outcome = Err x; nids = replicate 64 0; count = 0 }

-- "A run is a hit when the energy is 0."
abbrev pub answer : Form → ℤ → List ℕ → Run
answer form h ns = record { outcome = Ok (energy_of h form, eq_z h (pos 0)); nids = listing ns; count = length ns }

-- "the value bytes of the model's qubits", unknown
abbrev pub unknowns : Built → List ℕ
unknowns u = replicate u.state.next 2

-- "11 to 15 set the value bytes of the model's qubits to 2 (unknown). After success such a byte is the qubit's value if it was given or needed, else 2."
abbrev pub finished : Built → Got → Done
finished u (table t) =
    done (answer u.form (energy_in u.form (setting_of t) u.model) (true_nids u.state u.circuit.bads t)) t
finished u (stopped x) = done (refusal (refusal_of x)) (unknowns u)

-- one of two answers: of functions, so that the other is not computed
abbrev pub choose : Bool → (List ℕ → Done) → (List ℕ → Done) → List ℕ → Done
choose true f h t = f t
choose false f h t = h t

-- the values of all that is needed, from a table of unknowns
unfoldable pub valued : Built → List ℤ → List ℕ → Got
valued u vs t = and_then (give_all u.state.qubits 0 u.circuit.inputs vs t) (each (need_of (net_of u)) (needed u))

-- on the value bytes of the model's qubits: "11 next; then, for each input in order, 12 over its bits and 13; then 14 and 15 as met"
unfoldable pub within : Built → List ℤ → Done
within u vs =
    choose (eqb (length vs) (length u.circuit.inputs)) (λ t. finished u (valued u vs t)) (done (refusal OtherCount)) (unknowns u)

-- "later bytes stay"
abbrev pub beside : List ℕ → Done → Done
beside later d = done d.run (d.values ++ later)

-- "10 changes no value byte"
unfoldable pub ran : Built → List ℤ → List ℕ → Done
ran u vs t =
    choose (ltb (length t) u.state.next) (done (refusal FewValues)) (λ t. beside (drop u.state.next t) (within u vs)) t
