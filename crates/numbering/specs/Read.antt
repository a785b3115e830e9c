-- What the code reads of the bytes, and what its contracts ask. Assumes nothing: these are definitions.
use Rattle.std.specs.Prelude.{Result, Ok, Err, ◌≡◌, true, List, [], ◌∷◌, map, ℕ, zero, suc, ◌+◌, ◌*◌, ◌-◌, ◌≤◌, ◌<◌, length, get_or}
use Rattle.energy.specs.Circuit.{Gate, ConstFalse, nodes_of, Before}
use Rattle.circuit.specs.File.{field, kind_at}
use Rattle.circuit.specs.Count.{range}
use Rattle.circuit.specs.Meaning.{list_of, gate_at, circuit_of}
use Rattle.numbering.specs.State.{State, mk, slot}
use Rattle.numbering.specs.Numbered.{roots, Outcome, refused, numbered}
use Rattle.numbering.specs.Laws.{Inv}
use Rattle.numbering.specs.Finished.{Formed}
use Rattle.units.specs.declared.Qubit.{Qubit}
use Rattle.numbering.specs.declared.HasQubit.{HasQubit}
-- what a gate of each kind does
pub use Rattle.numbering_gate.specs.Kinds.{arity, act_of, is_division, Room, CanFinish}
unfoldable pub use Rattle.numbering_gate.specs.Kinds.{finish}

-- ---- lists of gates in the bytes

-- the fields i, i + 1, .. of gate g, n of them
unfoldable pub fields_from : List ℕ → ℕ → ℕ → ℕ → List ℕ
fields_from b g i zero = []
fields_from b g i (suc n) = field b g i ∷ fields_from b g (i + 1) n

-- the gates that the m records from n on name in their field i
unfoldable pub gates_from : List ℕ → ℕ → ℕ → ℕ → List ℕ
gates_from b i n m = map (λ (r : ℕ). field b r i) (range n m)

-- ---- what the contracts ask

abbrev pub gates_in : List ℕ → List Gate
gates_in b = (circuit_of b).gates

-- list number k lies from its start to the next one's
pub record ListAt (b starts : List ℕ) (k : ℕ) : Type 0 where
  pub small : k < 64
  pub rises : get_or starts k 0 ≤ get_or starts (k + 1) 0
  pub whole : 16 * get_or starts (k + 1) 0 ≤ length b
  pub bits : list_of b k ≡ gates_from b 1 (get_or starts k 0) (get_or starts (k + 1) 0 - get_or starts k 0)

-- The gates come first, and the lists of a division lie where `starts` says.
pub record Laid (b starts : List ℕ) : Type 0 where
  pub whole : 16 * length (gates_in b) ≤ length b
  pub gates : (g : ℕ) → g < length (gates_in b) → get_or (gates_in b) g ConstFalse ≡ gate_at b g
  pub dividend : (g : ℕ) → g < length (gates_in b) → is_division (act_of (kind_at b g)) ≡ true → ListAt b starts (field b g 0)
  pub divisor : (g : ℕ) → g < length (gates_in b) → is_division (act_of (kind_at b g)) ≡ true → ListAt b starts (field b g 1)

-- the bytes and the tables are ready for a visit
pub record Ready (b starts : List ℕ) (s : State) : Type 0 where
  pub laid : Laid b starts
  pub ordered : (g : ℕ) → Before (nodes_of (gates_in b)) g (nodes_of (gates_in b) g)
  pub small : length (gates_in b) ≤ 4000
  pub inv : Inv (gates_in b) s

-- gate g is there and has no qubit
pub record Fresh (b : List ℕ) (g : ℕ) (s : State) : Type 0 where
  pub gate : g < length (gates_in b)
  pub none : slot s g ≡ 0

-- the tables are t, and q is gate g's qubit in them
pub record Answer (g q : ℕ) (s t : State) : Type 0 where
  pub tables : s ≡ t
  pub qubit : q + 1 ≡ slot s g

-- ---- the roots

-- how the code's answer tells an outcome, with the tables
abbrev pub outcome_of : Result Qubit HasQubit → List ℕ → List ℕ → List ℕ → Outcome
outcome_of (Err had) q o r = refused had.gate.0 (mk q o r had.next.0)
outcome_of (Ok n) q o r = numbered (mk q o r n.0)

-- the same, where the tables have the next free name with them
abbrev pub ended_of : {A : Type 0} → Result A HasQubit → State → Outcome
ended_of (Err had) s = refused had.gate.0 (mk s.qubits s.origins s.roles had.next.0)
ended_of (Ok x) s = numbered s

-- The bad states are the records from `from` on, `bads` of them, and the constraints the `others` after them; both name a gate in their first field.
pub record RootsAt (b : List ℕ) (from bads others : ℕ) : Type 0 where
  pub whole : 16 * (from + bads + others) ≤ length b
  pub roots : roots (circuit_of b) ≡ gates_from b 0 from (bads + others)
  pub counted : length (circuit_of b).bads ≡ bads
  pub few : bads ≤ 4000

-- the bytes are ready to be numbered: the circuit is well formed, and lies in the bytes as the code reads it
pub record Prepared (b starts : List ℕ) (from bads others : ℕ) : Type 0 where
  pub laid : Laid b starts
  pub formed : Formed (circuit_of b)
  pub small : length (gates_in b) ≤ 4000
  pub roots_at : RootsAt b from bads others
