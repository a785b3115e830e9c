-- Where the circuit's parts stand in its file, and that every name's rule leads to names before it.
-- Assumes nothing: these are definitions.
use Rattle.std.specs.Prelude.{◌≡◌, Bool, true, false, List, [], ◌∷◌, ℕ, zero, suc, ◌+◌, ◌*◌, ◌-◌, ◌≤◌, ◌<◌, length, get_or}
use Rattle.circuit.specs.declared.GateKind.{GateKind}
use Rattle.circuit.specs.declared.GateKind.TheVariants as kind
use Rattle.energy.specs.Circuit.{Circuit, ConstFalse}
use Rattle.circuit.specs.File.{field, kind_at}
use Rattle.circuit.specs.Meaning.{list_of, gate_at, bad_at, circuit_of}
use Rattle.numbering.specs.State.{State, slot, origin, role, qubit_of}
use Rattle.numbering.specs.Numbered.{bad_gates}
use Rattle.run_rules.specs.Rules.{law_of, operands, depth}

-- ---- the file

-- the gates of the m records from n on: field 1
unfoldable pub named : List ℕ → ℕ → ℕ → List ℕ
named b n zero = []
named b n (suc m) = field b n 1 ∷ named b (suc n) m

unfoldable pub is_division : GateKind → Bool
is_division kind.ConstFalse = false
is_division kind.ConstTrue = false
is_division kind.InputBit = false
is_division kind.Not = false
is_division kind.And = false
is_division kind.Nand = false
is_division kind.Or = false
is_division kind.Matriarch1 = false
is_division kind.CarryHalfAdder = false
is_division kind.ResultHalfAdder = false
is_division kind.CarryFullAdder = false
is_division kind.ResultFullAdder = false
is_division kind.Quotient = true
is_division kind.Remainder = true

-- `starts` holds where the bits of each list begin, and after the last where they end; `bad_from` is the first bad state's record
pub record Laid (b starts : List ℕ) (bad_from : ℕ) : Type 0 where
  -- the n-th gate is record n
  pub gates : (g : ℕ) → g < length (circuit_of b).gates → get_or (circuit_of b).gates g ConstFalse ≡ gate_at b g
  pub gates-there : 16 * length (circuit_of b).gates ≤ length b
  -- the bits of a list stand together, and there are at most 64
  pub starts-there : length starts ≡ 65
  pub lists : (k : ℕ) → k < 64 → list_of b k ≡ named b (get_or starts k 0) (get_or starts (k + 1) 0 - get_or starts k 0)
  pub lists-there : (k : ℕ) → k < 65 → 16 * get_or starts k 0 ≤ length b
  pub lists-rise : (k : ℕ) → k < 64 → get_or starts k 0 ≤ get_or starts (k + 1) 0
  pub lists-short : (k : ℕ) → k < 64 → get_or starts (k + 1) 0 ≤ get_or starts k 0 + 64
  -- a division's lists are numbered
  pub divisions : (g : ℕ) → g < length (circuit_of b).gates → is_division (kind_at b g) ≡ true → (field b g 0 < 64) × (field b g 1 < 64)
  -- bad states stand together
  pub bads : (i : ℕ) → i < length (circuit_of b).bads → get_or (circuit_of b).bads i (record { gate = 0; nid = 0 }) ≡ bad_at b (bad_from + i)
  pub bads-there : 16 * (bad_from + length (circuit_of b).bads) ≤ length b

-- ---- the names

-- each of these names comes before n, and is less deep than d
abbrev pub AllLess : Circuit → State → ℕ → ℕ → List ℕ → Type 0
AllLess c s n d [] = Unit {0}
AllLess c s n d (x ∷ xs) = (x < n) × (depth c s x < d) × AllLess c s n d xs

pub record Formed (c : Circuit) (s : State) : Type 0 where
  -- a name is a gate's, or a join step's
  pub of-gate : (q : ℕ) → q < s.next → 1 ≤ role s q → role s q ≤ 3 → origin s q < length c.gates
  pub of-join : (q : ℕ) → q < s.next → role s q ≡ 4 → origin s q < length c.bads
  -- what a rule reads is named, and less deep
  pub falls : (q : ℕ) → q < s.next → AllLess c s s.next (depth c s q) (operands (law_of c s q))
  pub origins : s.next ≤ length s.origins
  pub roles : s.next ≤ length s.roles
  pub names : s.next ≤ 65536
  -- a bad state has a name
  pub bad-named : (i : ℕ) → i < length c.bads → qubit_of s (get_or (bad_gates c) i 0) < s.next
  -- and so has every gate with a qubit
  pub slots : (g : ℕ) → slot s g ≤ s.next
  pub constants : 2 ≤ s.next
  -- 0 and 1 are the constants, which no join takes
  pub new : (q : ℕ) → role s q ≡ 4 → 2 ≤ q
