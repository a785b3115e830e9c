-- The model text, in 01's words: "count and offset; each input's nid, qubits (`?` if none) and fixed values (`-` if none, `0` for `?`); each bad state's
-- nid, qubit and fixed value if any; linear entries by name; pairs, lower first." Every line ends in a newline, and a blank line stands between the parts.
-- What the text says is a sheet; `layout` spells it, and `sheet_of` finds it in the finished model.
-- Assumes nothing: these are definitions.
use Rattle.std.specs.Prelude.{Bool, true, false, cond, List, [], ◌∷◌, ◌++◌, map, ℕ, zero, suc, ◌-◌, eqb, ℤ, get_or}
use Rattle.std.proofs.Math.Option.{Option, none, some}
use Rattle.energy.specs.Circuit.{Bad, Input, Circuit}
use Rattle.energy.specs.Model.{Entry, Model, low, high, variables}
use Rattle.text.specs.Decimal.{decimal}
use Rattle.text.specs.Halves.{halves_text}

-- ---- what the text says

-- What is said of an input bit: its gate has no qubit; or the qubit's name, and the value that it is fixed to, if any.
pub data Shown : Type 0 where
  absent : Shown
  qubit : ℕ → Option Bool → Shown

pub record InputLine : Type 0 where
  pub nid : ℕ
  pub bits : List Shown

pub record BadLine : Type 0 where
  pub nid : ℕ
  -- the qubit's name, and the value that it is fixed to, if any
  pub name : ℕ
  pub value : Option Bool

pub record Sheet : Type 0 where
  pub count : ℕ
  pub offset : ℤ
  pub inputs : List InputLine
  pub bads : List BadLine
  -- name and count of halves
  pub linear : List (ℕ × ℤ)
  -- key and count of halves
  pub pairs : List Entry

-- ---- its spelling: bytes of ASCII, of which 63 is `?`, 48 and 49 are `0` and `1`, and 45 is `-`

abbrev pub newline : ℕ
newline = 10

abbrev pub space : ℕ
space = 32

abbrev pub comma : ℕ
comma = 44

-- lines one after another
abbrev pub lines : {A : Type 0} → (A → List ℕ) → List A → List ℕ
lines f [] = []
lines f (x ∷ xs) = f x ++ lines f xs

-- words with a comma between each two
abbrev pub commas : {A : Type 0} → (A → List ℕ) → List A → List ℕ
commas f [] = []
commas f (x ∷ []) = f x
commas f (x ∷ y ∷ ys) = f x ++ (comma ∷ commas f (y ∷ ys))

-- "qubits (`?` if none)"
abbrev pub qubit_text : Shown → List ℕ
qubit_text absent = 63 ∷ []
qubit_text (qubit q v) = decimal q

-- a value: 0 or 1
abbrev pub bit_byte : Bool → ℕ
bit_byte false = 48
bit_byte true = 49

-- `-` if none
abbrev pub fixed_byte : Option Bool → ℕ
fixed_byte none = 45
fixed_byte (some b) = bit_byte b

-- "fixed values (`-` if none, `0` for `?`)"
abbrev pub value_byte : Shown → ℕ
value_byte absent = 48
value_byte (qubit q v) = fixed_byte v

abbrev pub value_text : Shown → List ℕ
value_text s = value_byte s ∷ []

-- an input bit's word: of the qubits, or of the fixed values
abbrev pub word : Bool → Shown → List ℕ
word false s = qubit_text s
word true s = value_text s

-- "fixed value if any", to the line's end
abbrev pub end_text : Option Bool → List ℕ
end_text none = newline ∷ []
end_text (some b) = space ∷ bit_byte b ∷ newline ∷ []

-- a number that leads a line, and a space
unfoldable pub lead_text : ℕ → List ℕ
lead_text n = decimal n ++ (space ∷ [])

-- a number and a count of halves: "count and offset", and a linear entry
unfoldable pub entry_text : ℕ → ℤ → List ℕ
entry_text n h = lead_text n ++ (halves_text h ++ (newline ∷ []))

unfoldable pub input_text : InputLine → List ℕ
input_text l = lead_text l.nid ++ (commas (word false) l.bits ++ (space ∷ (commas (word true) l.bits ++ (newline ∷ []))))

unfoldable pub bad_text : BadLine → List ℕ
bad_text l = lead_text l.nid ++ (decimal l.name ++ end_text l.value)

abbrev pub linear_text : ℕ × ℤ → List ℕ
linear_text e = entry_text e.0 e.1

-- "pairs, lower first"
unfoldable pub pair_text : Entry → List ℕ
pair_text e = lead_text (low e.0) ++ entry_text (high e.0) e.1

-- the inputs and the bad states, with a blank line after each
abbrev pub circuit_text : List InputLine → List BadLine → List ℕ
circuit_text is bs = lines input_text is ++ (newline ∷ (lines bad_text bs ++ (newline ∷ [])))

-- the linear entries, a blank line, and the pairs
abbrev pub entries_text : List (ℕ × ℤ) → List Entry → List ℕ
entries_text ls ps = lines linear_text ls ++ (newline ∷ lines pair_text ps)

unfoldable pub layout : Sheet → List ℕ
layout s = entry_text s.count s.offset ++ (newline ∷ (circuit_text s.inputs s.bads ++ entries_text s.linear s.pairs))

-- ---- what it says of a finished model

-- by an entry of the table of fixed values: 0 not fixed, 1 fixed false, 2 fixed true
abbrev pub fixed_by : ℕ → Option Bool
fixed_by f = cond (eqb f 1) (some false) (cond (eqb f 2) (some true) none)

-- by an entry of the table of qubits: 0 no qubit, else the name + 1
abbrev pub shown : List ℕ → ℕ → Shown
shown fs zero = absent
shown fs (suc q) = qubit q (fixed_by (get_or fs q 0))

-- by a gate
abbrev pub shown_at : List ℕ → List ℕ → ℕ → Shown
shown_at qubits fs g = shown fs (get_or qubits g 0)

abbrev pub input_line : List ℕ → List ℕ → Input → InputLine
input_line qubits fs i = record { nid = i.nid; bits = map (shown_at qubits fs) i.bits }

-- a bad state has a qubit
abbrev pub bad_line : List ℕ → List ℕ → Bad → BadLine
bad_line qubits fs b = record { nid = b.nid; name = get_or qubits b.gate 0 - 1; value = fixed_by (get_or fs (get_or qubits b.gate 0 - 1) 0) }

-- the linear entries of the qubits q, q + 1, ..: of those that have one
unfoldable pub entries : ℕ → List ℕ → List ℤ → List (ℕ × ℤ)
entries q [] cs = []
entries q (h ∷ hs) [] = []
entries q (h ∷ hs) (c ∷ cs) = cond (eqb h 1) ((q, c) ∷ entries (suc q) hs cs) (entries (suc q) hs cs)

-- the sheet, by the model's numbers
abbrev pub sheet_by : Circuit → List ℕ → ℕ → ℤ → List ℕ → List ℕ → List ℤ → List Entry → Sheet
sheet_by c qubits n o fs hs cs ps =
    record {
      count = n;
      offset = o;
      inputs = map (input_line qubits fs) c.inputs;
      bads = map (bad_line qubits fs) c.bads;
      linear = entries 0 hs cs;
      pairs = ps;
    }

abbrev pub sheet_of : Circuit → List ℕ → Model → Sheet
sheet_of c qubits m = sheet_by c qubits (variables m) m.offset m.fixed m.has_linear m.linear m.pairs

-- The text of a finished model, by its circuit and the qubits that its gates have.
abbrev pub model_text : Circuit → List ℕ → Model → List ℕ
model_text c qubits m = layout (sheet_of c qubits m)
