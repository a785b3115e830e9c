-- Samples, to the byte: 01's P in both forms and its half adder, and two circuits whose texts are the original program's. Each finished model is made by the
-- definitions of the model, from the rows that the sample's numbering gives and 01's fixing order.
-- Assumes nothing.
use Rattle.std.specs.Prelude.{◌≡◌, refl, true, false, [], ◌∷◌}
use Rattle.penalty.specs.declared.Kind.TheVariants as row
use Rattle.penalty.specs.Rows.{rows, row_of}
use Rattle.energy.specs.Plain.{wire}
use Rattle.energy.specs.Circuit.{Circuit, InputBit, Not, And, ResultHalfAdder, CarryHalfAdder}
use Rattle.energy.specs.Model.{Model, empty, add, add_linear, add_pair, place, place_all, give, without, fix, ends, ising, counted}
use Rattle.text.specs.Bytes.{bytes}
use Rattle.text.specs.Decimal.{decimal, digits}
use Rattle.text.specs.Halves.{half_text, halves_text}
use Rattle.text.specs.Text.{model_text, layout, lead_text, entry_text, input_text, bad_text, pair_text, entries}

-- the last of the fixing order: "1 true, 0 false"
constants : Model → Model
constants m = fix 0 false (fix 1 true m)

-- ---- P: "gates 0, 1 InputBit, 2 And(0,1); bad state gate 2 nid 30; input 0 nid 20 with bits 0, 1"

P : Circuit
P =
    record {
      gates = InputBit ∷ InputBit ∷ And 0 1 ∷ [];
      bads = record { gate = 2; nid = 30 } ∷ [];
      constraints = [];
      inputs = record { nid = 20; bits = 0 ∷ 1 ∷ [] } ∷ [];
    }

P-model : Model
unfolding constants
P-model = constants (fix 4 true (place_all (record { kind = row.And; x = 2; y = 3; w = 2; out = 4 } ∷ []) (empty 5)))

-- ---- the half adder: "InputBits 0, 1, half adder 2, its carry 3 the bad state: aux 4, carry 5, result 6"

half : Circuit
half =
    record {
      gates = InputBit ∷ InputBit ∷ ResultHalfAdder 0 1 ∷ CarryHalfAdder 2 ∷ [];
      bads = record { gate = 3; nid = 30 } ∷ [];
      constraints = [];
      inputs = record { nid = 20; bits = 0 ∷ 1 ∷ [] } ∷ [];
    }

half-model : Model
unfolding constants
half-model = constants (fix 5 true (place_all (record { kind = row.Half; x = 2; y = 3; w = 2; out = 4 } ∷ []) (empty 7)))

-- ---- one InputBit, listed, is the sole bad state, under the largest nid: it is fixed, and there are no entries

sole : Circuit
sole =
    record {
      gates = InputBit ∷ [];
      bads = record { gate = 0; nid = 18446744073709551615 } ∷ [];
      constraints = [];
      inputs = record { nid = 20; bits = 0 ∷ [] } ∷ [];
    }

sole-model : Model
unfolding constants
sole-model = constants (fix 2 true (empty 3))

-- ---- an input bit that nothing reaches, two bad states that stay free, and an input bit that a constraint fixes

mixed : Circuit
mixed =
    record {
      gates = InputBit ∷ InputBit ∷ Not 0 ∷ InputBit ∷ InputBit ∷ [];
      bads = record { gate = 2; nid = 30 } ∷ record { gate = 3; nid = 31 } ∷ [];
      constraints = record { gate = 4; value = false } ∷ [];
      inputs = record { nid = 20; bits = 0 ∷ 1 ∷ [] } ∷ record { nid = 21; bits = 3 ∷ 4 ∷ [] } ∷ [];
    }

mixed-model : Model
unfolding constants
mixed-model =
    constants
    (fix 5 false
    (fix 6 true
    (place_all (record { kind = row.Not; x = 2; y = 2; w = 2; out = 3 } ∷ record { kind = row.Or; x = 3; y = 4; w = 3; out = 6 } ∷ []) (empty 7))))

-- The table of the samples: the circuit, the qubits of its gates, its finished model, and the text.
samples :
    (model_text P (3 ∷ 4 ∷ 5 ∷ []) P-model ≡ bytes "2 6\n\n20 2,3 -,-\n\n30 4 1\n\n2 -4\n3 -4\n\n2 3 2\n")
    × (model_text P (3 ∷ 4 ∷ 5 ∷ []) (ising P-model) ≡ bytes "2 2.5\n\n20 2,3 -,-\n\n30 4 1\n\n2 -1.5\n3 -1.5\n\n2 3 0.5\n")
    × (model_text half (3 ∷ 4 ∷ 7 ∷ 6 ∷ []) half-model
    ≡ bytes "4 4\n\n20 2,3 -,-\n\n30 5 1\n\n2 -2\n3 -2\n4 8\n6 6\n\n2 4 -4\n3 4 4\n3 6 -4\n4 6 -4\n")
    × (model_text half (3 ∷ 4 ∷ 7 ∷ 6 ∷ []) (ising half-model)
    ≡ bytes "4 7\n\n20 2,3 -,-\n\n30 5 1\n\n2 -2\n3 -1\n4 3\n6 1\n\n2 4 -1\n3 4 1\n3 6 -1\n4 6 -1\n")
    × (model_text sole (3 ∷ []) sole-model ≡ bytes "0 0\n\n20 2 1\n\n18446744073709551615 2 1\n\n\n")
    × (model_text mixed (3 ∷ 0 ∷ 4 ∷ 5 ∷ 6 ∷ []) mixed-model
    ≡ bytes "3 4\n\n20 2,? -,0\n21 4,5 -,0\n\n30 3\n31 4\n\n2 -2\n3 -4\n4 -2\n\n2 3 4\n3 4 2\n")
    × (model_text mixed (3 ∷ 0 ∷ 4 ∷ 5 ∷ 6 ∷ []) (ising mixed-model)
    ≡ bytes "3 1.5\n\n20 2,? -,0\n21 4,5 -,0\n\n30 3\n31 4\n\n2 0\n3 -0.5\n4 -0.5\n\n2 3 1\n3 4 0.5\n")
unfolding P P-model half half-model sole sole-model mixed mixed-model constants rows row_of wire place place_all add add_linear add_pair give without fix ends ising counted decimal digits half_text halves_text layout lead_text entry_text input_text bad_text pair_text entries
samples = (refl, refl, refl, refl, refl, refl, refl)
