-- Samples of 01, computed: the finished model, its Ising form and the variable count of each circuit, in counts of halves, under a numbering written out by hand.
-- The theorems that an edit of a definition breaks are in proofs/Samples.antt.
-- Assumes nothing.
use Rattle.std.specs.Prelude.{Bool, true, false, List, [], ◌∷◌, map, ℕ, ◌+◌, ◌-◌, ◌*◌, ℤ, pos, neg_ℤ, get_or}
use Rattle.units.specs.declared.Form.TheVariants.{Binary, Ising}
use Rattle.energy.specs.Circuit.{Gate, ConstTrue, ConstFalse, InputBit, And, ResultHalfAdder, CarryHalfAdder, nodes_of}
use Rattle.energy.specs.Numbering.{Named}
use Rattle.energy.specs.Model.{Model, ising, variables, energy_in}
use Rattle.energy.specs.Finished.{fixes, finished}
use Rattle.energy.specs.Lists.{as_setting}
use Rattle.energy.specs.Clash.{Clash, none, at, clash}

-- a circuit with one bad state, its names, and what 01 says of it
pub record Sample : Type 0 where
  pub size : ℕ
  pub named : Named
  pub binary : Model
  pub turned : Model
  pub count : ℕ
  pub clash : Clash
  -- settings, by name, each with its energy in the one form and in the other
  pub energies : List (List Bool × ℤ × ℤ)

-- 01's numbers as counts of halves
abbrev whole : ℕ → ℤ
whole n = pos (n + n)

abbrev less : ℤ → ℤ
less = neg_ℤ

-- the pair of a lower and a higher qubit
abbrev pair : ℕ → ℕ → ℤ → ℕ × ℤ
pair p q c = (p * 65536 + q, c)

-- one bad state, and the first name of each gate, in the order of the gates
abbrev numbered : List Gate → ℕ → List ℕ → List ℕ → ℕ → Named
numbered gs bad reached names count =
    record {
      nodes = nodes_of gs;
      bad = bad;
      bads = [];
      reached = reached;
      base = λ g. get_or names g 0;
      next = count;
      count = count;
      origin = λ q. q - 2;
    }

-- "Circuit P: gates 0, 1 InputBit, 2 And(0,1); bad state gate 2." It "makes qubits 2, 3, 4"
abbrev pub P : Named
P = numbered (InputBit ∷ InputBit ∷ And 0 1 ∷ []) 2 (0 ∷ 1 ∷ 2 ∷ []) (2 ∷ 3 ∷ 4 ∷ []) 5

abbrev z : ℤ
z = pos 0

-- the starred lines of 01 that speak of a model
unfoldable pub samples : List Sample
samples =
    -- "finished: 2 and 3 have -4, pair 2 3 has 2, offset 6." "P in Ising form: -1.5, -1.5, pair 0.5, offset 2.5."
    record {
      size = 5;
      named = P;
      binary =
          record {
            offset = whole 6;
            linear = z ∷ z ∷ less (whole 4) ∷ less (whole 4) ∷ z ∷ [];
            has_linear = 0 ∷ 0 ∷ 1 ∷ 1 ∷ 0 ∷ [];
            has_row = 0 ∷ 0 ∷ 1 ∷ 1 ∷ 0 ∷ [];
            fixed = 1 ∷ 2 ∷ 0 ∷ 0 ∷ 2 ∷ [];
            pairs = pair 2 3 (whole 2) ∷ [];
          };
      turned =
          record {
            offset = pos 5;
            linear = z ∷ z ∷ less (pos 3) ∷ less (pos 3) ∷ z ∷ [];
            has_linear = 0 ∷ 0 ∷ 1 ∷ 1 ∷ 0 ∷ [];
            has_row = 0 ∷ 0 ∷ 1 ∷ 1 ∷ 0 ∷ [];
            fixed = 1 ∷ 2 ∷ 0 ∷ 0 ∷ 2 ∷ [];
            pairs = pair 2 3 (pos 1) ∷ [];
          };
      count = 2;
      clash = none;
      -- "P, value 3: energy 0. Value 1: energy 2. Value -1: energy 6."
      energies =
          (false ∷ true ∷ true ∷ true ∷ true ∷ [], whole 0, whole 0)
          ∷ (false ∷ true ∷ true ∷ false ∷ true ∷ [], whole 2, whole 2)
          ∷ (false ∷ true ∷ false ∷ false ∷ true ∷ [], whole 6, whole 6)
          ∷ [];
    } ∷
    -- "And(0,0) as bad state, gate 0 InputBit: linear 2 has -6, offset 6, one variable."
    record {
      size = 4;
      named = numbered (InputBit ∷ And 0 0 ∷ []) 1 (0 ∷ 1 ∷ []) (2 ∷ 3 ∷ []) 4;
      binary =
          record {
            offset = whole 6;
            linear = z ∷ z ∷ less (whole 6) ∷ z ∷ [];
            has_linear = 0 ∷ 0 ∷ 1 ∷ 0 ∷ [];
            has_row = 0 ∷ 0 ∷ 1 ∷ 0 ∷ [];
            fixed = 1 ∷ 2 ∷ 0 ∷ 2 ∷ [];
            pairs = [];
          };
      turned =
          record {
            offset = whole 3;
            linear = z ∷ z ∷ less (whole 3) ∷ z ∷ [];
            has_linear = 0 ∷ 0 ∷ 1 ∷ 0 ∷ [];
            has_row = 0 ∷ 0 ∷ 1 ∷ 0 ∷ [];
            fixed = 1 ∷ 2 ∷ 0 ∷ 2 ∷ [];
            pairs = [];
          };
      count = 1;
      clash = none;
      energies = [];
    } ∷
    -- "InputBits 0, 1, half adder 2, its carry 3 the bad state: aux 4, carry 5, result 6; linear 2: -2, 3: -2, 4: 8, 6: 6; offset 4."
    record {
      size = 7;
      named = numbered (InputBit ∷ InputBit ∷ ResultHalfAdder 0 1 ∷ CarryHalfAdder 2 ∷ []) 3 (0 ∷ 1 ∷ 2 ∷ 3 ∷ []) (2 ∷ 3 ∷ 4 ∷ []) 7;
      binary =
          record {
            offset = whole 4;
            linear = z ∷ z ∷ less (whole 2) ∷ less (whole 2) ∷ whole 8 ∷ z ∷ whole 6 ∷ [];
            has_linear = 0 ∷ 0 ∷ 1 ∷ 1 ∷ 1 ∷ 0 ∷ 1 ∷ [];
            has_row = 0 ∷ 0 ∷ 1 ∷ 1 ∷ 1 ∷ 0 ∷ 1 ∷ [];
            fixed = 1 ∷ 2 ∷ 0 ∷ 0 ∷ 0 ∷ 2 ∷ 0 ∷ [];
            pairs = pair 2 4 (less (whole 4)) ∷ pair 3 4 (whole 4) ∷ pair 3 6 (less (whole 4)) ∷ pair 4 6 (less (whole 4)) ∷ [];
          };
      turned =
          record {
            offset = whole 7;
            linear = z ∷ z ∷ less (whole 2) ∷ less (whole 1) ∷ whole 3 ∷ z ∷ whole 1 ∷ [];
            has_linear = 0 ∷ 0 ∷ 1 ∷ 1 ∷ 1 ∷ 0 ∷ 1 ∷ [];
            has_row = 0 ∷ 0 ∷ 1 ∷ 1 ∷ 1 ∷ 0 ∷ 1 ∷ [];
            fixed = 1 ∷ 2 ∷ 0 ∷ 0 ∷ 0 ∷ 2 ∷ 0 ∷ [];
            pairs = pair 2 4 (less (whole 1)) ∷ pair 3 4 (whole 1) ∷ pair 3 6 (less (whole 1)) ∷ pair 4 6 (less (whole 1)) ∷ [];
          };
      count = 4;
      clash = none;
      energies = [];
    } ∷
    -- "One InputBit as sole bad state: no variables, offset 0."
    record {
      size = 3;
      named = numbered (InputBit ∷ []) 0 (0 ∷ []) (2 ∷ []) 3;
      binary = bare (1 ∷ 2 ∷ 2 ∷ []) (z ∷ z ∷ z ∷ []) (0 ∷ 0 ∷ 0 ∷ []);
      turned = bare (1 ∷ 2 ∷ 2 ∷ []) (z ∷ z ∷ z ∷ []) (0 ∷ 0 ∷ 0 ∷ []);
      count = 0;
      clash = none;
      energies = [];
    } ∷
    -- "ConstFalse as sole bad state: 9, place 0." What the fold makes of it is not answered.
    record {
      size = 2;
      named = numbered (ConstFalse ∷ []) 0 (0 ∷ []) [] 2;
      binary = bare (1 ∷ 2 ∷ []) (z ∷ z ∷ []) (0 ∷ 0 ∷ []);
      turned = bare (1 ∷ 2 ∷ []) (z ∷ z ∷ []) (0 ∷ 0 ∷ []);
      count = 0;
      clash = at 0;
      energies = [];
    } ∷
    -- "ConstTrue: accepted."
    record {
      size = 2;
      named = numbered (ConstTrue ∷ []) 0 (0 ∷ []) [] 2;
      binary = bare (1 ∷ 2 ∷ []) (z ∷ z ∷ []) (0 ∷ 0 ∷ []);
      turned = bare (1 ∷ 2 ∷ []) (z ∷ z ∷ []) (0 ∷ 0 ∷ []);
      count = 0;
      clash = none;
      energies = [];
    } ∷
    []
  where
    bare : List ℕ → List ℤ → List ℕ → Model
    bare f l s = record { offset = z; linear = l; has_linear = s; has_row = s; fixed = f; pairs = [] }

-- what the definitions make of the same circuits
abbrev both : Model → List Bool × ℤ × ℤ → List Bool × ℤ × ℤ
both m e = (e.0, energy_in Binary (as_setting e.0) m, energy_in Ising (as_setting e.0) (ising m))

abbrev pub made : Sample → Sample
made s =
    let m : Model = finished s.size s.named [] in
    record {
      size = s.size;
      named = s.named;
      binary = m;
      turned = ising m;
      count = variables m;
      clash = clash (fixes s.named []);
      energies = map (both m) s.energies;
    }
