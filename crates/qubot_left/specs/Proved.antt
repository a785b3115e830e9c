-- What a build that is not refused proves: demand 3, of the very tables that it left and of the answer that it gave.
-- The circuit is read off the bytes; the names and the model are read off the tables and the answer, and off nothing else.
-- Assumes nothing.
use Rattle.std.specs.Prelude.{◌≡◌, refl, ◌↔◌, List, [], ◌∷◌, ◌++◌, map, ℕ, zero, suc, ◌<◌, ℤ, pos, length, get_or, take, Ok}
use Rattle.std.proofs.Common.{sym, ap, ap₂, ◌∙◌, subst, append_assoc, arith}
use Rattle.units.specs.declared.Form.{Form}
use Rattle.units.specs.declared.Form.TheVariants.{Binary, Ising}
use Rattle.energy.specs.Circuit.{Circuit, Choice}
use Rattle.energy.specs.Plain.{Setting}
use Rattle.energy.specs.Numbering.{Numbering}
use Rattle.energy.specs.Model.{Entry, Model, Sized, variables, binary_energy, energy_in}
use Rattle.energy.specs.Fixing.{complete, fixed_at}
use Rattle.energy.specs.Clash.{none, clash}
use Rattle.energy.specs.Finished.{in_form, fixes, Hit, OwnRunOnly, Demand3}
use Rattle.energy.specs.Finished as energy
use Rattle.circuit.specs.Meaning.{circuit_of}
use Rattle.circuit.specs.Accepted.{Sound}
use Rattle.numbering.specs.State.{State, mk, names_of}
use Rattle.numbering.specs.Numbered.{numbered, number, named_of}
use Rattle.numbering.specs.Finished.{Finished as Named·finished, numbering}
use Rattle.store_pairs.specs.Store.{zip}
use Rattle.model_fixes.specs.Order.{fixes_of}
use Rattle.model.specs.Steps.{finished_of}
use Rattle.model.specs.Demand.{demand}
use Rattle.qubot_left.specs.declared.Finished.{Finished}
use Rattle.qubot_left.specs.Built.{Tables, filled, within, answer, built}
use Rattle.qubot_left.specs.Left.{by-done, take-onto, formed, small}
use Rattle.qubot_left.specs.Left as left

-- ---- reading the tables

-- the names: the first G entries by gate, the first 3G+B+1 by qubit, and how many names there are
abbrev pub state_in : Circuit → Tables → Finished → State
state_in c t f = mk (take (length c.gates) t.qubits) (take (names_of c) t.origins) (take (names_of c) t.roles) f.names

-- the model: the first 3G+B+1 entries by qubit, the first pairs, and the offset
abbrev pub model_in : Circuit → Tables → Finished → Model
model_in c t f =
    record {
      offset = f.offset;
      linear = take (names_of c) t.linear;
      has_linear = take (names_of c) t.has_linear;
      has_row = take (names_of c) t.has_row;
      fixed = take (names_of c) t.fixed;
      pairs = take f.pairs (zip t.keys t.weights);
    }

-- ---- the statement

-- For the bytes b, the form that was asked for, the names s and the model m that the tables t and the answer f hold.
pub record Proved (b : List ℕ) (form : Form) (s : State) (m : Model) (t : Tables) (f : Finished) : Type 0 where
  -- the answer names the form that was asked for
  pub form-asked : f.form ≡ form
  -- the names in the tables are a numbering of the circuit: every reached gate has its qubit, operands come before results, and no qubit has two origins
  pub names : Numbering (named_of (circuit_of b) s)
  -- Before fixing: for each choice of every reached InputBit, every division bit and the two constants there is exactly one setting of energy 0, and it is the
  -- circuit's own run; every other setting that makes the choice has energy at least 2 (4 halves).
  pub before-fixing : (e : Choice) → OwnRunOnly (names_of (circuit_of b)) (named_of (circuit_of b) s) e
  -- After fixing: in the form asked for (in Ising form with -1 for false) the tables give every setting the energy before fixing of that setting, completed by the
  -- fixed values.
  pub after-fixing : (σ : Setting)
      → energy_in form σ m ≡ binary_energy (complete (fixes (named_of (circuit_of b) s) (circuit_of b).constraints) σ) (energy.model (names_of (circuit_of b)) (named_of (circuit_of b) s))
  -- The table of fixed values holds these values: the joined qubit true, the constraints' values, 1 true, 0 false.
  pub fixed-values : (q : ℕ) → q < names_of (circuit_of b) → get_or t.fixed q 0 ≡ fixed_at (fixes (named_of (circuit_of b) s) (circuit_of b).constraints) q
  -- Hence: some setting of the tables has energy 0 exactly when some inputs and division bits, both constants at their own values, meet every constraint and make
  -- some bad state true.
  pub hence : ((σ : Setting) × (energy_in form σ m ≡ pos 0)) ↔ Hit (named_of (circuit_of b) s) (circuit_of b).constraints
  -- The variable count is the number of qubits of the tables with a linear entry or a row.
  pub variables-counted : f.variables ≡ variables m
  -- The other counts are the circuit's.
  pub bads-counted : f.bads ≡ length (circuit_of b).bads
  pub inputs-counted : f.inputs ≡ length (circuit_of b).inputs

-- the names and the model read off the tables and the answer
abbrev pub ProvedOf : List ℕ → Form → Tables → Finished → Type 0
ProvedOf b form t f = Proved b form (state_in (circuit_of b) t f) (model_in (circuit_of b) t f) t f

-- ---- what the build left, read back

take-pairs : (ps : List Entry) (x : List ℕ) (y : List ℤ) → take (length ps) (zip (map (λ (e : Entry). e.0) ps ++ x) (map (λ (e : Entry). e.1) ps ++ y)) ≡ ps
take-pairs [] x y = refl
take-pairs (p ∷ ps) x y = ap (λ (l : List Entry). p ∷ l) (take-pairs ps x y)

get_d_take_in : (n q : ℕ) (l : List ℕ) → q < n → get_or (take n l) q 0 ≡ get_or l q 0
get_d_take_in zero q l h = absurd (omega arith)
get_d_take_in (suc n) q [] h = refl
get_d_take_in (suc n) zero (x ∷ l) h = refl
get_d_take_in (suc n) (suc q) (x ∷ l) h = get_d_take_in n q l (omega arith)

module _ (b : List ℕ) (form : Form) (t : Tables) (sound : Sound b) (s : State) (num : number (circuit_of b) ≡ numbered s) (clear : clash (fixes_of (circuit_of b) s) ≡ none) where
  abbrev c : Circuit
  c = circuit_of b

  abbrev m : Model
  m = finished_of form c s

  abbrev u : Tables
  u = within (filled c s m) t

  abbrev f : Finished
  f = answer form c s m

  abbrev fin : Named·finished c s
  fin = left.fin b sound s num

  abbrev sized : Sized (names_of c) m
  sized = left.sized b sound s num form

  -- the names read back
  pub state-read : state_in c u f ≡ s
  state-read i = mk (take-onto _ s.qubits t.qubits fin.gates i) (take-onto _ s.origins t.origins fin.origins i) (take-onto _ s.roles t.roles fin.roles i) s.next

  pairs-read : take (length m.pairs) (zip u.keys u.weights) ≡ m.pairs
  pairs-read =
      ap₂ (λ (x : List ℕ) (y : List ℤ). take (length m.pairs) (zip x y))
      (append_assoc (map (λ (e : Entry). e.0) m.pairs) _ _)
      (append_assoc (map (λ (e : Entry). e.1) m.pairs) _ _)
      ∙ take-pairs m.pairs _ _

  -- the model read back
  pub model-read : model_in c u f ≡ m
  model-read i =
      record {
        offset = m.offset;
        linear = take-onto _ m.linear t.linear sized.linear i;
        has_linear = take-onto _ m.has_linear t.has_linear sized.has_linear i;
        has_row = take-onto _ m.has_row t.has_row sized.has_row i;
        fixed = take-onto _ m.fixed t.fixed sized.fixed i;
        pairs = pairs-read i;
      }

  d3 : Demand3 (names_of c) (named_of c s) c.constraints
  d3 = demand c (formed b sound) s num (small b sound) clear

  abbrev fin-is : m ≡ in_form form (energy.finished (names_of c) (named_of c s) c.constraints)
  fin-is = left.fin-is b sound s num form

  same-energy : (g : Form) (σ : Setting) → energy_in g σ (in_form g (energy.finished (names_of c) (named_of c s) c.constraints)) ≡ binary_energy σ (energy.finished (names_of c) (named_of c s) c.constraints)
  same-energy Binary σ = refl
  same-energy Ising σ = d3.same-ising σ

  reaches : (y : Model) → y ≡ in_form form (energy.finished (names_of c) (named_of c s) c.constraints) → ((σ : Setting) × (energy_in form σ y ≡ pos 0)) ↔ Hit (named_of c s) c.constraints
  reaches y e = subst (λ (x : Model). ((σ : Setting) × (energy_in form σ x ≡ pos 0)) ↔ Hit (named_of c s) c.constraints) (sym e) (d3.hence form)

  of_parts : Proved b form s m u f
  of_parts =
      record {
        form-asked = refl;
        names = numbering c (formed b sound) s fin;
        before-fixing = d3.before;
        after-fixing = λ σ. ap (energy_in form σ) fin-is ∙ same-energy form σ ∙ d3.after σ;
        fixed-values = λ (q : ℕ) (h : q < names_of c).
            sym (get_d_take_in (names_of c) q u.fixed h)
            ∙ ap (λ (l : List ℕ). get_or l q 0) (take-onto _ m.fixed t.fixed sized.fixed ∙ ap (λ (x : Model). x.fixed) fin-is)
            ∙ d3.kept form q h;
        hence = reaches m fin-is;
        variables-counted = refl;
        bads-counted = refl;
        inputs-counted = refl;
      }

  pub of-model : ProvedOf b form u f
  of-model =
      subst (λ (x : State). Proved b form x (model_in c u f) u f) (sym state-read)
      (subst (λ (x : Model). Proved b form s x u f) (sym model-read) of_parts)

-- ---- the theorem

-- Theorem: whatever the bytes and the tables were, if a build answers `Done`, then all of this holds of the tables that it left and of its answer.
pub build-proved : (b : List ℕ) (form : Form) (t u : Tables) (f : Finished) → built b form t ≡ (u, Ok f) → ProvedOf b form u f
build-proved b form t u f e = by-done b form t u f (ProvedOf b form) e (of-model b form t)
