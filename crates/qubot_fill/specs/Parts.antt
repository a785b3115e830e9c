-- The steps of a build on tables of exactly the lengths of 7, and how they make the whole.
-- Assumes nothing.
use Rattle.std.specs.Prelude.{◌≡◌, refl, Result, Ok, Err, is_ok, true, false, List, [], ◌∷◌, ◌++◌, map, ℕ, zero, suc, ◌+◌, ◌-◌, ◌≤◌, ℤ, pos, length, replicate}
use Rattle.std.proofs.Common.{sym, ◌∙◌, subst, true≢false, arith}
use Rattle.std.proofs.Math.Path.{ap}
use Rattle.std.proofs.lemmas.Bool.{false≢true}
use Rattle.std.proofs.lemmas.List.{length-map}
use Rattle.units.specs.declared.Form.{Form}
use Rattle.units.specs.Name.{qubit}
use Rattle.energy.specs.Circuit.{Circuit}
use Rattle.energy.specs.Model.{Entry, Model}
use Rattle.energy.specs.Clash.{at, clash}
use Rattle.circuit.specs.declared.Counts.{Counts}
use Rattle.circuit.specs.File.{count_of}
use Rattle.circuit.specs.Check.{counts_of}
use Rattle.circuit.specs.Starts.{starts_of}
use Rattle.circuit.specs.Meaning.{circuit_of}
use Rattle.circuit.specs.Accepted.{Sound, WellFormed, well-formed, CountsAre, counts-are}
use Rattle.numbering.specs.State.{State, mk, names_of, start}
use Rattle.numbering.specs.Read.{Prepared}
use Rattle.numbering.specs.Bytes.{prepared}
use Rattle.numbering.specs.Numbered.{Outcome, numbered, number}
use Rattle.store_pairs.specs.Store.{zip, front}
use Rattle.store.specs.Tables as qubo
use Rattle.model_rows.specs.Laid.{Good, laid}
use Rattle.model_place.specs.Blank.{Blank, pairs_of}
use Rattle.model_finish.specs.declared.Counted.{Counted}
use Rattle.model_fixes.specs.Order.{fixes_of}
use Rattle.model.specs.Steps.{finished_of}
use Rattle.model.specs.Modelled.{ModelledAs}
use Rattle.qubot_fill.specs.declared.Filled.{Filled}
use Rattle.circuit.specs.declared.Refusal.{Refusal}
use Rattle.circuit.specs.declared.Refusal.TheVariants.{FixedTwice}
use Rattle.qubot_fill.specs.Made.{after_clash, after_number, make}
use Rattle.qubot_fill.specs.Tables.{Tables, lent, zeroed, padded, filled_by, or_zeroed}

-- the bytes passed the checks, and these are their counts
pub record Passed (b : List ℕ) (k : Counts) : Type 0 where
  pub sound : Sound b
  pub counts : k ≡ counts_of b

-- the three tables of names have their lengths
pub record NameTables (c : Circuit) (q o r : List ℕ) : Type 0 where
  pub qubits : length q ≡ length c.gates
  pub origins : length o ≡ names_of c
  pub roles : length r ≡ names_of c

-- the six tables of the model have theirs
pub record ModelTables (c : Circuit) (l : List ℤ) (h w f ks : List ℕ) (ws : List ℤ) : Type 0 where
  pub linear : length l ≡ names_of c
  pub has_linear : length h ≡ names_of c
  pub has_row : length w ≡ names_of c
  pub fixed : length f ≡ names_of c
  pub keys : length ks ≡ pairs_of c
  pub weights : length ws ≡ pairs_of c

module _ {b : List ℕ} {k : Counts} (passed : Passed b k) where
  abbrev c : Circuit
  c = circuit_of b

  wf : WellFormed c
  wf = well-formed b passed.sound

  pub gates-are : k.gates ≡ count_of b 0 13
  unfolding counts_of
  gates-are = ap (λ (x : Counts). x.gates) passed.counts

  pub list-bits-are : k.list_bits ≡ count_of b 20 20
  unfolding counts_of
  list-bits-are = ap (λ (x : Counts). x.list_bits) passed.counts

  pub bads-are : k.bad_states ≡ count_of b 21 21
  unfolding counts_of
  bads-are = ap (λ (x : Counts). x.bad_states) passed.counts

  pub constraints-are : k.constraints ≡ count_of b 22 22
  unfolding counts_of
  constraints-are = ap (λ (x : Counts). x.constraints) passed.counts

  pub counted : CountsAre k c
  counted = subst (λ (x : Counts). CountsAre x c) (sym passed.counts) (counts-are b)

  pub gates-few : k.gates ≤ 1000
  gates-few = omega (arith, counted.gates, wf.few_gates)

  pub bads-few : k.bad_states ≤ 64
  bads-few = omega (arith, counted.bads, wf.few_bads)

  pub list-bits-few : k.list_bits ≤ 4096
  list-bits-few = omega (arith, list-bits-are, passed.sound.timely.regular.list_bits)

  -- what the numbering asks
  pub is-prepared : Prepared b (starts_of b 20) (k.gates + k.list_bits) k.bad_states k.constraints
  is-prepared = rw (gates-are, list-bits-are, bads-are, constraints-are) (prepared b passed.sound)

  -- what the model asks of a numbered circuit
  pub good : (s : State) → number c ≡ numbered s → Good b (k.gates + k.list_bits) (k.gates + k.list_bits + k.bad_states) s
  good s n =
      record {
        laid = rw (gates-are, list-bits-are, bads-are) (laid b passed.sound.timely.regular.form);
        formed = is-prepared.formed;
        is = n;
        gates-few = wf.few_gates;
        bads-few = wf.few_bads;
        constraints-few = wf.few_constraints;
      }

-- cleared tables are the numbering's start
pub cleared-start : (c : Circuit) {q o r q' o' r' : List ℕ} → NameTables c q o r → q' ≡ replicate (length q) 0 → o' ≡ replicate (length o) 0 → r' ≡ replicate (length r) 0
    → mk q' o' r' 2 ≡ start c
unfolding start
cleared-start c n e f g i =
    mk ((e ∙ ap (λ (x : ℕ). replicate x 0) n.qubits) i) ((f ∙ ap (λ (x : ℕ). replicate x 0) n.origins) i) ((g ∙ ap (λ (x : ℕ). replicate x 0) n.roles) i) 2

-- ---- the refusals

pub all-zero : (c : Circuit) {q o r : List ℕ} {l : List ℤ} {h w f ks : List ℕ} {ws : List ℤ} {q' o' r' : List ℕ} {l' : List ℤ} {h' w' f' ks' : List ℕ} {ws' : List ℤ}
    → NameTables c q o r → ModelTables c l h w f ks ws
    → q' ≡ replicate (length q) 0 → o' ≡ replicate (length o) 0 → r' ≡ replicate (length r) 0
    → l' ≡ replicate (length l) (pos 0) → h' ≡ replicate (length h) 0 → w' ≡ replicate (length w) 0 → f' ≡ replicate (length f) 0
    → ks' ≡ replicate (length ks) 0 → ws' ≡ replicate (length ws) (pos 0)
    → lent q' o' r' l' h' w' f' ks' ws' ≡ zeroed c
all-zero c n m eq eo er el eh ew ef ek ev i =
    lent ((eq ∙ ap (λ (x : ℕ). replicate x 0) n.qubits) i) ((eo ∙ ap (λ (x : ℕ). replicate x 0) n.origins) i) ((er ∙ ap (λ (x : ℕ). replicate x 0) n.roles) i)
    ((el ∙ ap (λ (x : ℕ). replicate x (pos 0)) m.linear) i)
    ((eh ∙ ap (λ (x : ℕ). replicate x 0) m.has_linear) i)
    ((ew ∙ ap (λ (x : ℕ). replicate x 0) m.has_row) i)
    ((ef ∙ ap (λ (x : ℕ). replicate x 0) m.fixed) i)
    ((ek ∙ ap (λ (x : ℕ). replicate x 0) m.keys) i)
    ((ev ∙ ap (λ (x : ℕ). replicate x (pos 0)) m.weights) i)

-- ---- the finished model in the tables

firsts-zip : (ks : List ℕ) (ws : List ℤ) → length ws ≡ length ks → map (λ (e : Entry). e.0) (zip ks ws) ≡ ks
firsts-zip [] ws e = refl
firsts-zip (k ∷ ks) [] e = absurd (omega arith)
firsts-zip (k ∷ ks) (w ∷ ws) e = ap (λ (x : List ℕ). k ∷ x) (firsts-zip ks ws (omega arith))

seconds-zip : (ks : List ℕ) (ws : List ℤ) → length ws ≡ length ks → map (λ (e : Entry). e.1) (zip ks ws) ≡ ws
seconds-zip [] [] e = refl
seconds-zip [] (w ∷ ws) e = absurd (omega arith)
seconds-zip (k ∷ ks) [] e = absurd (omega arith)
seconds-zip (k ∷ ks) (w ∷ ws) e = ap (λ (x : List ℤ). w ∷ x) (seconds-zip ks ws (omega arith))

map-zeros : {A : Type 0} (f : Entry → A) (n : ℕ) → map f (replicate n (0, pos 0)) ≡ replicate n (f (0, pos 0))
map-zeros f zero = refl
map-zeros f (suc n) = ap (λ (x : List _). f (0, pos 0) ∷ x) (map-zeros f n)

map-front : {A : Type 0} (f : Entry → A) (n : ℕ) (s : List Entry) → map f (front s n) ≡ padded (f (0, pos 0)) n (map f s)
map-front f n s = go s ∙ ap (λ (x : ℕ). map f s ++ replicate (n - x) (f (0, pos 0))) (sym (length-map s f))
  where
    go : (r : List Entry) → map f (r ++ replicate (n - length s) (0, pos 0)) ≡ map f r ++ replicate (n - length s) (f (0, pos 0))
    go [] = map-zeros f (n - length s)
    go (e ∷ r) = ap (λ (x : List _). f e ∷ x) (go r)

module _ (form : Form) (c : Circuit) (s : State) where
  pub model-filled : {x : Counted} {l : List ℤ} {h w f ks : List ℕ} {ws : List ℤ} → ModelledAs form c s (Ok x) l h w f ks ws
      → or_zeroed c (lent s.qubits s.origins s.roles l h w f ks ws) (Ok (record { next = qubit s.next; counted = x })) ≡ filled_by c (after_clash form c s (clash (fixes_of c s)))
  model-filled {x} {l} {h} {w} {f} {ks} {ws} (clear, holds, count) =
      (λ i. (
        lent s.qubits s.origins s.roles (holds.is i).linear (holds.is i).has_linear (holds.is i).has_row (holds.is i).fixed (keys i) (weights i),
        Ok (record { next = qubit s.next; counted = record { totals = record { offset = (holds.is i).offset; count = (holds.is i).count }; variables = count i } }),
      ))
      ∙ ap (λ z. filled_by c (after_clash form c s z)) (sym clear)
    where
      m : Model
      m = finished_of form c s

      even : length ws ≡ length ks
      even = holds.weights ∙ sym holds.keys

      entries : zip ks ws ≡ front (finished_of form c s).pairs (pairs_of c)
      entries = ap (λ (t : qubo.Tables). t.entries) holds.is

      keys : ks ≡ padded 0 (pairs_of c) (map (λ (e : Entry). e.0) (finished_of form c s).pairs)
      keys = sym (firsts-zip ks ws even) ∙ ap (map (λ (e : Entry). e.0)) entries ∙ map-front (λ (e : Entry). e.0) (pairs_of c) (finished_of form c s).pairs

      weights : ws ≡ padded (pos 0) (pairs_of c) (map (λ (e : Entry). e.1) (finished_of form c s).pairs)
      weights = sym (seconds-zip ks ws even) ∙ ap (map (λ (e : Entry). e.1)) entries ∙ map-front (λ (e : Entry). e.1) (pairs_of c) (finished_of form c s).pairs

  pub model-clashed : {q : ℕ} → clash (fixes_of c s) ≡ at q → (zeroed c, Err (FixedTwice (qubit q))) ≡ filled_by c (after_clash form c s (clash (fixes_of c s)))
  model-clashed e = ap (λ y. filled_by c (after_clash form c s y)) (sym e)

-- the whole, from how the numbering ended
pub whole_of : (form : Form) (c : Circuit) {o : Outcome} → o ≡ number c → filled_by c (after_number form c o) ≡ filled_by c (make form c)
unfolding make
whole_of form c e = ap (λ (x : Outcome). filled_by c (after_number form c x)) e

-- where there is no model, the zeroed tables are the answer's
pub zeroed-as : (c : Circuit) (t : Tables) (r : Result Filled Refusal) → is_ok r ≡ false → {u : Tables} → u ≡ zeroed c → (u, r) ≡ or_zeroed c t r
zeroed-as c t (Err r) e z = ap (λ (u : Tables). (u, Err r)) z
zeroed-as c t (Ok x) e z = absurd (true≢false e)

pub kept-as : (c : Circuit) (t : Tables) (r : Result Filled Refusal) → is_ok r ≡ true → (t, r) ≡ or_zeroed c t r
kept-as c t (Err r) e = absurd (false≢true e)
kept-as c t (Ok x) e = refl

pub blank_of : (c : Circuit) {l : List ℤ} {h w f ks : List ℕ} {ws : List ℤ} {l' : List ℤ} {h' w' ks' : List ℕ} {ws' : List ℤ} → ModelTables c l h w f ks ws
    → l' ≡ replicate (length l) (pos 0) → h' ≡ replicate (length h) 0 → w' ≡ replicate (length w) 0
    → ks' ≡ replicate (length ks) 0 → ws' ≡ replicate (length ws) (pos 0)
    → Blank (names_of c) (pairs_of c) l' h' w' ks' ws'
blank_of c m el eh ew ek ev =
    record {
      linear = el ∙ ap (λ (x : ℕ). replicate x (pos 0)) m.linear;
      present = eh ∙ ap (λ (x : ℕ). replicate x 0) m.has_linear;
      rows = ew ∙ ap (λ (x : ℕ). replicate x 0) m.has_row;
      keys = ek ∙ ap (λ (x : ℕ). replicate x 0) m.keys;
      weights = ev ∙ ap (λ (x : ℕ). replicate x (pos 0)) m.weights;
    }
