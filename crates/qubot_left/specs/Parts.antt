-- A build on tables that may be longer than the lengths of 7, and how the checks decide.
-- Assumes nothing.
use Rattle.std.specs.Prelude.{◌≡◌, refl, Result, Ok, Err, List, ◌++◌, ℕ, ◌+◌, ◌*◌, ◌≤◌, length, take, drop}
use Rattle.std.proofs.Common.{sym, ap₂, ◌∙◌, arith, length-take-le}
use Rattle.std.proofs.Math.Path.{ap}
use Rattle.units.specs.declared.Form.{Form}
use Rattle.energy.specs.Circuit.{Circuit}
use Rattle.energy.specs.Model.{variables}
use Rattle.circuit.specs.declared.Counts.{Counts}
use Rattle.circuit.specs.declared.Refusal.{Refusal}
use Rattle.circuit.specs.Check.{checked}
use Rattle.circuit.specs.Meaning.{circuit_of}
use Rattle.circuit.specs.Accepted.{CountsAre, Accepts}
use Rattle.circuit.proofs.Accepted.{accepts}
use Rattle.numbering.specs.State.{names_of}
use Rattle.model_place.specs.Blank.{pairs_of}
use Rattle.qubot_fill.specs.declared.Filled.{Filled}
use Rattle.qubot_fill.specs.Made.{Made, already, clashes, model, make}
use Rattle.qubot_fill.specs.Tables.{filled_by}
use Rattle.qubot_left.specs.Built.{Tables, lent, gates_in, names_in, pairs_in, onto, finished_by, in_tables, checked_by, built}
use Rattle.qubot_left.specs.declared.Finished.{Finished}
-- what the steps on tables of exactly the lengths of 7 ask
pub use Rattle.qubot_fill.specs.Parts.{Passed, NameTables, ModelTables, gates-are, list-bits-are, bads-are, constraints-are, counted, gates-few, bads-few, list-bits-few, is-prepared, good}

-- ---- the answer

-- what a build says of what became of the tables
abbrev pub answer_of : Form → Counts → Result Filled Refusal → Result Finished Refusal
answer_of form k (Err r) = Err r
answer_of form k (Ok x) =
    Ok (record { form = form; names = x.next.0; pairs = x.counted.totals.count; offset = x.counted.totals.offset; variables = x.counted.variables; bads = k.bad_states; inputs = k.inputs })

-- the answer's part of a pair
abbrev pub answered : Form → Counts → Tables × Result Filled Refusal → Tables × Result Finished Refusal
answered form k p = (p.0, answer_of form k p.1)

-- is what the definition says, where the counts are the circuit's
pub answers : (form : Form) (k : Counts) (c : Circuit) → CountsAre k c → (m : Made) → answered form k (filled_by c m) ≡ finished_by form c m
answers form k c h (already g) = refl
answers form k c h (clashes q) = refl
answers form k c h (model s m) =
    λ i. (
      (filled_by c (model s m)).0,
      Ok (record { form = form; names = s.next; pairs = length m.pairs; offset = m.offset; variables = variables m; bads = h.bads i; inputs = h.inputs i }),
    )

-- ---- tables that may be longer

-- the tables have at least the lengths of 7
pub record Enough (k : Counts) (t : Tables) : Type 0 where
  pub qubits : k.gates ≤ length t.qubits
  pub origins : 3 * k.gates + k.bad_states + 1 ≤ length t.origins
  pub roles : 3 * k.gates + k.bad_states + 1 ≤ length t.roles
  pub linear : 3 * k.gates + k.bad_states + 1 ≤ length t.linear
  pub has_linear : 3 * k.gates + k.bad_states + 1 ≤ length t.has_linear
  pub has_row : 3 * k.gates + k.bad_states + 1 ≤ length t.has_row
  pub fixed : 3 * k.gates + k.bad_states + 1 ≤ length t.fixed
  pub keys : 10 * k.gates + 3 * k.bad_states ≤ length t.keys
  pub weights : 10 * k.gates + 3 * k.bad_states ≤ length t.weights

-- so the check says
pub enough : {b : List ℕ} {k : Counts} (t : Tables) → Accepts b (gates_in t) (names_in t) (pairs_in t) k → Enough k t
enough {b} {k} t a =
    let m : 3 * k.gates + k.bad_states + 1 ≤ names_in t = a.enough_qubits in
    let n : 10 * k.gates + 3 * k.bad_states ≤ pairs_in t = a.enough_pairs in
    record {
      qubits = a.enough_gates;
      origins = omega (arith, m);
      roles = omega (arith, m);
      linear = omega (arith, m);
      has_linear = omega (arith, m);
      has_row = omega (arith, m);
      fixed = omega (arith, m);
      keys = omega (arith, n);
      weights = omega (arith, n);
    }

module _ {b : List ℕ} {k : Counts} (passed : Passed b k) {t : Tables} (room : Enough k t) where
  abbrev names : ℕ
  names = 3 * k.gates + k.bad_states + 1

  abbrev pairs : ℕ
  pairs = 10 * k.gates + 3 * k.bad_states

  names-are : names ≡ names_of (circuit_of b)
  names-are = omega (arith, (counted passed).gates, (counted passed).bads)

  pairs-are : pairs ≡ pairs_of (circuit_of b)
  pairs-are = omega (arith, (counted passed).gates, (counted passed).bads)

  -- the parts that are lent have exactly the lengths of 7
  pub name-parts : NameTables (circuit_of b) (take k.gates t.qubits) (take names t.origins) (take names t.roles)
  name-parts =
      record {
        qubits = length-take-le k.gates t.qubits room.qubits ∙ (counted passed).gates;
        origins = length-take-le names t.origins room.origins ∙ names-are;
        roles = length-take-le names t.roles room.roles ∙ names-are;
      }

  pub model-parts : ModelTables (circuit_of b) (take names t.linear) (take names t.has_linear) (take names t.has_row) (take names t.fixed) (take pairs t.keys) (take pairs t.weights)
  model-parts =
      record {
        linear = length-take-le names t.linear room.linear ∙ names-are;
        has_linear = length-take-le names t.has_linear room.has_linear ∙ names-are;
        has_row = length-take-le names t.has_row room.has_row ∙ names-are;
        fixed = length-take-le names t.fixed room.fixed ∙ names-are;
        keys = length-take-le pairs t.keys room.keys ∙ pairs-are;
        weights = length-take-le pairs t.weights room.weights ∙ pairs-are;
      }

-- a part that comes back, before what stays
pub put_back : {A : Type 0} (n : ℕ) (xs t : List A) → length xs ≡ length (take n t) → n ≤ length t → xs ++ drop n t ≡ onto xs t
put_back n xs t e h = ap (λ (i : ℕ). xs ++ drop i t) (sym (e ∙ length-take-le n t h))

-- the parts go back into their tables
pub fitted : {k : Counts} (t : Tables) (room : Enough k t) {A : Type 0} (u : Tables) (r : A)
    → length u.qubits ≡ length (take k.gates t.qubits)
    → length u.origins ≡ length (take (3 * k.gates + k.bad_states + 1) t.origins)
    → length u.roles ≡ length (take (3 * k.gates + k.bad_states + 1) t.roles)
    → length u.linear ≡ length (take (3 * k.gates + k.bad_states + 1) t.linear)
    → length u.has_linear ≡ length (take (3 * k.gates + k.bad_states + 1) t.has_linear)
    → length u.has_row ≡ length (take (3 * k.gates + k.bad_states + 1) t.has_row)
    → length u.fixed ≡ length (take (3 * k.gates + k.bad_states + 1) t.fixed)
    → length u.keys ≡ length (take (10 * k.gates + 3 * k.bad_states) t.keys)
    → length u.weights ≡ length (take (10 * k.gates + 3 * k.bad_states) t.weights)
    → (
      lent (u.qubits ++ drop k.gates t.qubits) (u.origins ++ drop (3 * k.gates + k.bad_states + 1) t.origins)
          (u.roles ++ drop (3 * k.gates + k.bad_states + 1) t.roles)
          (u.linear ++ drop (3 * k.gates + k.bad_states + 1) t.linear)
          (u.has_linear ++ drop (3 * k.gates + k.bad_states + 1) t.has_linear)
          (u.has_row ++ drop (3 * k.gates + k.bad_states + 1) t.has_row)
          (u.fixed ++ drop (3 * k.gates + k.bad_states + 1) t.fixed)
          (u.keys ++ drop (10 * k.gates + 3 * k.bad_states) t.keys)
          (u.weights ++ drop (10 * k.gates + 3 * k.bad_states) t.weights),
      r,
    )
    ≡ in_tables t (u, r)
fitted {k} t room {A} u r q o s l h w f y v i = (
  lent (put_back _ u.qubits t.qubits q room.qubits i) (put_back _ u.origins t.origins o room.origins i)
      (put_back _ u.roles t.roles s room.roles i)
      (put_back _ u.linear t.linear l room.linear i)
      (put_back _ u.has_linear t.has_linear h room.has_linear i)
      (put_back _ u.has_row t.has_row w room.has_row i)
      (put_back _ u.fixed t.fixed f room.fixed i)
      (put_back _ u.keys t.keys y room.keys i)
      (put_back _ u.weights t.weights v room.weights i),
  r,
)

-- ---- the checks decide

module _ (b : List ℕ) (form : Form) (t : Tables) {x : Result Counts Refusal} {n p : ℕ} (is : x ≡ checked b (gates_in t) n p) (en : n ≡ names_in t) (ep : p ≡ pairs_in t) where
  all-checked : checked b (gates_in t) (names_in t) (pairs_in t) ≡ x
  all-checked = sym (is ∙ ap₂ (checked b (gates_in t)) en ep)

  pub accepted-as : {k : Counts} → x ≡ Ok k → Accepts b (gates_in t) (names_in t) (pairs_in t) k
  accepted-as {k} e = accepts b (gates_in t) (names_in t) (pairs_in t) k (all-checked ∙ e)

  pub refused_as : {r : Refusal} → x ≡ Err r → (t, Err r) ≡ built b form t
  unfolding built
  refused_as e = ap (checked_by b form t) (sym (all-checked ∙ e))

  pub built-as : {k : Counts} {u : Tables} {r : Result Filled Refusal} → x ≡ Ok k → (u, r) ≡ in_tables t (filled_by (circuit_of b) (make form (circuit_of b)))
      → (u, answer_of form k r) ≡ built b form t
  unfolding built
  built-as {k} e f =
      ap (answered form k) f
      ∙ ap (in_tables t) (answers form k (circuit_of b) (counted (record { sound = (accepted-as e).sound; counts = (accepted-as e).counts })) (make form (circuit_of b)))
      ∙ ap (checked_by b form t) (sym (all-checked ∙ e))
