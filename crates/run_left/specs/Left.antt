-- What stands in the tables that a build left is ready for a run.
-- Assumes nothing.
use Rattle.std.specs.Prelude.{◌≡◌, refl, List, [], ◌∷◌, map, ℕ, zero, suc, ◌+◌, ◌*◌, ◌-◌, ◌^◌, ◌≤◌, ◌<◌, ℤ, pos, nat_abs, length, get_or, take, drop, replicate, Ok, Result}
use Rattle.std.proofs.Common.{sym, ap, ap₂, ◌∙◌, append_assoc, arith, length-take-le, take-take}
use Rattle.std.proofs.lemmas.List.{length-map, take-append-le}
use Rattle.std.proofs.Math.Seq.{take-append_seam}
use Rattle.laws.specs.Test.{by-ltb}
use Rattle.units.specs.declared.Form.{Form}
use Rattle.units.specs.declared.Form.TheVariants.{Binary, Ising}
use Rattle.energy.specs.Circuit.{Circuit}
use Rattle.energy.specs.Model.{Entry, Model, low, high, Inside, sizes, mass, weights, quarters}
use Rattle.energy.specs.Mass.{offset-within}
use Rattle.energy.specs.Clash.{none, clash}
use Rattle.energy.specs.Rising.{Above, Rising}
use Rattle.energy.proofs.Rising.{built-rising}
use Rattle.energy.specs.Ising.{ising-has_row, ising-pairs}
use Rattle.energy.specs.Gone.{Apart, Gone}
use Rattle.energy.specs.Count.{Rowed}
use Rattle.energy.proofs.Count.{finished-rowed}
use Rattle.energy.specs.Numbering.{Numbering, rows}
use Rattle.energy.specs.Finished.{fixes, in_form}
use Rattle.energy.proofs.Finished.{sized-finished}
use Rattle.energy.specs.Finished as energy
use Rattle.circuit.specs.declared.Counts.{Counts}
use Rattle.circuit.specs.File.{count_of}
use Rattle.circuit.specs.Check.{counts_of}
use Rattle.circuit.specs.Meaning.{circuit_of}
use Rattle.circuit.specs.Starts.{starts_of}
use Rattle.circuit.specs.Accepted.{Sound}
use Rattle.numbering.specs.State.{State, mk, names_of}
use Rattle.numbering.specs.Numbered.{numbered, number, named_of}
use Rattle.numbering.specs.Finished.{numbering}
use Rattle.store_pairs.specs.Store.{zip}
use Rattle.store.specs.declared.Totals.{Totals}
use Rattle.store.specs.Tables.{tables}
use Rattle.model_fixes.specs.Order.{fixes_of}
use Rattle.model.specs.Steps.{finished_of}
use Rattle.model_place.specs.Blank.{pairs_of}
use Rattle.qubot_left.specs.declared.Finished.{Finished}
use Rattle.qubot_left.specs.Built.{Tables, padded, filled, onto, within, answer, built}
use Rattle.qubot_left.specs.Parts.{Passed, counted, gates-are, list-bits-are, gates-few, list-bits-few}
use Rattle.qubot_left.specs.Left.{by-done, take-onto, onto-length, padded-long, names-counted, formed, small, fin, room, fin-is, sized, light}
use Rattle.qubot_left.specs.Proved.{state_in, state-read}
use Rattle.run_meaning.specs.Layout.{Stacked, Flags, Modeled, RunReady}
use Rattle.run_meaning.specs.Runs.{run-ready}
use Rattle.run_meaning.specs.Ran.{built_of, ran}
use Rattle.energy.proofs.Beyond.{beyond}
use Rattle.run_left.specs.Cut.{ran-cut}
use Rattle.run_left.specs.Evaluated.{built_in}
use Rattle.circuit.specs.declared.Refusal.{Refusal}

-- how many pairs there are, and the offset
abbrev pub totals : ℤ → ℕ → Totals
totals o p = record { offset = o; count = p }

-- The file passed its checks, and the names in the tables are its circuit's; each table has its entries; the model's tables are as a run reads them, by name alone.
pub record Left (b : List ℕ) (u : Tables) (f : Finished) : Type 0 where
  pub sound : Sound b
  pub numbers : number (circuit_of b) ≡ numbered (state_in (circuit_of b) u f)
  pub gates : length (circuit_of b).gates ≤ length u.qubits
  pub origins : names_of (circuit_of b) ≤ length u.origins
  pub roles : names_of (circuit_of b) ≤ length u.roles
  pub linear : names_of (circuit_of b) ≤ length u.linear
  pub has_linear : names_of (circuit_of b) ≤ length u.has_linear
  pub has_row : names_of (circuit_of b) ≤ length u.has_row
  pub fixed : names_of (circuit_of b) ≤ length u.fixed
  pub keys : f.pairs ≤ length u.keys
  pub weights : f.pairs ≤ length u.weights
  pub few : names_of (circuit_of b) ≤ 65536
  pub names : f.names ≤ names_of (circuit_of b)
  pub offset : nat_abs f.offset < 2 ^ 63
  pub modeled : Modeled f.names (take f.names u.linear) (take (names_of (circuit_of b)) u.has_linear) (take (names_of (circuit_of b)) u.has_row) (take f.pairs u.keys) (take f.pairs u.weights) (totals f.offset f.pairs)
  pub zeros : (q : ℕ) → f.names ≤ q → get_or (take (names_of (circuit_of b)) u.linear) q (pos 0) ≡ pos 0
  pub bads : f.bads ≡ length (circuit_of b).bads
  pub inputs : f.inputs ≡ length (circuit_of b).inputs

-- ---- a model's tables, by name

abbrev keys_in : List Entry → List ℕ
keys_in = map (λ (e : Entry). e.0)

abbrev weights_in : List Entry → List ℤ
weights_in = map (λ (e : Entry). e.1)

zip-back : (ps : List Entry) → take (length ps) (zip (keys_in ps) (weights_in ps)) ≡ ps
zip-back [] = refl
zip-back (p ∷ ps) = ap (λ (l : List Entry). p ∷ l) (zip-back ps)

keys-quarters : (ps : List Entry) → keys_in (quarters ps) ≡ keys_in ps
keys-quarters [] = refl
keys-quarters (p ∷ ps) = ap (λ (l : List ℕ). p.0 ∷ l) (keys-quarters ps)

sizes-take : (n : ℕ) (l : List ℤ) → sizes (take n l) ≤ sizes l
sizes-take zero l = omega arith
sizes-take (suc n) [] = omega arith
sizes-take (suc n) (c ∷ l) = omega (arith, sizes-take n l)

-- pairs that speak of no qubit from n on are of two below n
inside-apart : (n k : ℕ) (ps : List Entry) → Inside k ps → ((q : ℕ) → n ≤ q → Apart q ps) → Inside n ps
inside-apart n k [] i a = tt
inside-apart n k (p ∷ ps) i a =
    (i.0, by-ltb (high p.0) n (λ b. high p.0 < n) (λ l. l) (λ l. absurd ((a (high p.0) l).1 refl)), inside-apart n k ps i.2 (λ q h. (a q h).2))

-- rising pairs of qubits with a row stand by the lower qubit
stacked-from : (n : ℕ) (rs : List ℕ) (k : ℕ) (ps : List Entry) → Inside n ps → Rowed rs ps → Above k ps → Rising ps → Stacked n rs (low k) (keys_in ps)
stacked-from n rs k [] i w a r = tt
stacked-from n rs k (p ∷ ps) i w a r = (omega (arith, a.0), i.1, w.0, stacked-from n rs p.0 ps i.2 w.2 r.0 r.1)

stacked-all : (n : ℕ) (rs : List ℕ) (ps : List Entry) → Inside n ps → Rowed rs ps → Rising ps → Stacked n rs 0 (keys_in ps)
stacked-all n rs [] i w r = tt
stacked-all n rs (p ∷ ps) i w r = (omega arith, i.1, w.0, stacked-from n rs p.0 ps i.2 w.2 r.0 r.1)

all-keys : (ps : List Entry) → take (length ps) (keys_in ps) ≡ keys_in ps
all-keys [] = refl
all-keys (p ∷ ps) = ap (λ (l : List ℕ). p.0 ∷ l) (all-keys ps)

-- ---- what a build left

-- the entries in use, of a table that is padded and stands at the front of a longer one
take-padded : {A : Type 0} (z : A) (n p : ℕ) (xs t : List A) → length xs ≡ p → take p (onto (padded z n xs) t) ≡ xs
take-padded z n p xs t e =
    ap (λ (i : ℕ). take i (onto (padded z n xs) t)) (sym e)
    ∙ ap (take (length xs)) (append_assoc xs (replicate (n - length xs) z) (drop (length (padded z n xs)) t))
    ∙ take-append_seam xs _

module _ (b : List ℕ) (form : Form) (t : Tables) (sound : Sound b) (s : State) (num : number (circuit_of b) ≡ numbered s) (clear : clash (fixes_of (circuit_of b) s) ≡ none) where
  abbrev c : Circuit
  c = circuit_of b

  abbrev m : Model
  m = finished_of form c s

  abbrev base : Model
  base = energy.finished (names_of c) (named_of c s) c.constraints

  numbers : Numbering (named_of c s)
  numbers = numbering c (formed b sound) s (fin b sound s num)

  gone : (g : Form) (q : ℕ) → s.next ≤ q → Gone q (in_form g base)
  gone g q h = beyond (names_of c) (named_of c s) numbers (room b sound s num) c.constraints g q h

  gone-there : (q : ℕ) → s.next ≤ q → Gone q m
  gone-there q h = rw (fin-is b sound s num form) (gone form q h)

  linear-named : Flags s.next m.has_linear
  linear-named q e = by-ltb q s.next (λ x. q < s.next) (λ l. l) (λ l. absurd (omega (arith, (gone-there q l).has_linear)))

  rows_named : Flags s.next m.has_row
  rows_named q e = by-ltb q s.next (λ x. q < s.next) (λ l. l) (λ l. absurd (omega (arith, (gone-there q l).has_row)))

  inside : Inside s.next m.pairs
  inside = inside-apart s.next (names_of c) m.pairs (sized b sound s num form).inside (λ q h. (gone-there q h).pairs)

  stacked : Stacked s.next m.has_row 0 (keys_in m.pairs)
  stacked = rw (fin-is b sound s num form) (go form)
    where
      first : Stacked s.next base.has_row 0 (keys_in base.pairs)
      first =
          stacked-all s.next base.has_row base.pairs
          (inside-apart s.next (names_of c) base.pairs (sized-finished (names_of c) (named_of c s) numbers (room b sound s num) c.constraints).inside (λ q h. (gone Binary q h).pairs))
          (finished-rowed (names_of c) (named_of c s) numbers (room b sound s num) c.constraints)
          (built-rising (names_of c) (rows (named_of c s)) (fixes (named_of c s) c.constraints))

      go : (g : Form) → Stacked s.next (in_form g base).has_row 0 (keys_in (in_form g base).pairs)
      go Binary = first
      go Ising = rw (ising-has_row base, ising-pairs base, keys-quarters base.pairs) first

  summed : nat_abs m.offset + sizes (take s.next m.linear) + sizes (weights m.pairs) ≤ 2 ^ 40
  unfolding mass
  summed = omega (arith, light b sound s num form, sizes-take s.next m.linear)

  modeled : Modeled s.next (take s.next m.linear) m.has_linear m.has_row (keys_in m.pairs) (weights_in m.pairs) (totals m.offset (length m.pairs))
  modeled =
      record {
        linear-there = length-take-le s.next m.linear (omega (arith, (sized b sound s num form).linear, (fin b sound s num).at_most));
        flags-named = linear-named;
        rows_named = rows_named;
        stacked = rw (all-keys m.pairs) stacked;
        even = length-map m.pairs (λ (e : Entry). e.1) ∙ sym (length-map m.pairs (λ (e : Entry). e.0));
        used = omega (arith, length-map m.pairs (λ (e : Entry). e.0));
        inside = rw (zip-back m.pairs) inside;
        small = rw (zip-back m.pairs) summed;
      }

  -- what stands in the tables
  abbrev u : Tables
  u = within (filled c s m) t

  modeled-there : Modeled s.next (take s.next u.linear) (take (names_of c) u.has_linear) (take (names_of c) u.has_row) (take (length m.pairs) u.keys) (take (length m.pairs) u.weights) (totals m.offset (length m.pairs))
  modeled-there =
      let z = sized b sound s num form in
      let l : take s.next u.linear ≡ take s.next m.linear = take-append-le s.next m.linear _ (omega (arith, z.linear, (fin b sound s num).at_most)) in
      let h : take (names_of c) u.has_linear ≡ m.has_linear = take-onto (names_of c) m.has_linear t.has_linear z.has_linear in
      let w : take (names_of c) u.has_row ≡ m.has_row = take-onto (names_of c) m.has_row t.has_row z.has_row in
      let k : take (length m.pairs) u.keys ≡ keys_in m.pairs = take-padded 0 (pairs_of c) (length m.pairs) (keys_in m.pairs) t.keys (length-map m.pairs _) in
      let v : take (length m.pairs) u.weights ≡ weights_in m.pairs = take-padded (pos 0) (pairs_of c) (length m.pairs) (weights_in m.pairs) t.weights (length-map m.pairs _) in
      rw (l, h, w, k, v) modeled

  pub left-of : Left b u (answer form c s m)
  left-of =
      let z = sized b sound s num form in
      record {
        sound = sound;
        numbers = num ∙ ap numbered (sym (state-read b form t sound s num clear));
        gates = omega (arith, onto-length s.qubits t.qubits, (fin b sound s num).gates);
        origins = omega (arith, onto-length s.origins t.origins, (fin b sound s num).origins);
        roles = omega (arith, onto-length s.roles t.roles, (fin b sound s num).roles);
        linear = omega (arith, onto-length m.linear t.linear, z.linear);
        has_linear = omega (arith, onto-length m.has_linear t.has_linear, z.has_linear);
        has_row = omega (arith, onto-length m.has_row t.has_row, z.has_row);
        fixed = omega (arith, onto-length m.fixed t.fixed, z.fixed);
        keys = padded-long 0 (pairs_of c) (length m.pairs) (keys_in m.pairs) t.keys (length-map m.pairs _);
        weights = padded-long (pos 0) (pairs_of c) (length m.pairs) (weights_in m.pairs) t.weights (length-map m.pairs _);
        few = small b sound;
        names = (fin b sound s num).at_most;
        offset = omega (arith, offset-within m, light b sound s num form);
        modeled = modeled-there;
        zeros = λ q h. ap (λ (l : List ℤ). get_or l q (pos 0)) (take-onto (names_of c) m.linear t.linear z.linear) ∙ (gone-there q h).linear;
        bads = refl;
        inputs = refl;
      }

-- what a build left that is not refused
-- where a build is done
abbrev pub LeftBy : List ℕ → Tables → Result Finished Refusal → Type 0
LeftBy b u x = (f : Finished) → x ≡ Ok f → Left b u f

pub left_by : (b : List ℕ) (form : Form) (t u : Tables) (x : Result Finished Refusal) → (u, x) ≡ built b form t → LeftBy b u x
left_by b form t u x e f p = by-done b form t u f (Left b) (sym e ∙ ap (λ (y : Result Finished Refusal). (u, y)) p) (left-of b form t)

-- ---- what the code lends

zip-take : (p : ℕ) (ks : List ℕ) (ws : List ℤ) → take p (zip (take p ks) (take p ws)) ≡ take p (zip ks ws)
zip-take zero ks ws = refl
zip-take (suc p) [] ws = refl
zip-take (suc p) (k ∷ ks) [] = refl
zip-take (suc p) (k ∷ ks) (w ∷ ws) = ap (λ (l : List Entry). (k, w) ∷ l) (zip-take p ks ws)

module _ {b : List ℕ} {u : Tables} {f : Finished} (l : Left b u f) (k : Counts) (e : k ≡ counts_of b) where
  pub passed : Passed b k
  passed = record { sound = l.sound; counts = e }

  pub names-few : 3 * k.gates + k.bad_states + 1 ≤ 65536
  names-few = omega (arith, names-counted b k e, l.few)

  pub from-few : k.gates + k.list_bits ≤ 65536
  from-few = omega (arith, gates-few passed, list-bits-few passed)

  -- the parts that are lent are there
  pub gates-part : k.gates ≡ length (take k.gates u.qubits)
  gates-part = sym (length-take-le k.gates u.qubits (omega (arith, (counted passed).gates, l.gates)))

  pub names-part : {A : Type 0} (xs : List A) → names_of (circuit_of b) ≤ length xs
      → 3 * k.gates + k.bad_states + 1 ≡ length (take (3 * k.gates + k.bad_states + 1) xs)
  names-part xs h = sym (length-take-le (3 * k.gates + k.bad_states + 1) xs (omega (arith, names-counted b k e)))

  module _ (n : ℕ) (o : ℤ) (en : n ≡ names_of (circuit_of b)) (eo : o ≡ f.offset) where
    -- what a run asks
    pub ready : RunReady b (starts_of b 20) (starts_of b 23) (k.gates + k.list_bits) f.bads f.inputs (mk (take k.gates u.qubits) (take n u.origins) (take n u.roles) f.names) (take f.names u.linear) (take n u.has_linear) (take n u.has_row) (take n u.fixed) (take f.pairs u.keys) (take f.pairs u.weights) (totals o f.pairs)
    ready =
        let from : k.gates + k.list_bits ≡ count_of b 0 13 + count_of b 20 20 = ap₂ ◌+◌ (gates-are passed) (list-bits-are passed) in
        let long : f.names ≤ length (take (names_of (circuit_of b)) u.fixed) = omega (arith, length-take-le (names_of (circuit_of b)) u.fixed l.fixed, l.names) in
        rw (en, eo, from, (counted passed).gates, l.bads, l.inputs) (run-ready b l.sound (state_in (circuit_of b) u f) l.numbers long l.modeled)

    -- and what it then does
    pub runs_as : (vs : List ℤ) (values : List ℕ)
        → ran (built_of b (mk (take k.gates u.qubits) (take n u.origins) (take n u.roles) f.names) f.form (tables o (take f.names u.linear) (take n u.has_linear) (take n u.has_row) (take n u.fixed) (take f.pairs u.keys) (take f.pairs u.weights) f.pairs)) vs values
        ≡ ran (built_in b u f) vs values
    runs_as vs values =
        (λ i. ran
        (record {
          circuit = circuit_of b;
          state = mk (take ((counted passed).gates i) u.qubits) (take (en i) u.origins) (take (en i) u.roles) f.names;
          model = record {
            offset = eo i;
            linear = sym (take-take f.names (names_of (circuit_of b)) u.linear l.names) i;
            has_linear = take (en i) u.has_linear;
            has_row = take (en i) u.has_row;
            fixed = take (en i) u.fixed;
            pairs = zip-take f.pairs u.keys u.weights i;
          };
          form = f.form;
        }) vs values)
        ∙ ran-cut f.names (built_in b u f) l.zeros vs values
