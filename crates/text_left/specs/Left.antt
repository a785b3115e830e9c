-- What stands in the tables that a build left is fit to be printed.
-- Assumes nothing.
use Rattle.std.specs.Prelude.{◌≡◌, refl, List, [], ◌∷◌, ◌++◌, map, ℕ, ◌+◌, ◌*◌, ◌-◌, ◌^◌, ◌≤◌, ◌<◌, ℤ, pos, nat_abs, length, get_or, drop, replicate, Ok, Result}
use Rattle.std.proofs.Common.{sym, ap, ◌∙◌, arith, length-append}
use Rattle.std.proofs.Math.Path.{subst⁻¹}
use Rattle.std.proofs.lemmas.List.{length-map}
use Rattle.std.proofs.Math.ListN.{get_or-append}
use Rattle.units.specs.declared.Form.{Form}
use Rattle.energy.specs.Circuit.{Circuit, Bad, AllBelow}
use Rattle.energy.specs.Model.{Entry, Model, Sized, weights}
use Rattle.energy.specs.Mass.{offset-within, linear-within, weight-within}
use Rattle.circuit.specs.Check.{counts_of}
use Rattle.circuit.specs.Meaning.{circuit_of}
use Rattle.circuit.specs.Accepted.{Sound}
use Rattle.circuit.specs.Starts.{starts_of}
use Rattle.circuit.specs.declared.Counts.{Counts}
use Rattle.numbering.specs.State.{State, names_of}
use Rattle.numbering.specs.Laws.{AllHave}
use Rattle.numbering.specs.Numbered.{numbered, number}
use Rattle.numbering.specs.Finished.{Finished as Named·finished}
use Rattle.model.specs.Steps.{finished_of}
use Rattle.model_place.specs.Blank.{pairs_of}
use Rattle.qubot_left.specs.declared.Finished.{Finished}
use Rattle.qubot_left.specs.Built.{Tables, lent, padded, filled, onto, within, answer, built}
use Rattle.qubot_left.specs.Left.{by-done, onto-length, padded-long, names-counted, formed, small, fin, sized, light, pairs-at-most}
use Rattle.text.specs.Ready.{BadsNamed, Printable}
use Rattle.circuit.specs.declared.Refusal.{Refusal}

-- The file passed its checks; each gate has an entry, and each bad state a qubit; the tables have an entry for each of the names and of the pairs; and the numbers are small.
pub record Left (b : List ℕ) (u : Tables) (f : Finished) : Type 0 where
  pub sound : Sound b
  pub gates : length (circuit_of b).gates ≤ length u.qubits
  pub bads : BadsNamed u.qubits (circuit_of b).bads
  pub names : (g : ℕ) → g < length (circuit_of b).gates → get_or u.qubits g 0 ≤ names_of (circuit_of b)
  pub fixed : names_of (circuit_of b) ≤ length u.fixed
  pub has_linear : names_of (circuit_of b) ≤ length u.has_linear
  pub linear : names_of (circuit_of b) ≤ length u.linear
  pub keys : f.pairs ≤ length u.keys
  pub weights : f.pairs ≤ length u.weights
  pub offset : nat_abs f.offset < 2 ^ 63
  pub few : names_of (circuit_of b) ≤ 65536
  pub few_pairs : f.pairs ≤ 4294967296
  pub small_linear : (q : ℕ) → q < names_of (circuit_of b) → nat_abs (get_or u.linear q (pos 0)) < 2 ^ 64
  pub small_weights : (j : ℕ) → j < f.pairs → nat_abs (get_or u.weights j (pos 0)) < 2 ^ 64

-- ---- tables that stand at the front of longer ones

onto-at : {A : Type 0} (xs t : List A) (d : A) (i : ℕ) → i < length xs → get_or (onto xs t) i d ≡ get_or xs i d
onto-at xs t d i h = get_or-append xs (drop (length xs) t) d i h

-- the gates of the bad states have a qubit, in a table that begins with the state's
named-of : (s : State) (t : List ℕ) (bs : List Bad) (ys : List ℕ) → AllBelow (length s.qubits) (map (λ (b : Bad). b.gate) bs ++ ys)
    → AllHave s (map (λ (b : Bad). b.gate) bs ++ ys) → BadsNamed (onto s.qubits t) bs
named-of s t [] ys l a = tt
named-of s t (b ∷ bs) ys l a = (rw (onto-at s.qubits t 0 b.gate l.0) a.0, named-of s t bs ys l.1 a.1)

weights-at : (ps : List Entry) → map (λ (e : Entry). e.1) ps ≡ weights ps
weights-at [] = refl
weights-at (p ∷ ps) = ap (λ (l : List ℤ). p.1 ∷ l) (weights-at ps)

module _ (b : List ℕ) (form : Form) (t : Tables) (sound : Sound b) (s : State) (num : number (circuit_of b) ≡ numbered s) where
  abbrev c : Circuit
  c = circuit_of b

  abbrev m : Model
  m = finished_of form c s

  abbrev named : Named·finished c s
  named = fin b sound s num

  abbrev sizes : Sized (names_of c) m
  sizes = sized b sound s num form

  weight-at : (j : ℕ) → j < length m.pairs → get_or (onto (padded (pos 0) (pairs_of c) (map (λ (e : Entry). e.1) m.pairs)) t.weights) j (pos 0) ≡ get_or (weights m.pairs) j (pos 0)
  weight-at j h =
      let l : j < length (map (λ (e : Entry). e.1) m.pairs) = omega (arith, length-map m.pairs (λ (e : Entry). e.1)) in
      let k : j < length (padded (pos 0) (pairs_of c) (map (λ (e : Entry). e.1) m.pairs)) =
      omega (arith, length-append (map (λ (e : Entry). e.1) m.pairs) (replicate (pairs_of c - length (map (λ (e : Entry). e.1) m.pairs)) (pos 0))) in
      onto-at (padded (pos 0) (pairs_of c) (map (λ (e : Entry). e.1) m.pairs)) t.weights (pos 0) j k
      ∙ get_or-append (map (λ (e : Entry). e.1) m.pairs) _ (pos 0) j l
      ∙ ap (λ (l : List ℤ). get_or l j (pos 0)) (weights-at m.pairs)

  pub left-of : Left b (within (filled c s m) t) (answer form c s m)
  left-of =
      record {
        sound = sound;
        gates = omega (arith, onto-length s.qubits t.qubits, named.gates);
        bads = named-of s t.qubits c.bads _ (rw named.gates (formed b sound).in_range) named.reached;
        names = λ g h. rw (onto-at s.qubits t.qubits 0 g (omega (arith, named.gates))) (omega (arith, named.below g, named.last, named.at_most));
        fixed = omega (arith, onto-length m.fixed t.fixed, sizes.fixed);
        has_linear = omega (arith, onto-length m.has_linear t.has_linear, sizes.has_linear);
        linear = omega (arith, onto-length m.linear t.linear, sizes.linear);
        keys = padded-long 0 (pairs_of c) (length m.pairs) (map (λ (e : Entry). e.0) m.pairs) t.keys (length-map m.pairs _);
        weights = padded-long (pos 0) (pairs_of c) (length m.pairs) (map (λ (e : Entry). e.1) m.pairs) t.weights (length-map m.pairs _);
        offset = omega (arith, offset-within m, light b sound s num form);
        few = small b sound;
        few_pairs = omega (arith, pairs-at-most b sound s num form);
        small_linear = λ q h. rw (onto-at m.linear t.linear (pos 0) q (omega (arith, sizes.linear))) (omega (arith, linear-within m q, light b sound s num form));
        small_weights = λ j h. rw (weight-at j h) (omega (arith, weight-within m j, light b sound s num form));
      }

-- what a build left that is not refused
pub left : (b : List ℕ) (form : Form) (t u : Tables) (f : Finished) → built b form t ≡ (u, Ok f) → Left b u f
left b form t u f e = by-done b form t u f (Left b) e (λ sound s num clear. left-of b form t sound s num)

-- what printing asks
pub printable : {b : List ℕ} {u : Tables} {f : Finished} {k : Counts} {st : List ℕ} {n : ℕ} → Left b u f → k ≡ counts_of b → st ≡ starts_of b 23
    → n ≡ names_of (circuit_of b) → Printable b st u.qubits u.fixed u.has_linear u.linear u.keys u.weights k n f.pairs
printable {b} {u} {f} {k} {st} l h g e =
    subst⁻¹ (λ (x : ℕ). Printable b st u.qubits u.fixed u.has_linear u.linear u.keys u.weights k x f.pairs) e
    (record {
      sound = l.sound;
      counts = h;
      starts = g;
      gates = l.gates;
      bads = l.bads;
      names = l.names;
      fixed = l.fixed;
      has_linear = l.has_linear;
      linear = l.linear;
      keys = l.keys;
      weights = l.weights;
      few = l.few;
      few_pairs = l.few_pairs;
      small_linear = l.small_linear;
      small_weights = l.small_weights;
    })

-- the names are few
pub names-few : {b : List ℕ} {u : Tables} {f : Finished} (k : Counts) → Left b u f → k ≡ counts_of b → 3 * k.gates + k.bad_states + 1 ≤ 65536
names-few {b} k l e = omega (arith, names-counted b k e, l.few)

-- the tables that printing does not read do not matter
pub bare : {b : List ℕ} {u : Tables} {f : Finished} → Left b u f → Left b (lent u.qubits [] [] u.linear u.has_linear [] u.fixed u.keys u.weights) f
bare l =
    record {
      sound = l.sound;
      gates = l.gates;
      bads = l.bads;
      names = l.names;
      fixed = l.fixed;
      has_linear = l.has_linear;
      linear = l.linear;
      keys = l.keys;
      weights = l.weights;
      offset = l.offset;
      few = l.few;
      few_pairs = l.few_pairs;
      small_linear = l.small_linear;
      small_weights = l.small_weights;
    }

-- where a build is done
abbrev pub LeftBy : List ℕ → Tables → Result Finished Refusal → Type 0
LeftBy b u x = (f : Finished) → x ≡ Ok f → Left b u f

pub left_by : (b : List ℕ) (form : Form) (t u : Tables) (x : Result Finished Refusal) → (u, x) ≡ built b form t
    → LeftBy b (lent u.qubits [] [] u.linear u.has_linear [] u.fixed u.keys u.weights) x
left_by b form t u x e f p = bare (left b form t u f (sym e ∙ ap (λ (y : Result Finished Refusal). (u, y)) p))
