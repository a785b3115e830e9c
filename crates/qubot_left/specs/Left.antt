-- A build that is not refused comes one way only: the bytes passed the checks, the circuit was numbered, no two fixes clash, and the finished model stands in the
-- tables. What is known of that model.
-- Assumes nothing.
use Rattle.std.specs.Prelude.{◌≡◌, List, [], ◌∷◌, ◌++◌, ℕ, suc, ◌+◌, ◌*◌, ◌-◌, ◌^◌, ◌≤◌, ◌<◌, length, take, drop, replicate, Err, Ok, Result}
use Rattle.std.proofs.Math.Path.{refl, subst⁻¹}
use Rattle.std.proofs.Common.{sym, ap, ◌∙◌, subst, arith, length-append}
use Rattle.std.proofs.Math.Seq.{take-append_seam}
use Rattle.units.specs.declared.Form.{Form}
use Rattle.units.specs.declared.Form.TheVariants.{Binary, Ising}
use Rattle.energy.specs.Circuit.{Circuit}
use Rattle.energy.specs.Plain.{Row}
use Rattle.energy.specs.Model.{Entry, Model, Sized, mass, empty, place_all, quarters}
use Rattle.energy.specs.Sized.{sized-ising}
use Rattle.energy.specs.Mass.{mass-place_all, mass-empty}
use Rattle.energy.proofs.Mass.{mass-ising}
use Rattle.energy.specs.Fixing.{fix_all}
use Rattle.energy.specs.Ising.{ising-pairs}
use Rattle.energy.specs.Clash.{Clash, none, at, clash}
use Rattle.energy.specs.Finished.{Room, in_form}
use Rattle.energy.proofs.Finished.{sized-finished}
use Rattle.energy.specs.Finished as energy
use Rattle.circuit.specs.declared.Refusal.{Refusal}
use Rattle.circuit.specs.Check.{checked, counts_of}
use Rattle.circuit.specs.Meaning.{circuit_of}
use Rattle.circuit.specs.declared.Counts.{Counts}
use Rattle.circuit.specs.Accepted.{Sound, CountsAre, counts-are, well-formed}
use Rattle.circuit.proofs.Accepted.{accepts}
use Rattle.numbering.specs.State.{State, names_of}
use Rattle.numbering.specs.Numbered.{Outcome, refused, numbered, number, named_of, rows_of}
use Rattle.numbering.specs.Finished.{Formed, Finished as Named·finished, finished, numbering}
use Rattle.numbering.specs.Bytes.{prepared}
use Rattle.model_fixes.specs.Order.{fixes_of}
use Rattle.model.specs.Steps.{placed_of, finished_of}
use Rattle.model_place.specs.Few.{total, rows_few}
use Rattle.model_fixes.specs.Fixing.{fix_all-mass, fix_all-length}
use Rattle.model.specs.Modelled.{placed-room, pairs-most}
use Rattle.model.specs.Demand.{finished-is}
use Rattle.qubot_left.specs.declared.Finished.{Finished}
use Rattle.qubot_left.specs.Made.{after_clash, after_number, make}
use Rattle.qubot_left.specs.Built.{Tables, gates_in, names_in, pairs_in, padded, filled, onto, within, answer, finished_by, in_tables, checked_by, built}
use Rattle.qubot_left.specs.Parts.{Passed, good}

-- ---- the one way

never : {x u : Tables} {r : Refusal} {f : Finished} → ◌≡◌ {A = Tables × Result Finished Refusal} (x, Err r) (u, Ok f) → ⊥
never {x} {u} {r} {f} h =
    let k : ◌≡◌ {A = Result Finished Refusal} (Err r) (Ok f) = ap (λ (z : Tables × Result Finished Refusal). z.1) h in
    let z : ◌≡◌ {A = ℕ} 0 1 = cc in
    omega arith

same_tables : {x u : Tables} {g f : Finished} → ◌≡◌ {A = Tables × Result Finished Refusal} (x, Ok g) (u, Ok f) → x ≡ u
same_tables h = ap (λ (z : Tables × Result Finished Refusal). z.0) h

same_answer : {x u : Tables} {g f : Finished} → ◌≡◌ {A = Tables × Result Finished Refusal} (x, Ok g) (u, Ok f) → g ≡ f
same_answer {x} {u} {g} {f} h = let k : ◌≡◌ {A = Result Finished Refusal} (Ok g) (Ok f) = ap (λ (z : Tables × Result Finished Refusal). z.1) h in cc

-- What holds of the finished model of every numbering without a clash holds of what a build left that is not refused.
pub by-done : (b : List ℕ) (form : Form) (t u : Tables) (f : Finished) (P : Tables → Finished → Type 0) → built b form t ≡ (u, Ok f)
    → (Sound b → (s : State) → number (circuit_of b) ≡ numbered s → clash (fixes_of (circuit_of b) s) ≡ none
    → P (within (filled (circuit_of b) s (finished_of form (circuit_of b) s)) t) (answer form (circuit_of b) s (finished_of form (circuit_of b) s)))
    → P u f
unfolding built make
by-done b form t u f P e p = by-check (checked b (gates_in t) (names_in t) (pairs_in t)) refl e
  where
    by-clash : Sound b → (s : State) → number (circuit_of b) ≡ numbered s → (k : Clash) → clash (fixes_of (circuit_of b) s) ≡ k
        → in_tables t (finished_by form (circuit_of b) (after_clash form (circuit_of b) s k)) ≡ (u, Ok f) → P u f
    by-clash sound s n (at q) k h = absurd (never h)
    by-clash sound s n none k h =
        subst (λ (x : Tables). P x f) (same_tables h)
        (subst (P (within (filled (circuit_of b) s (finished_of form (circuit_of b) s)) t)) (same_answer h) (p sound s n k))

    by_number : Sound b → (o : Outcome) → number (circuit_of b) ≡ o → in_tables t (finished_by form (circuit_of b) (after_number form (circuit_of b) o)) ≡ (u, Ok f) → P u f
    by_number sound (refused g s) n h = absurd (never h)
    by_number sound (numbered s) n h = by-clash sound s n (clash (fixes_of (circuit_of b) s)) refl h

    by-check : (x : Result Counts Refusal) → checked b (gates_in t) (names_in t) (pairs_in t) ≡ x → checked_by b form t x ≡ (u, Ok f) → P u f
    by-check (Err r) k h = absurd (never h)
    by-check (Ok n) k h = by_number (accepts b (gates_in t) (names_in t) (pairs_in t) n k).sound (number (circuit_of b)) refl h

-- a table that stands at the front of a longer one
pub take-onto : {A : Type 0} (n : ℕ) (xs t : List A) → length xs ≡ n → take n (onto xs t) ≡ xs
take-onto n xs t e = ap (λ (i : ℕ). take i (xs ++ drop (length xs) t)) (sym e) ∙ take-append_seam xs (drop (length xs) t)

-- it is there
pub onto-length : {A : Type 0} (xs t : List A) → length xs ≤ length (onto xs t)
onto-length xs t = omega (arith, length-append xs (drop (length xs) t))

-- so are the entries in use of a table that is padded first
pub padded-long : {A : Type 0} (z : A) (n p : ℕ) (xs t : List A) → length xs ≡ p → p ≤ length (onto (padded z n xs) t)
padded-long z n p xs t e = omega (arith, onto-length (padded z n xs) t, length-append xs (replicate (n - length xs) z))

-- the names, as the code counts them
pub names-counted : (b : List ℕ) (k : Counts) → k ≡ counts_of b → 3 * k.gates + k.bad_states + 1 ≡ names_of (circuit_of b)
names-counted b k e = let c : CountsAre k (circuit_of b) = subst⁻¹ (λ (x : Counts). CountsAre x (circuit_of b)) e (counts-are b) in omega (arith, c.gates, c.bads)

-- ---- the finished model

-- rows are as many as what each of them counts once
ones : (rs : List Row) → length rs ≡ total (λ r. 1) rs
ones [] = refl
ones (r ∷ rs) = omega (arith, ones rs)

quarters-length : (es : List Entry) → length (quarters es) ≡ length es
quarters-length [] = refl
quarters-length (e ∷ es) = ap suc (quarters-length es)

module _ (b : List ℕ) (sound : Sound b) where
  abbrev c : Circuit
  c = circuit_of b

  pub formed : Formed c
  formed = (prepared b sound).formed

  pub small : names_of c ≤ 65536
  small = omega (arith, (well-formed b sound).few_gates, (well-formed b sound).few_bads)

  module _ (s : State) (num : number (circuit_of b) ≡ numbered s) where
    pub fin : Named·finished c s
    fin = finished c formed s num

    pub room : Room (names_of c) (named_of c s)
    room = record { fits = fin.at_most; names = small }

    module _ (form : Form) where
      abbrev m : Model
      m = finished_of form c s

      pub fin-is : m ≡ in_form form (energy.finished (names_of c) (named_of c s) c.constraints)
      fin-is = finished-is c formed s num form

      -- its tables have 3G+B+1 entries
      pub sized : Sized (names_of c) m
      sized = rw fin-is (go form)
        where
          base : Sized (names_of c) (energy.finished (names_of c) (named_of c s) c.constraints)
          base = sized-finished (names_of c) (named_of c s) (numbering c formed s fin) room c.constraints

          go : (form : Form) → Sized (names_of c) (in_form form (energy.finished (names_of c) (named_of c s) c.constraints))
          go Binary = base
          go Ising = sized-ising (names_of c) (energy.finished (names_of c) (named_of c s) c.constraints) base

      rows-at-most : length (rows_of c s) ≤ 10 * length c.gates + 3 * length c.bads
      rows-at-most = omega (arith, ones (rows_of c s), rows_few c s fin (λ r. 1) (λ r. omega arith) (λ r e. omega arith) formed)

      -- its numbers are small
      pub light : mass m < 2 ^ 40
      unfolding finished_of placed_of
      light = go form
        where
          base : mass (place_all (rows_of c s) (empty (names_of c))) < 2 ^ 40
          base =
              omega
              (arith, mass-place_all (rows_of c s) (empty (names_of c)), mass-empty (names_of c), rows-at-most, (well-formed b sound).few_gates, (well-formed b sound).few_bads)

          go : (form : Form) → mass (in_form form (fix_all (fixes_of c s) (placed_of c s))) < 2 ^ 40
          go Binary = omega (arith, base, fix_all-mass (fixes_of c s) (placed_of c s))
          go Ising = omega (arith, base, fix_all-mass (fixes_of c s) (placed_of c s), mass-ising (fix_all (fixes_of c s) (placed_of c s)))

      -- and its pairs are few
      pub pairs-at-most : length m.pairs ≤ 10192
      unfolding finished_of
      pairs-at-most = go form
        where
          passed : Passed b (counts_of b)
          passed = record { sound = sound; counts = refl }

          base : length (fix_all (fixes_of c s) (placed_of c s)).pairs ≤ 10192
          base =
              omega (
                arith,
                fix_all-length (fixes_of c s) (placed_of c s),
                placed-room b _ _ s (good passed s num),
                pairs-most b _ _ s (good passed s num),
              )

          go : (form : Form) → length (in_form form (fix_all (fixes_of c s) (placed_of c s))).pairs ≤ 10192
          go Binary = base
          go Ising = omega (arith, base, ap length (ising-pairs (fix_all (fixes_of c s) (placed_of c s))), quarters-length (fix_all (fixes_of c s) (placed_of c s)).pairs)
