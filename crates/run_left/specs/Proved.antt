-- What the answer of a run proves, by citing what is proved of the build before it (`build-proved`).
-- Assumes nothing.
use Rattle.std.specs.Prelude.{◌≡◌, refl, ◌⊎◌, ◌↔◌, Bool, true, false, List, ◌++◌, ℕ, ◌<◌, T, eqb, ltb, ℤ, pos, nat_abs, length, take, drop, Err, Ok, Result}
use Rattle.std.proofs.Common.{sym, ap, ◌∙◌, subst, inl, inr, arith}
use Rattle.std.proofs.Math.Seq.{take-append_seam}
use Rattle.laws.specs.Equal.{eq_z, eq_z→eq, eq→eq_z}
use Rattle.units.specs.declared.Form.{Form}
use Rattle.units.specs.declared.Energy.{Energy}
use Rattle.units.specs.Halves.{energy_of}
use Rattle.energy.specs.Circuit.{Choice, value}
use Rattle.energy.specs.Plain.{Setting}
use Rattle.energy.specs.Numbering.{In, Named, name_in}
use Rattle.energy.specs.Model.{Model, energy_in, binary_energy}
use Rattle.energy.specs.Fixing.{complete}
use Rattle.energy.specs.Finished.{fixes, Hit, OwnRunOnly, AtLeastTwo}
use Rattle.energy.proofs.Finished.{name_below}
use Rattle.energy.specs.Finished as energy
use Rattle.circuit.specs.declared.Refusal.{Refusal}
use Rattle.circuit.specs.declared.Refusal.TheVariants.{FewValues, OtherCount}
use Rattle.circuit.specs.Meaning.{circuit_of}
use Rattle.numbering.specs.State.{names_of}
use Rattle.numbering.specs.Numbered.{named_of}
use Rattle.qubot_left.specs.declared.Finished.{Finished}
use Rattle.qubot_left.specs.Built.{Tables, built}
use Rattle.qubot_left.specs.Proved.{state_in, model_in, ProvedOf, build-proved}
use Rattle.run_meaning.specs.Need.{Got, table, stopped}
use Rattle.run_meaning.specs.Ran.{Done, done, refusal, setting_of, finished, choose, unknowns, valued, within, beside, ran}
use Rattle.run_meaning.specs.Ran as evaluator
use Rattle.run_left.specs.Left.{left_by}
use Rattle.run_meaning.specs.Kept.{valued-length}
use Rattle.run_left.specs.Evaluated.{built_in, evaluated_by, evaluated}

-- ---- the statement

-- the setting that the value bytes of the model's qubits hold: 1 is true
abbrev pub found_in : Finished → Done → Setting
found_in f d = setting_of (take f.names d.values)

-- the numbered circuit whose names stand in the tables
abbrev pub named_in : List ℕ → Tables → Finished → Named
named_in b u f = named_of (circuit_of b) (state_in (circuit_of b) u f)

-- that setting with the fixed values
abbrev pub completed_in : List ℕ → Tables → Finished → Done → Setting
completed_in b u f d = complete (fixes (named_in b u f) (circuit_of b).constraints) (found_in f d)

-- the inputs, the division bits and the constants that a setting holds
abbrev pub choice_of : Named → Setting → Choice
choice_of d σ = record { low = σ 0; high = σ 1; bits = λ (g : ℕ). σ (d.base g) }

-- Of a run that left the tables u and the value bytes and answer d, with the energy e and the verdict hit.
pub record RunProved (b : List ℕ) (form : Form) (t u : Tables) (d : Done) (e : Energy) (hit : Bool) : Type 0 where
  -- the build before it was not refused and left these tables, so that all of `Proved` holds of them
  pub answer : Finished
  pub build : built b form t ≡ (u, Ok answer)
  -- the energy is that of the model of which `build-proved` speaks, in the form asked for, at the values found
  pub energy-is : e ≡ energy_of (energy_in form (found_in answer d) (model_in (circuit_of b) u answer)) form
  -- "A run is a hit when the energy is 0."
  pub hit-is : (hit ≡ true) ↔ (energy_in form (found_in answer d) (model_in (circuit_of b) u answer) ≡ pos 0)
  -- a hit: some inputs and division bits meet every constraint and make some bad state true
  pub witness : hit ≡ true → Hit (named_in b u answer) (circuit_of b).constraints
  -- and the values found, with the fixed ones, are the circuit's own run from the inputs and division bits that they hold
  pub own-run : hit ≡ true → (g : ℕ) → In g (named_in b u answer).reached
      → completed_in b u answer d (name_in (named_in b u answer) g) ≡ value (named_in b u answer).nodes (choice_of (named_in b u answer) (completed_in b u answer d)) g

-- ---- what a run answers

never : {r : Refusal} {e : Energy} {hit : Bool} → ◌≡◌ {A = Result (Energy × Bool) Refusal} (Err r) (Ok (e, hit)) → ⊥
never {r} {e} {hit} k = let z : ◌≡◌ {A = ℕ} 0 1 = cc in omega arith

same-energy : {a e : Energy} {x y : Bool} → ◌≡◌ {A = Result (Energy × Bool) Refusal} (Ok (a, x)) (Ok (e, y)) → e ≡ a
same-energy {a} {e} {x} {y} k = let p : ◌≡◌ {A = Energy × Bool} (a, x) (e, y) = cc in sym (ap (λ (z : Energy × Bool). z.0) p)

same-hit : {a e : Energy} {x y : Bool} → ◌≡◌ {A = Result (Energy × Bool) Refusal} (Ok (a, x)) (Ok (e, y)) → y ≡ x
same-hit {a} {e} {x} {y} k = let p : ◌≡◌ {A = Energy × Bool} (a, x) (e, y) = cc in sym (ap (λ (z : Energy × Bool). z.1) p)

-- the energy and the verdict of a run that is not refused
record Answers (u : evaluator.Built) (d : Done) (e : Energy) (hit : Bool) : Type 0 where
  energy-is : e ≡ energy_of (energy_in u.form (setting_of (take u.state.next d.values)) u.model) u.form
  hit-is : hit ≡ eq_z (energy_in u.form (setting_of (take u.state.next d.values)) u.model) (pos 0)

ran-answers : (u : evaluator.Built) (vs : List ℤ) (values : List ℕ) (e : Energy) (hit : Bool) → (ran u vs values).run.outcome ≡ Ok (e, hit) → Answers u (ran u vs values) e hit
unfolding ran within
ran-answers u vs values e hit k = by-room (ltb (length values) u.state.next) k
  where
    by-got : (g : Got) → valued u vs (unknowns u) ≡ g → (finished u g).run.outcome ≡ Ok (e, hit) → Answers u (beside (drop u.state.next values) (finished u g)) e hit
    by-got (table t) v k =
        let same : take u.state.next (t ++ drop u.state.next values) ≡ t =
        ap (λ (n : ℕ). take n (t ++ drop u.state.next values)) (sym (valued-length u vs t v)) ∙ take-append_seam t _ in
        record { energy-is = rw same (same-energy k); hit-is = rw same (same-hit k) }
    by-got (stopped x) v k = absurd (never k)

    by_count : (b : Bool) → (choose b (λ t. finished u (valued u vs t)) (done (refusal OtherCount)) (unknowns u)).run.outcome ≡ Ok (e, hit)
        → Answers u (beside (drop u.state.next values) (choose b (λ t. finished u (valued u vs t)) (done (refusal OtherCount)) (unknowns u))) e hit
    by_count true k = by-got (valued u vs (unknowns u)) refl k
    by_count false k = absurd (never k)

    by-room : (b : Bool) → (choose b (done (refusal FewValues)) (λ t. beside (drop u.state.next t) (within u vs)) values).run.outcome ≡ Ok (e, hit)
        → Answers u (choose b (done (refusal FewValues)) (λ t. beside (drop u.state.next t) (within u vs)) values) e hit
    by-room true k = absurd (never k)
    by-room false k = by_count (eqb (length vs) (length u.circuit.inputs)) k

-- ---- a run after a build that is not refused

module _ (b : List ℕ) (form : Form) (t u : Tables) (f : Finished) (bu : built b form t ≡ (u, Ok f)) (vs : List ℤ) (values : List ℕ) (e : Energy) (hit : Bool) (k : (ran (built_in b u f) vs values).run.outcome ≡ Ok (e, hit)) where
  abbrev d : Done
  d = ran (built_in b u f) vs values

  abbrev σ : Setting
  σ = found_in f d

  abbrev m : Model
  m = model_in (circuit_of b) u f

  abbrev nd : Named
  nd = named_in b u f

  abbrev τ : Setting
  τ = completed_in b u f d

  p : ProvedOf b form u f
  p = build-proved b form t u f bu

  answers : Answers (built_in b u f) d e hit
  answers = ran-answers (built_in b u f) vs values e hit k

  verdict : hit ≡ eq_z (energy_in form σ m) (pos 0)
  verdict = answers.hit-is ∙ ap (λ (g : Form). eq_z (energy_in g σ m) (pos 0)) p.form-asked

  zero_of : hit ≡ true → energy_in form σ m ≡ pos 0
  zero_of h = eq_z→eq (energy_in form σ m) (pos 0) (subst T (sym h ∙ verdict) tt)

  hit-of : energy_in form σ m ≡ pos 0 → hit ≡ true
  hit-of z = verdict ∙ passes (eq_z (energy_in form σ m) (pos 0)) (eq→eq_z z)
    where
      passes : (x : Bool) → T x → x ≡ true
      passes true y = refl
      passes false y = absurd y

  one : OwnRunOnly (names_of (circuit_of b)) nd (choice_of nd τ)
  one = p.before-fixing (choice_of nd τ)

  own : hit ≡ true → (g : ℕ) → In g nd.reached → τ (name_in nd g) ≡ value nd.nodes (choice_of nd τ) g
  own h g i = go (one.others τ (record { at_low = refl; at_high = refl; at-free = λ g i f. refl }))
    where
      below : name_in nd g < nd.count
      below =
          let l = left_by b form t u (Ok f) (sym bu) f refl in
          name_below nd.count nd p.names (record { fits = omega arith; names = omega (arith, l.names, l.few) }) g i

      zero : binary_energy τ (energy.model (names_of (circuit_of b)) nd) ≡ pos 0
      zero = sym (p.after-fixing σ) ∙ zero_of h

      go : ((q : ℕ) → q < nd.count → τ q ≡ one.own q) ⊎ AtLeastTwo (binary_energy τ (energy.model (names_of (circuit_of b)) nd)) → τ (name_in nd g) ≡ value nd.nodes (choice_of nd τ) g
      go (inl same) = same (name_in nd g) below ∙ one.is-run g i
      go (inr (n, l, z)) = let q : n ≡ 0 = ap nat_abs (sym z ∙ zero) in absurd (omega arith)

  run-done : RunProved b form t u d e hit
  run-done =
      record {
        answer = f;
        build = bu;
        energy-is = answers.energy-is ∙ ap (λ (g : Form). energy_of (energy_in g σ m) g) p.form-asked;
        hit-is = (zero_of, hit-of);
        witness = λ h. p.hence.0 (σ, zero_of h);
        own-run = own;
      }

-- Theorem: whatever the bytes, the tables, the values of the inputs and the value bytes were, if a run answers an energy and a verdict, then all of this holds.
pub run-proved : (b : List ℕ) (form : Form) (t u : Tables) (vs : List ℤ) (values : List ℕ) (d : Done) (e : Energy) (hit : Bool)
    → evaluated b form t vs values ≡ (u, d) → d.run.outcome ≡ Ok (e, hit) → RunProved b form t u d e hit
unfolding evaluated
run-proved b form t u vs values d e hit h k = by-build (built b form t) refl h
  where
    by-build : (x : Tables × Result Finished Refusal) → built b form t ≡ x → evaluated_by b vs values x ≡ (u, d) → RunProved b form t u d e hit
    by-build (w, Err r) bu h = absurd (never (ap (λ (z : Tables × Done). z.1.run.outcome) h ∙ k))
    by-build (w, Ok f) bu h =
        subst (λ (z : Tables × Done). RunProved b form t z.0 z.1 e hit) h
        (run-done b form t w f bu vs values e hit (ap (λ (z : Tables × Done). z.1.run.outcome) h ∙ k))
