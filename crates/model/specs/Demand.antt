-- Demand 3 of what is made of a circuit: of every circuit that is well formed and not refused, in either form.
-- Assumes nothing.
use Rattle.std.specs.Prelude.{◌≡◌, true, cond, List, [], ◌∷◌, ◌++◌, map, ltb, length, get_or}
use Rattle.std.proofs.Math.Path.{refl, ap, ap₂}
use Rattle.std.proofs.Common.{sym, ◌∙◌, arith, lt-ltb, le-ltb}
use Prim.Native.Nat.{ℕ, suc, ◌+◌, ◌-◌, ◌≤◌, ◌<◌}
use Rattle.std.proofs.lemmas.List.{length-map}
use Rattle.units.specs.declared.Form.{Form}
use Rattle.energy.specs.Circuit.{Circuit, Bad, Constraint}
use Rattle.energy.specs.Numbering.{AllIn, joined, name_in, top}
use Rattle.energy.specs.Model.{Model, empty, place_all}
use Rattle.energy.specs.Fixing.{Fixes, fix_all}
use Rattle.energy.specs.Clash.{none, clash, clash-none}
use Rattle.energy.specs.Finished.{forced, fixes, in_form, Known, Demand3}
use Rattle.energy.proofs.Finished.{demand-3}
use Rattle.energy.specs.Finished as energy
use Rattle.numbering.specs.State.{State, slot, qubit_of, names_of}
use Rattle.numbering.specs.Laws.{AllHave}
use Rattle.numbering.specs.Numbered.{numbered, bad_gates, number, named_of, first_join, tail}
use Rattle.numbering.specs.Tables.{name-is}
use Rattle.numbering.specs.Finished.{Formed, Finished, finished, numbering, constraints-in, rows_agree, low-inv}
use Rattle.model_fixes.specs.Order.{joined_qubit, fixes_of}
use Rattle.model.specs.Steps.{placed_of, finished_of}

joined-last : (q n : ℕ) (ps : List ℕ) → 1 ≤ length ps → joined q n ps ≡ n + length ps - 1
joined-last q n [] h = absurd (omega arith)
joined-last q n (p ∷ []) h = omega arith
joined-last q n (p ∷ r ∷ ps) h = joined-last n (suc n) (r ∷ ps) (omega arith) ∙ omega arith

length-tail : (xs : List ℕ) → length (tail xs) ≡ length xs - 1
length-tail [] = refl
length-tail (x ∷ xs) = omega arith

-- gates of which both have one name
have-constraints : (s : State) (gs : List ℕ) (cs : List Constraint) → AllHave s (gs ++ map (λ (k : Constraint). k.gate) cs) → AllHave s (map (λ (k : Constraint). k.gate) cs)
have-constraints s [] cs a = a
have-constraints s (g ∷ gs) cs a = have-constraints s gs cs a.1

have-first : (s : State) (gs hs : List ℕ) → 1 ≤ length gs → AllHave s (gs ++ hs) → 1 ≤ slot s (get_or gs 0 0)
have-first s [] hs l a = absurd (omega arith)
have-first s (g ∷ gs) hs l a = a.0

forced-same : (s : State) (f h : ℕ → ℕ) → ((g : ℕ) → 1 ≤ slot s g → f g ≡ h g)
    → (cs : List Constraint) → AllHave s (map (λ (k : Constraint). k.gate) cs) → forced f cs ≡ forced h cs
forced-same s f h e [] a = refl
forced-same s f h e (c ∷ cs) a = ap₂ (λ (q : ℕ) (fs : Fixes). (q, c.value) ∷ fs) (e c.gate a.0) (forced-same s f h e cs a.1)

pub known_of : (gs : List ℕ) (cs : List Constraint) → AllIn (map (λ (k : Constraint). k.gate) cs) gs → Known gs cs
known_of gs [] a = tt
known_of gs (c ∷ cs) a = (a.0, known_of gs cs a.1)

module _ (c : Circuit) (formed : Formed c) (s : State) (n : number c ≡ numbered s) where
  fin : Finished c s
  fin = finished c formed s n

  named : (g : ℕ) → 1 ≤ slot s g → name_in (named_of c s) g ≡ qubit_of s g
  named g has = name-is c.gates formed.ordered _ (low-inv c formed s fin) g has

  bads : length (bad_gates c) ≡ length c.bads
  bads = length-map c.bads (λ (b : Bad). b.gate)

  -- the joined qubit is the one of which demand 3 speaks
  top-is : top (named_of c s) ≡ joined_qubit c s
  unfolding joined_qubit
  top-is = go (tail (bad_gates c)) refl
    where
      first : ℕ
      first = name_in (named_of c s) (get_or (bad_gates c) 0 0)

      go : (bs : List ℕ) → bs ≡ tail (bad_gates c)
          → joined first (first_join c s) (map (name_in (named_of c s)) bs) ≡ cond (ltb 1 (length c.bads)) (s.next - 1) (qubit_of s (get_or (bad_gates c) 0 0))
      go [] e =
          let l : length c.bads ≤ 1 = omega (arith, ap length e, length-tail (bad_gates c), bads) in
          rw (le-ltb 1 (length c.bads) l)
          (named (get_or (bad_gates c) 0 0) (have-first s (bad_gates c) _ (omega (arith, bads, formed.some)) fin.reached))
      go (b ∷ bs) e =
          let l : 1 < length c.bads = omega (arith, ap length e, length-tail (bad_gates c), bads) in
          rw (lt-ltb 1 (length c.bads) l)
          (joined-last first (first_join c s) (map (name_in (named_of c s)) (b ∷ bs)) (omega arith)
          ∙ omega (arith, ap length e, length-tail (bad_gates c), bads, fin.last, length-map (b ∷ bs) (name_in (named_of c s))))

  -- the fixes are those of which demand 3 speaks
  pub fixes-are : fixes_of c s ≡ fixes (named_of c s) c.constraints
  unfolding fixes_of
  fixes-are =
      ap₂ (λ (q : ℕ) (fs : Fixes). (q, true) ∷ fs) (sym top-is)
      (sym (forced-same s (name_in (named_of c s)) (qubit_of s) named c.constraints (have-constraints s (bad_gates c) c.constraints fin.reached)))

  -- and so are the models
  pub placed-is : placed_of c s ≡ energy.model (names_of c) (named_of c s)
  unfolding placed_of
  placed-is = ap (λ rs. place_all rs (empty (names_of c))) (rows_agree c formed s fin)

  pub finished-is : (form : Form) → finished_of form c s ≡ in_form form (energy.finished (names_of c) (named_of c s) c.constraints)
  unfolding finished_of
  finished-is form = ap₂ (λ (fs : Fixes) (m : Model). in_form form (fix_all fs m)) fixes-are placed-is

  -- Theorem: demand 3 of the circuit's names and models, where no qubit is to be fixed to two values.
  pub demand : names_of c ≤ 65536 → clash (fixes_of c s) ≡ none → Demand3 (names_of c) (named_of c s) c.constraints
  demand small clear =
      demand-3 (names_of c) (named_of c s) (numbering c formed s fin)
      (record { fits = fin.at_most; names = small })
      c.constraints
      (known_of (named_of c s).reached c.constraints (constraints-in c formed s fin))
      (clash-none (fixes (named_of c s) c.constraints) (ap clash (sym fixes-are) ∙ clear))
