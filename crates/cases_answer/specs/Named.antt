-- "the value bytes of the model's names": the bytes that a run's answer lists are as many as the build gave names. No byte of a name is over 2, and the next is 3.
-- Assumes nothing.
use Rattle.std.specs.Prelude.{Bool, true, false, List, [], ◌∷◌, ◌++◌, ◌≡◌, refl, ℕ, zero, suc, ◌≤◌, eqb, ltb, ℤ, length, take, drop, set, replicate, Err, Ok, Result}
use Rattle.std.proofs.Common.{append-nil, sym, ap, ◌∙◌, arith, le-leb}
use Rattle.std.proofs.Math.Path.{subst⁻¹}
use Rattle.std.proofs.Math.Seq.{take-append_seam}
use Rattle.units.specs.declared.Form.{Form}
use Rattle.units.specs.declared.Energy.{Energy}
use Rattle.circuit.specs.declared.Refusal.{Refusal}
use Rattle.circuit.specs.declared.Refusal.TheVariants.{FewValues, OtherCount}
use Rattle.qubot_left.specs.declared.Finished.{Finished}
use Rattle.qubot_left.specs.Built.{Tables, built}
use Rattle.run_meaning.specs.Need.{Got, table, stopped, bit}
use Rattle.run_meaning.specs.Ran.{Built, Done, done, refusal, finished, choose, unknowns, valued, within, beside, ran}
use Rattle.run_left.specs.Evaluated.{built_in, evaluated_by, evaluated}
use Rattle.run_meaning.specs.Kept.{valued-keeps, valued-length}
use Rattle.cases.specs.Lines.{named}
use Rattle.qubot_left.specs.Fresh.{fresh}

-- ---- bytes that are values: 0 false, 1 true, 2 unknown

abbrev Values : List ℕ → Type 0
Values [] = Unit {0}
Values (v ∷ t) = (v ≤ 2) × Values t

bit-value : (b : Bool) → bit b ≤ 2
bit-value true = omega arith
bit-value false = omega arith

stays : (q : ℕ) (b : Bool) (t : List ℕ) → Values t → Values (set t q (bit b))
stays q b [] h = tt
stays zero b (v ∷ t) h = (bit-value b, h.1)
stays (suc q) b (v ∷ t) h = (h.0, stays q b t h.1)

unknown-values : (n : ℕ) → Values (replicate n 2)
unknown-values zero = tt
unknown-values (suc n) = (omega arith, unknown-values n)

named-values : (t s : List ℕ) → Values t → named (t ++ s) ≡ t ++ named s
unfolding named
named-values [] s h = refl
named-values (v ∷ t) s h = rw (le-leb v 2 h.0) (ap (λ (l : List ℕ). v ∷ l) (named-values t s h.1))

-- 3 is none
none_named : (n m : ℕ) → named (drop n (replicate m 3)) ≡ []
unfolding named
none_named zero zero = refl
none_named zero (suc m) = refl
none_named (suc n) zero = refl
none_named (suc n) (suc m) = none_named n m

-- ---- a run that was made

never : {r : Refusal} {e : Energy} {hit : Bool} → ◌≡◌ {A = Result (Energy × Bool) Refusal} (Err r) (Ok (e, hit)) → ⊥
never {r} {e} {hit} k = let z : ◌≡◌ {A = ℕ} 0 1 = cc in omega arith

-- the values that were listed are the first n
abbrev Listed : ℕ → Done → Type 0
Listed n d = named d.values ≡ take n d.values

ran-listed : (u : Built) (vs : List ℤ) (m : ℕ) (e : Energy) (hit : Bool) → (ran u vs (replicate m 3)).run.outcome ≡ Ok (e, hit) → Listed u.state.next (ran u vs (replicate m 3))
unfolding ran within
ran-listed u vs m e hit k = by-room (ltb (length (replicate m 3)) u.state.next) k
  where
    by-got : (g : Got) → valued u vs (unknowns u) ≡ g → (finished u g).run.outcome ≡ Ok (e, hit) → Listed u.state.next (beside (drop u.state.next (replicate m 3)) (finished u g))
    by-got (table t) v k =
        named-values t (drop u.state.next (replicate m 3)) (valued-keeps Values stays u vs t (unknown-values u.state.next) v)
        ∙ ap (λ (l : List ℕ). t ++ l) (none_named u.state.next m)
        ∙ append-nil t
        ∙ sym (take-append_seam t (drop u.state.next (replicate m 3)))
        ∙ ap (λ (n : ℕ). take n (t ++ drop u.state.next (replicate m 3))) (valued-length u vs t v)
    by-got (stopped x) v k = absurd (never k)

    by_count : (b : Bool) → (choose b (λ t. finished u (valued u vs t)) (done (refusal OtherCount)) (unknowns u)).run.outcome ≡ Ok (e, hit)
        → Listed u.state.next (beside (drop u.state.next (replicate m 3)) (choose b (λ t. finished u (valued u vs t)) (done (refusal OtherCount)) (unknowns u)))
    by_count true k = by-got (valued u vs (unknowns u)) refl k
    by_count false k = absurd (never k)

    by-room : (b : Bool) → (choose b (done (refusal FewValues)) (λ t. beside (drop u.state.next t) (within u vs)) (replicate m 3)).run.outcome ≡ Ok (e, hit)
        → Listed u.state.next (choose b (done (refusal FewValues)) (λ t. beside (drop u.state.next t) (within u vs)) (replicate m 3))
    by-room true k = absurd (never k)
    by-room false k = by_count (eqb (length vs) (length u.circuit.inputs)) k

-- Theorem: after a run that was made, the values in the answer are those of the names that the build gave. (`run-proved` of `run_left` has that there was a build.)
pub names-listed : (b : List ℕ) (form : Form) (u : Tables) (f : Finished) (vs : List ℤ) (e : Energy) (hit : Bool) → built b form fresh ≡ (u, Ok f)
    → (evaluated b form fresh vs (replicate 3065 3)).1.run.outcome ≡ Ok (e, hit)
    → named (evaluated b form fresh vs (replicate 3065 3)).1.values ≡ take f.names (evaluated b form fresh vs (replicate 3065 3)).1.values
unfolding evaluated
names-listed b form u f vs e hit bu =
    subst⁻¹
    (λ (y : Tables × Result Finished Refusal). (evaluated_by b vs (replicate 3065 3) y).1.run.outcome ≡ Ok (e, hit) → Listed f.names (evaluated_by b vs (replicate 3065 3) y).1)
    bu
    (ran-listed (built_in b u f) vs 3065 e hit)
