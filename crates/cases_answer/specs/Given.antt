-- "8 bytes for each value": a run is given its first 65 values at most, and that is as if it were given all of them, since no circuit has more than 64 inputs.
-- Assumes nothing.
use Rattle.std.specs.Prelude.{Bool, List, ◌++◌, ◌≡◌, refl, ℕ, ◌*◌, ◌≤◌, ◌<◌, min, ltb, ℤ, pos, length, replicate, Err, Ok, Result}
use Rattle.std.proofs.Math.Path.{sym, ap}
use Rattle.std.proofs.Common.{◌∙◌, arith, ne_eqb}
use Rattle.std.proofs.Math.ListN.{take, drop}
use Rattle.std.proofs.lemmas.List.{length-replicate}
use Rattle.std.proofs.Math.Seq.{take_at}
use Rattle.laws.specs.Test.{by-ltb}
use Rattle.units.specs.declared.Form.{Form}
use Rattle.circuit.specs.Accepted.{well-formed}
use Rattle.circuit.specs.declared.Refusal.TheVariants.{FewValues, OtherCount}
use Rattle.qubot_left.specs.Built.{Tables, built}
use Rattle.run_meaning.specs.Ran.{Built, Done, done, refusal, choose, unknowns, within, beside, ran}
use Rattle.run_left.specs.Evaluated.{built_in, evaluated_by, evaluated}
use Rattle.run_left.specs.Left.{left_by}
use Rattle.cases.specs.Values.{values_of, count_in, values_into, given_of, length-values}
use Rattle.qubot_left.specs.declared.Finished.{Finished}
use Rattle.circuit.specs.declared.Refusal.{Refusal}

-- ---- the values that are given

module _ (s : List ℕ) (count : ℕ) (whole : 8 * count ≤ length s) where
  all_there : count_in s (min count 65) (replicate 65 (pos 0)) ≡ min count 65
  all_there = omega (arith, length-replicate {A = ℤ} 65 (pos 0))

  pub given-values : given_of s count ≡ values_of s (min count 65)
  unfolding given_of values_into
  given-values =
      ap (λ (n : ℕ). take (min count 65) (values_of s n ++ drop n (replicate 65 (pos 0)))) all_there
      ∙ take_at (values_of s (min count 65)) _ (min count 65) (length-values s (min count 65))

-- ---- more values than any circuit has inputs

module _ (u : Built) (few : length u.circuit.inputs ≤ 64) (vs ws : List ℤ) (v : 64 < length vs) (w : 64 < length ws) where
  other-count : (zs : List ℤ) → 64 < length zs → within u zs ≡ done (refusal OtherCount) (unknowns u)
  unfolding within
  other-count zs z = rw (ne_eqb (length zs) (length u.circuit.inputs) (λ e. omega arith))

  same-run : (t : List ℕ) → ran u vs t ≡ ran u ws t
  unfolding ran
  same-run t =
      ap (λ (d : Done). choose (ltb (length t) u.state.next) (done (refusal FewValues)) (λ t. beside (drop u.state.next t) d) t) (other-count vs v ∙ sym (other-count ws w))

-- Theorem: of bytes that have all the values, a run with those that are given is the run with all.
pub given-all : (b : List ℕ) (form : Form) (t : Tables) (s : List ℕ) (count : ℕ) (values : List ℕ) → 8 * count ≤ length s
    → evaluated b form t (given_of s count) values ≡ evaluated b form t (values_of s count) values
unfolding evaluated
given-all b form t s count values whole =
    rw (given-values s count whole)
    (by-ltb 65 count (λ (x : Bool). evaluated_by b (values_of s (min count 65)) values (built b form t) ≡ evaluated_by b (values_of s count) values (built b form t)) more fewer)
  where
    fewer : count ≤ 65 → evaluated_by b (values_of s (min count 65)) values (built b form t) ≡ evaluated_by b (values_of s count) values (built b form t)
    fewer h = let same : min count 65 ≡ count = omega arith in ap (λ (n : ℕ). evaluated_by b (values_of s n) values (built b form t)) same

    more : 65 < count → evaluated_by b (values_of s (min count 65)) values (built b form t) ≡ evaluated_by b (values_of s count) values (built b form t)
    more h = go (built b form t) refl
      where
        go : (y : Tables × Result Finished Refusal) → y ≡ built b form t → evaluated_by b (values_of s (min count 65)) values y ≡ evaluated_by b (values_of s count) values y
        go (u, Err r) e = refl
        go (u, Ok f) e =
            ap (λ (d : Done). (u, d))
            (same-run (built_in b u f) (well-formed b (left_by b form t u (Ok f) e f refl).sound).few_inputs (values_of s (min count 65)) (values_of s count)
            (omega (arith, length-values s (min count 65)))
            (omega (arith, length-values s count))
            values)
