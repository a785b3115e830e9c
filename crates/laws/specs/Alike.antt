-- A loop that sets each entry of a table to one value: what holds at its head, that a turn keeps it, and what it leaves. One law for every element type.
-- Assumes nothing.
use Rattle.std.specs.Prelude.{◌≡◌, refl, List, [], ◌∷◌, ◌++◌, ℕ, ◌+◌, ◌≤◌, ◌<◌, length, take, set, replicate}
use Rattle.std.proofs.Common.{sym, ap, ◌∙◌, add-one, arith, length-set, take-suc-set}
use Rattle.std.proofs.lemmas.List.{replicate-append-replicate}
use Rattle.std.proofs.Math.Seq.{take-length}

module _ {A : Type 0} (z : A) where
  -- of t₀, now t, the first i entries are z
  pub record Alike (t₀ t : List A) (i : ℕ) : Type 0 where
    pub same : length t ≡ length t₀
    pub within : i ≤ length t
    pub done : take i t ≡ replicate i z

  pub alike-starts : (t : List A) → Alike t t 0
  alike-starts t = record { same = refl; within = omega arith; done = refl }

  pub alike-turn : (t₀ t : List A) (i : ℕ) → Alike t₀ t i → i < length t → Alike t₀ (set t i z) (i + 1)
  alike-turn t₀ t i v h =
      record {
        same = length-set t i z ∙ v.same;
        within = rw length-set (omega arith);
        done =
            rw add-one (take-suc-set t i z h)
            ∙ ap (λ (l : List A). l ++ (z ∷ [])) v.done
            ∙ replicate-append-replicate i 1 z;
      }

  pub alike-ends : (t₀ t : List A) (i : ℕ) → Alike t₀ t i → (i < length t → ⊥) → t ≡ replicate (length t₀) z
  alike-ends t₀ t i v n =
      let e : i ≡ length t = omega (arith, v.within) in
      sym (take-length t) ∙ ap (λ (k : ℕ). take k t) (sym e) ∙ v.done ∙ ap (λ (k : ℕ). replicate k z) (e ∙ v.same)
