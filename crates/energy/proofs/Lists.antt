-- Theorems over the definitions of specs/Lists.antt, where their subject is told. An edit of such a definition is refused here.
-- Assumes nothing.
use Rattle.std.specs.Prelude.{◌≡◌, refl, ◌⊎◌, Bool, false, List, ℕ, zero, suc, ◌+◌, ◌≤◌, ◌<◌, pos, nat_abs, length}
use Rattle.std.proofs.Common.{sym, ◌∙◌, ap, inl, inr, arith, ext_get_or}
use Rattle.energy.specs.Plain.{Setting, plain, plain-same, sorted-le}
use Rattle.energy.specs.Circuit.{Choice}
use Rattle.energy.specs.Numbering.{Named, Numbering, rows}
use Rattle.energy.specs.Model.{binary_energy}
use Rattle.energy.specs.Before.{Chosen, ExactlyOne}
use Rattle.energy.proofs.Before.{exactly-one}
use Rattle.energy.specs.Finished.{Room, model, model-energy}
use Rattle.energy.specs.Lists.{ExactlyOneList, as_setting, tabulate}

length-tabulate : (n : ℕ) (σ : Setting) → length (tabulate n σ) ≡ n
unfolding tabulate
length-tabulate zero σ = refl
length-tabulate (suc n) σ = ap suc (length-tabulate n (λ q. σ (suc q)))

get_d_tabulate : (n : ℕ) (σ : Setting) (q : ℕ) → q < n → as_setting (tabulate n σ) q ≡ σ q
unfolding tabulate
get_d_tabulate zero σ q h = absurd (omega arith)
get_d_tabulate (suc n) σ zero h = refl
get_d_tabulate (suc n) σ (suc q) h = get_d_tabulate n (λ q. σ (suc q)) q (omega arith)

-- Theorem: that holds of each choice.
pub exactly-one-list : (n : ℕ) (d : Named) → Numbering d → Room n d → (e : Choice) → ExactlyOneList n d e
exactly-one-list n d m room e =
    record {
      the = tab;
      fits = length-tabulate d.count own;
      makes =
          record {
            at_low = same 0 (omega (arith, two)) ∙ one.makes.at_low;
            at_high = same 1 (omega (arith, two)) ∙ one.makes.at_high;
            at-free = λ g i f. same (d.base g) (m.frees g i f).1 ∙ one.makes.at-free g i f;
          };
      is_zero =
          model-energy n d m room (as_setting tab)
          ∙ ap (λ (k : ℕ). pos (k + k)) (plain-same 2 (rows d) d.count m.sorted (as_setting tab) own same ∙ one.is_zero);
      only = λ l k ch z. ext_get_or false l tab (k ∙ sym (length-tabulate d.count own)) (λ q h. agree l ch z q (omega arith) ∙ sym (same q (omega arith)));
    }
  where
    one : ExactlyOne d e
    one = exactly-one d m e

    own : Setting
    own = one.own

    tab : List Bool
    tab = tabulate d.count own

    two : 2 ≤ d.count
    two = sorted-le 2 (rows d) d.count m.sorted

    same : (q : ℕ) → q < d.count → as_setting tab q ≡ own q
    same = get_d_tabulate d.count own

    agree : (l : List Bool) → Chosen d e (as_setting l) → binary_energy (as_setting l) (model n d) ≡ pos 0 → (q : ℕ) → q < d.count → as_setting l q ≡ own q
    agree l ch z q h = go (one.others (as_setting l) ch)
      where
        none : plain (as_setting l) (rows d) + plain (as_setting l) (rows d) ≡ 0
        none = ap nat_abs (sym (model-energy n d m room (as_setting l)) ∙ z)

        go : ((q : ℕ) → q < d.count → as_setting l q ≡ own q) ⊎ (2 ≤ plain (as_setting l) (rows d)) → as_setting l q ≡ own q
        go (inl a) = a q h
        go (inr a) = absurd (omega (arith, none))
