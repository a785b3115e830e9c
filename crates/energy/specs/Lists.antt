-- Exactly one setting, where a setting is a list with a Boolean for each name of the model.
-- The theorems that an edit of a definition breaks are in proofs/Lists.antt.
-- Assumes nothing.
use Rattle.std.specs.Prelude.{◌≡◌, Bool, false, List, [], ◌∷◌, ℕ, zero, suc, pos, length, get_or}
use Rattle.energy.specs.Plain.{Setting}
use Rattle.energy.specs.Circuit.{Choice}
use Rattle.energy.specs.Numbering.{Named}
use Rattle.energy.specs.Model.{binary_energy}
use Rattle.energy.specs.Before.{Chosen}
use Rattle.energy.specs.Finished.{model}

-- a list as a setting: past its end stands false
abbrev pub as_setting : List Bool → Setting
as_setting l q = get_or l q false

-- the first n values of a setting
unfoldable pub tabulate : ℕ → Setting → List Bool
tabulate zero σ = []
tabulate (suc n) σ = σ 0 ∷ tabulate n (λ q. σ (suc q))

-- of the lists of the model's length that make the choice, exactly one has energy 0
pub record ExactlyOneList (n : ℕ) (d : Named) (e : Choice) : Type 0 where
  pub the : List Bool
  pub fits : length the ≡ d.count
  pub makes : Chosen d e (as_setting the)
  pub is_zero : binary_energy (as_setting the) (model n d) ≡ pos 0
  pub only : (l : List Bool) → length l ≡ d.count → Chosen d e (as_setting l) → binary_energy (as_setting l) (model n d) ≡ pos 0 → l ≡ the
