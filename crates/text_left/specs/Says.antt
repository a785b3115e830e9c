-- The text that is printed is the model text of the model that stands in the tables.
-- Assumes nothing.
use Rattle.std.specs.Prelude.{◌≡◌, refl, ℕ, ℤ, take, Ok}
use Rattle.std.proofs.Common.{ap}
use mathlib.Core.List.{List, [], ◌∷◌, zip as side_by_side}
use Rattle.units.specs.declared.Form.{Form}
use Rattle.energy.specs.Model.{Entry}
use Rattle.circuit.specs.Meaning.{circuit_of}
use Rattle.numbering.specs.State.{names_of}
use Rattle.store_pairs.specs.Store.{zip}
use Rattle.qubot_left.specs.declared.Finished.{Finished}
use Rattle.qubot_left.specs.Built.{Tables, built}
use Rattle.qubot_left.specs.Proved.{model_in, build-proved}
use Rattle.text.specs.Text.{layout, sheet_by, model_text}
use Rattle.text_left.specs.Dumped.{text_in}

one-zip : (ks : List ℕ) (ws : List ℤ) → side_by_side ks ws ≡ zip ks ws
unfolding side_by_side
one-zip [] ws = refl
one-zip (k ∷ ks) [] = refl
one-zip (k ∷ ks) (w ∷ ws) = ap (λ (l : List Entry). (k, w) ∷ l) (one-zip ks ws)

-- Theorem: where the build is not refused, the text is `model_text` of the circuit, the qubits and the model that the tables and the answer hold.
pub text_says : (b : List ℕ) (form : Form) (t u : Tables) (f : Finished) → built b form t ≡ (u, Ok f)
    → text_in b u f ≡ model_text (circuit_of b) u.qubits (model_in (circuit_of b) u f)
text_says b form t u f e i =
    layout
    (sheet_by (circuit_of b) u.qubits ((build-proved b form t u f e).variables-counted i) f.offset (take (names_of (circuit_of b)) u.fixed)
    (take (names_of (circuit_of b)) u.has_linear)
    (take (names_of (circuit_of b)) u.linear)
    (take f.pairs (one-zip u.keys u.weights i)))
