-- What a run does, from the bytes of a circuit to the lent tables, the value bytes and the answer. "Running and printing start from the circuit bytes and build first."
-- Assumes nothing: these are definitions.
use Rattle.std.specs.Prelude.{◌≡◌, List, ℕ, ℤ, Err, Ok, Result}
use Rattle.std.proofs.Common.{sym, ap, ◌∙◌}
use Rattle.units.specs.declared.Form.{Form}
use Rattle.circuit.specs.Meaning.{circuit_of}
use Rattle.qubot_left.specs.declared.Finished.{Finished}
use Rattle.qubot_left.specs.Built.{Tables, built}
use Rattle.qubot_left.specs.Proved.{state_in, model_in}
use Rattle.run_meaning.specs.Ran.{Done, done, refusal, ran}
use Rattle.run_meaning.specs.Ran as evaluator
use Rattle.circuit.specs.declared.Refusal.{Refusal}

-- what a run starts from: the names and the model that the tables and the answer of a build hold, of which `build-proved` speaks
abbrev pub built_in : List ℕ → Tables → Finished → evaluator.Built
built_in b u f =
    record { circuit = circuit_of b; state = state_in (circuit_of b) u f; model = model_in (circuit_of b) u f; form = f.form }

-- "10 to 15, or 17, come after 1 to 9, which change no value or text byte. After 10 to 17 the tables hold the finished build."
abbrev pub ran_by : List ℕ → List ℤ → List ℕ → Tables → Result Finished Refusal → Done
ran_by b vs values u (Err r) = done (refusal r) values
ran_by b vs values u (Ok f) = ran (built_in b u f) vs values

abbrev pub evaluated_by : List ℕ → List ℤ → List ℕ → Tables × Result Finished Refusal → Tables × Done
evaluated_by b vs values (u, x) = (u, ran_by b vs values u x)

-- The tables, the value bytes and the answer, for all bytes, both forms, all tables, all values of the inputs and all value tables.
unfoldable pub evaluated : List ℕ → Form → Tables → List ℤ → List ℕ → Tables × Done
evaluated b form t vs values = evaluated_by b vs values (built b form t)

-- Two answers that the promise allows are equal, and so are the tables and the value bytes.
pub determined : (b : List ℕ) (form : Form) (t : Tables) (vs : List ℤ) (values : List ℕ) (x y : Tables × Done) → x ≡ evaluated b form t vs values → y ≡ evaluated b form t vs values → x ≡ y
determined b form t vs values x y e f = e ∙ sym f

-- ---- by the build's answer

pub by-build : (b : List ℕ) (form : Form) (t u : Tables) (vs : List ℤ) (values : List ℕ) (x : Result Finished Refusal) (d : Done) → (u, x) ≡ built b form t → d ≡ ran_by b vs values u x
    → (u, d) ≡ evaluated b form t vs values
unfolding evaluated
by-build b form t u vs values x d e h = ap (λ (y : Done). (u, y)) h ∙ ap (evaluated_by b vs values) e
