-- The answer of a case: "what the model or run program prints without the 4,096 byte limit, after a run also `values` and the value bytes of the model's names
-- separated by spaces".
-- Assumes nothing: these are definitions.
use Rattle.std.specs.Prelude.{ℕ, ◌-◌, List, [], ◌++◌, ℤ, ltb, length, take, drop, replicate, Bool, Err, Ok, Result}
use Rattle.units.specs.declared.Form.{Form}
use Rattle.circuit.specs.File.{either}
use Rattle.circuit.specs.declared.Refusal.TheVariants.{TooMany}
use Rattle.run_meaning.specs.Ran.{Done}
use Rattle.report_lines.specs.Report.{refusal_line, run_lines}
use Rattle.text_left.specs.Dumped.{dumped}
use Rattle.qubot_left.specs.Fresh.{fresh}
use Rattle.run_left.specs.Evaluated.{evaluated}
use Rattle.cases.specs.declared.Job.{Job}
use Rattle.cases.specs.declared.Job.TheVariants.{Model, Run}
use Rattle.cases.specs.declared.Asked.{Asked}
use Rattle.cases.specs.Values.{given_of}
use Rattle.cases.specs.Lines.{case_text, values_line, named}
use Rattle.units.specs.declared.Energy.{Energy}
use Rattle.circuit.specs.declared.Refusal.{Refusal}

-- what the buffer and the answer of a model come to: the text that stands at the front, or the refusal's line
abbrev pub model_says : List ℕ × Result ℕ Refusal → List ℕ
model_says (out, Ok n) = take n out
model_says (out, Err r) = refusal_line r

-- the model's text, or its refusal's line; 17 where there is less room than the text is long. What the buffer holds before does not matter.
unfoldable pub model_answer : List ℕ → Form → ℕ → List ℕ
model_answer b form room = model_says (dumped b form fresh (replicate room 0)).1

-- "after a run also `values` and the value bytes of the model's names": none after a refusal
abbrev pub values_after : Result (Energy × Bool) Refusal → List ℕ → List ℕ
values_after (Ok (e, hit)) values = values_line (named values)
values_after (Err r) values = []

abbrev pub run_says : Done → List ℕ
run_says d = run_lines d.run ++ values_after d.run.outcome d.values

-- The value table starts with 3s, which are no values: the value bytes of the model's names become values, and later ones stay.
unfoldable pub run_answer : List ℕ → Form → List ℤ → List ℕ
run_answer b form vs = run_says (evaluated b form fresh vs (replicate 3065 3)).1

-- by the job
abbrev pub answer_by : Job → List ℕ → Form → List ℤ → ℕ → List ℕ
answer_by Model b form vs room = model_answer b form room
answer_by Run b form vs room = run_answer b form vs

-- the longest circuit that can pass check 2: 1,000 gates, 4,096 list bits, 64 bad states, 256 constraints and 1,000 input bits of 16 bytes each
abbrev pub limit : ℕ
limit = 102656

-- From the bytes behind a head: "the circuit, 8 bytes for each value". "A circuit over 102,656 bytes is read past and answered `refused 2 0`."
unfoldable pub answer_of : Asked → List ℕ → ℕ → List ℕ
answer_of asked rest room =
    either (ltb limit asked.length) (refusal_line TooMany)
    (answer_by asked.job (take asked.length rest) asked.form (given_of (drop asked.length rest) asked.values) room)

-- "For each it prints `case K` (from 0) and then .."
unfoldable pub whole_of : ℕ → Asked → List ℕ → ℕ → List ℕ
whole_of k asked rest room = case_text k ++ answer_of asked rest (room - length (case_text k))
