-- A run that was made has a line of values, and a refusal has none. Assumes nothing.
use Rattle.std.specs.Prelude.{Err, Ok, Result}
use mathlib.Core.Bool.{Bool}
use mathlib.Core.List.{List, append-nil, ◌++◌}
use mathlib.Core.Path.{◌≡◌, ap, ◌∙◌}
use Prim.Native.Nat.{ℕ}
use Rattle.units.specs.declared.Energy.{Energy}
use Rattle.circuit.specs.declared.Refusal.{Refusal}
use Rattle.run_outcome.specs.declared.Run.{Run}
use Rattle.run_meaning.specs.Ran.{done}
use Rattle.report_lines.specs.Report.{run_lines}
use Rattle.cases.specs.Lines.{values_line, named}
use Rattle.cases_answer.specs.Answer.{values_after, run_says}

pub with_values : (r : Run) (values : List ℕ) (e : Energy) (hit : Bool) → r.outcome ≡ Ok (e, hit) → run_says (done r values) ≡ run_lines r ++ values_line (named values)
with_values r values e hit p = ap (λ (o : Result (Energy × Bool) Refusal). run_lines r ++ values_after o values) p

pub without : (r : Run) (values : List ℕ) (x : Refusal) → r.outcome ≡ Err x → run_says (done r values) ≡ run_lines r
without r values x p = ap (λ (o : Result (Energy × Bool) Refusal). run_lines r ++ values_after o values) p ∙ append-nil (run_lines r)
