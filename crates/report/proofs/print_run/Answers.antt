-- `report::print_run` meets its contract, by the outcome.
use Rattle.std.specs.Prelude.{Bool, Result}
use Rattle.std.proofs.Common.{◌≡◌, sym, ap₂, ℕ, min, arith, take}
use Rattle.text.specs.Paste.{printed-as}
use Rattle.run_outcome.specs.declared.Run.{Run}
use Rattle.report_lines.specs.Report.{run_lines, outcome_lines}
use Rattle.report.proofs.print_run.Goals as goal
use Rattle.units.specs.declared.Energy.{Energy}
use Rattle.circuit.specs.declared.Refusal.{Refusal}

-- the lines, by the outcome and the count that the code has found
says : (r : Run) (o : Result (Energy × Bool) Refusal) (n : ℕ) → r.outcome ≡ o → n ≡ min r.count 64 → run_lines r ≡ outcome_lines o (take n r.nids)
unfolding run_lines
says r o n e f = ap₂ (λ (o : Result (Energy × Bool) Refusal) (n : ℕ). outcome_lines o (take n r.nids)) e (sym f)

pub returns-in-Ok : goal.returns-in-Ok
returns-in-Ok c = record { printed = printed-as (says _ _ _ c.in-Ok.is c.min-count.ensures) c.print_ran.ensures.printed; upper_bound = c.print_ran.ensures.upper_bound }

pub returns-in-Err : goal.returns-in-Err
returns-in-Err c = record {
  printed = printed-as (says _ _ _ c.in-Err.is c.min-count.ensures) c.print_refusal.ensures.printed;
  upper_bound = omega (arith, c.print_refusal.ensures.upper_bound);
}
