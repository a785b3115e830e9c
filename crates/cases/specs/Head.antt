-- The head of a case: "form (0 binary, 1 Ising), job (0 model, 1 run), count of values (2 bytes), length of the circuit (4 bytes) .. all little endian".
-- Assumes nothing: these are definitions.
use Rattle.std.specs.Prelude.{ℕ, List, ltb, eqb, length, get_or}
use Rattle.std.proofs.Common.{Option, Some, None}
use Rattle.circuit.specs.File.{either, half, word}
use Rattle.units.specs.declared.Form.{Form}
use Rattle.units.specs.declared.Form.TheVariants.{Binary, Ising}
use Rattle.cases.specs.declared.Job.{Job}
use Rattle.cases.specs.declared.Job.TheVariants.{Model, Run}
use Rattle.cases.specs.declared.Asked.{Asked}

abbrev pub form_of : ℕ → Form
form_of b = either (eqb b 1) Ising Binary

abbrev pub job_of : ℕ → Job
job_of b = either (eqb b 1) Run Model

-- what the first eight bytes ask for; "a stream that ends inside a case, or a form or job over 1" is malformed
abbrev pub head_of : List ℕ → Option Asked
head_of s =
    either (ltb (length s) 8) None
    (either (ltb 1 (get_or s 0 0)) None
    (either (ltb 1 (get_or s 1 0)) None
    (Some (record { form = form_of (get_or s 0 0); job = job_of (get_or s 1 0); values = half s 2; length = word s 4 }))))
