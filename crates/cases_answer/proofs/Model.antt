-- What `dump_model` leaves in the buffer is a printed text, or the buffer as it was. Assumes nothing.
use Rattle.std.specs.Prelude.{Err, Ok, Result}
use Prim.Native.Nat.{ℕ, ◌≤◌}
use mathlib.Core.Bool.{Bool, true, false}
use mathlib.Core.List.{List, ◌++◌}
use mathlib.Core.Path.{◌≡◌, refl, sym, ap, ◌∙◌, subst, subst⁻¹}
use native.Mathlib.Nat.{zero-add}
use borrow.Author.Tests.{ltb-false}
use lib.Dec.{ltb}
use lib.ListN.{length, take, drop, replicate, length-replicate}
use lib.Seq.{take-append_seam}
use Rattle.units.specs.declared.Form.{Form}
use Rattle.circuit.specs.declared.Refusal.{Refusal}
use Rattle.qubot_left.specs.Built.{Tables, built}
use Rattle.text.specs.Paste.{paste, Printed, paste-fits, printed-as}
use Rattle.report_lines.specs.Report.{refusal_line}
use Rattle.text_left.specs.Dumped.{into_buffer, text_in, dumped_by, dumped}
use Rattle.qubot_left.specs.Fresh.{fresh}
use Rattle.cases_answer.specs.Answer.{model_says, model_answer}
use Rattle.qubot_left.specs.declared.Finished.{Finished}

-- by the answer
abbrev Left : List ℕ → List ℕ × Result ℕ Refusal → Type 0
Left buf (out, Ok n) = Printed (take n out) buf 0 out n
Left buf (out, Err r) = out ≡ buf

left-text : (text buf : List ℕ) → length text ≤ length buf → Left buf (text ++ drop (length text) buf, Ok (length text))
left-text text buf h =
    record {
      bytes = sym (paste-fits buf text h) ∙ ap (paste buf 0) (sym (take-append_seam text (drop (length text) buf)));
      place = ap length (sym (take-append_seam text (drop (length text) buf))) ∙ sym (zero-add _);
    }

left-into : (text buf : List ℕ) (short : Bool) → ltb (length buf) (length text) ≡ short → Left buf (into_buffer short text buf)
left-into text buf true e = refl
left-into text buf false e = left-text text buf (ltb-false (length buf) (length text) e)

left_by : (b buf : List ℕ) (y : Tables × Result Finished Refusal) → Left buf (dumped_by b buf y).1
left_by b buf (u, Err r) = refl
left_by b buf (u, Ok f) = left-into (text_in b u f) buf (ltb (length buf) (length (text_in b u f))) refl

left : (b : List ℕ) (form : Form) (buf out : List ℕ) (x : Result ℕ Refusal) → ◌≡◌ {A = List ℕ × Result ℕ Refusal} (out, x) (dumped b form fresh buf).1 → Left buf (out, x)
unfolding dumped
left b form buf out x e = subst⁻¹ (Left buf) e (left_by b buf (built b form fresh))

-- what is said does not depend on what the buffer held
says-into : (short : Bool) (text buf other : List ℕ) → model_says (into_buffer short text buf) ≡ model_says (into_buffer short text other)
says-into true text buf other = refl
says-into false text buf other =
    take-append_seam text (drop (length text) buf) ∙ sym (take-append_seam text (drop (length text) other))

says-by : (b buf other : List ℕ) (y : Tables × Result Finished Refusal) → length buf ≡ length other → model_says (dumped_by b buf y).1 ≡ model_says (dumped_by b other y).1
says-by b buf other (u, Err r) e = refl
says-by b buf other (u, Ok f) e =
    says-into (ltb (length buf) (length (text_in b u f))) (text_in b u f) buf other
    ∙ ap (λ (n : ℕ). model_says (into_buffer (ltb n (length (text_in b u f))) (text_in b u f) other)) e

says : (b : List ℕ) (form : Form) (buf : List ℕ) → model_answer b form (length buf) ≡ model_says (dumped b form fresh buf).1
unfolding model_answer dumped
says b form buf = says-by b (replicate (length buf) 0) buf (built b form fresh) (length-replicate (length buf) 0)

-- a text: it stands there
pub text-printed : (b : List ℕ) (form : Form) (buf out : List ℕ) (x : Result ℕ Refusal) (n : ℕ) → ◌≡◌ {A = List ℕ × Result ℕ Refusal} (out, x) (dumped b form fresh buf).1 → x ≡ Ok n
    → Printed (model_answer b form (length buf)) buf 0 out n
text-printed b form buf out x n e p =
    let is : ◌≡◌ {A = List ℕ × Result ℕ Refusal} (out, Ok n) (dumped b form fresh buf).1 = ap (λ (y : Result ℕ Refusal). (out, y)) (sym p) ∙ e in
    printed-as (says b form buf ∙ ap model_says (sym is)) (left b form buf out (Ok n) is)

-- a refusal: its line is printed into the buffer as it was
pub refusal-printed : (b : List ℕ) (form : Form) (buf mid out : List ℕ) (x : Result ℕ Refusal) (r : Refusal) (n : ℕ)
    → ◌≡◌ {A = List ℕ × Result ℕ Refusal} (mid, x) (dumped b form fresh buf).1 → x ≡ Err r → Printed (refusal_line r) mid 0 out n → Printed (model_answer b form (length buf)) buf 0 out n
refusal-printed b form buf mid out x r n e p q =
    let is : ◌≡◌ {A = List ℕ × Result ℕ Refusal} (mid, Err r) (dumped b form fresh buf).1 = ap (λ (y : Result ℕ Refusal). (mid, y)) (sym p) ∙ e in
    printed-as (says b form buf ∙ ap model_says (sym is)) (subst (λ (m : List ℕ). Printed (refusal_line r) m 0 out n) (left b form buf mid (Err r) is) q)
