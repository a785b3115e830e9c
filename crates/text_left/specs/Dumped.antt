-- What `dump_model` does, from the bytes of a circuit to the lent tables, the buffer and the answer. "Running and printing start from the circuit bytes and build first."
-- Assumes nothing: these are definitions.
use Rattle.std.specs.Prelude.{◌≡◌, refl, Bool, true, false, ℕ, ◌≤◌, ◌<◌, ltb, ℤ, length, take, drop, Err, Ok, Result}
use Rattle.std.proofs.Common.{sym, ap, ◌∙◌, subst, arith, length-append, lt-ltb, le-ltb}
use Rattle.std.proofs.Math.Path.{subst⁻¹}
use mathlib.Core.List.{List, [], ◌++◌, zip}
use Rattle.units.specs.declared.Form.{Form}
use Rattle.circuit.specs.declared.Refusal.TheVariants.{ShortText}
use Rattle.circuit.specs.Meaning.{circuit_of}
use Rattle.numbering.specs.State.{names_of}
use Rattle.qubot_left.specs.declared.Finished.{Finished}
use Rattle.qubot_left.specs.Built.{Tables, lent, built}
use Rattle.text.specs.Text.{layout, sheet_by}
use Rattle.circuit.specs.declared.Refusal.{Refusal}

-- the text of the model that the tables and the answer of a build hold
abbrev pub text_in : List ℕ → Tables → Finished → List ℕ
text_in b u f =
    layout
    (sheet_by (circuit_of b) u.qubits f.variables f.offset (take (names_of (circuit_of b)) u.fixed) (take (names_of (circuit_of b)) u.has_linear)
    (take (names_of (circuit_of b)) u.linear)
    (take f.pairs (zip u.keys u.weights)))

-- "17: the text buffer is shorter than the text; it stays unchanged." Else the text stands at its front, and the other bytes stay.
abbrev pub into_buffer : Bool → List ℕ → List ℕ → List ℕ × Result ℕ Refusal
into_buffer true text buf = (buf, Err ShortText)
into_buffer false text buf = (text ++ drop (length text) buf, Ok (length text))

abbrev pub written_to : List ℕ → List ℕ → List ℕ × Result ℕ Refusal
written_to text buf = into_buffer (ltb (length buf) (length text)) text buf

-- "1 to 9 change no text byte."
abbrev pub printed_by : List ℕ → List ℕ → Tables → Result Finished Refusal → List ℕ × Result ℕ Refusal
printed_by b buf u (Err r) = (buf, Err r)
printed_by b buf u (Ok f) = written_to (text_in b u f) buf

abbrev pub dumped_by : List ℕ → List ℕ → Tables × Result Finished Refusal → Tables × (List ℕ × Result ℕ Refusal)
dumped_by b buf (u, x) = (u, printed_by b buf u x)

-- The tables, the buffer and the answer, for all bytes, both forms, all tables and all buffers.
unfoldable pub dumped : List ℕ → Form → Tables → List ℕ → Tables × (List ℕ × Result ℕ Refusal)
dumped b form t buf = dumped_by b buf (built b form t)

-- Two answers that the promise allows are equal, and so are the tables and the buffer.
pub determined : (b : List ℕ) (form : Form) (t : Tables) (buf : List ℕ) (x y : Tables × (List ℕ × Result ℕ Refusal)) → x ≡ dumped b form t buf → y ≡ dumped b form t buf → x ≡ y
determined b form t buf x y e f = e ∙ sym f

-- a buffer that is shorter than the text, and one that is not
pub too_short : (text buf : List ℕ) (n : ℕ) → n ≡ length text → length buf < n → (buf, Err ShortText) ≡ written_to text buf
too_short text buf n e h = rw (lt-ltb (length buf) (length text) (subst (λ (k : ℕ). length buf < k) e h))

pub long-enough : (text buf out : List ℕ) (n : ℕ) → n ≡ length text → n ≤ length buf → out ≡ text ++ drop (length text) buf → (out, Ok n) ≡ written_to text buf
long-enough text buf out n e h o =
    rw (le-ltb (length buf) (length text) (subst (λ (k : ℕ). k ≤ length buf) e h)) (λ i. (o i, Ok (e i)))

-- the text, as the code has its numbers
pub text-as : (b : List ℕ) (u : Tables) (f : Finished) (n : ℕ) (o : ℤ) → n ≡ names_of (circuit_of b) → o ≡ f.offset
    → layout (sheet_by (circuit_of b) u.qubits f.variables o (take n u.fixed) (take n u.has_linear) (take n u.linear) (take f.pairs (zip u.keys u.weights))) ≡ text_in b u f
text-as b u f n o e p i =
    layout (sheet_by (circuit_of b) u.qubits f.variables (p i) (take (e i) u.fixed) (take (e i) u.has_linear) (take (e i) u.linear) (take f.pairs (zip u.keys u.weights)))

-- ---- by the build's answer

-- the origins, the roles and the rows are not printed
bare : (b buf : List ℕ) (u : Tables) (x : Result Finished Refusal) → printed_by b buf (lent u.qubits [] [] u.linear u.has_linear [] u.fixed u.keys u.weights) x ≡ printed_by b buf u x
bare b buf u (Err r) = refl
bare b buf u (Ok f) = refl

pub by-build : (b : List ℕ) (form : Form) (t u : Tables) (buf : List ℕ) (x : Result Finished Refusal) (w : List ℕ × Result ℕ Refusal) → (u, x) ≡ built b form t
    → w ≡ printed_by b buf (lent u.qubits [] [] u.linear u.has_linear [] u.fixed u.keys u.weights) x → (u, w) ≡ dumped b form t buf
unfolding dumped
by-build b form t u buf x w e h = ap (λ (y : List ℕ × Result ℕ Refusal). (u, y)) (h ∙ bare b buf u x) ∙ ap (dumped_by b buf) e

-- ---- A text that was printed lies within the buffer.

abbrev pub Inside : List ℕ × Result ℕ Refusal → Type 0
Inside (out, Ok n) = n ≤ length out
Inside (out, Err r) = Unit

inside-buffer : (short : Bool) (text buf : List ℕ) → Inside (into_buffer short text buf)
inside-buffer true text buf = tt
inside-buffer false text buf = omega (arith, length-append text (drop (length text) buf))

inside-by : (b buf : List ℕ) (u : Tables) (x : Result Finished Refusal) → Inside (printed_by b buf u x)
inside-by b buf u (Err r) = tt
inside-by b buf u (Ok f) = inside-buffer (ltb (length buf) (length (text_in b u f))) (text_in b u f) buf

pub dumped-inside : (b : List ℕ) (form : Form) (t : Tables) (buf : List ℕ) (x : Tables × (List ℕ × Result ℕ Refusal)) → x ≡ dumped b form t buf → Inside x.1
unfolding dumped
dumped-inside b form t buf x e = subst⁻¹ (λ (y : Tables × (List ℕ × Result ℕ Refusal)). Inside y.1) e (inside-by b buf (built b form t).0 (built b form t).1)

pub inside : (b : List ℕ) (form : Form) (t u : Tables) (buf out : List ℕ) (n : ℕ) (x : Result ℕ Refusal) → ◌≡◌ {A = Tables × (List ℕ × Result ℕ Refusal)} (u, (out, x)) (dumped b form t buf) → x ≡ Ok n → n ≤ length out
inside b form t u buf out n x e p = subst (λ (y : Result ℕ Refusal). Inside (out, y)) p (dumped-inside b form t buf (u, (out, x)) e)

-- the same, of what is left in the buffer alone
pub inside-text : (b : List ℕ) (form : Form) (t : Tables) (buf out : List ℕ) (x : Result ℕ Refusal) (n : ℕ) → ◌≡◌ {A = List ℕ × Result ℕ Refusal} (out, x) (dumped b form t buf).1 → x ≡ Ok n → n ≤ length out
inside-text b form t buf out x n e p = inside b form t (dumped b form t buf).0 buf out n x (λ i. ((dumped b form t buf).0, e i)) p
