-- The writer. A text is written into a lent buffer from a place on, cut where the buffer ends; the place after it is told in any case.
-- One definition serves both passes: into an empty part, which tells the length, and into the buffer.
-- Assumes nothing.
use Rattle.std.specs.Prelude.{◌≡◌, refl, List, [], ◌∷◌, ◌++◌, ℕ, suc, ◌+◌, ◌^◌, ◌≤◌, ◌<◌, length, drop, set}
use Rattle.std.proofs.Common.{sym, ap, ◌∙◌, subst, add-zero, zero-add, add-suc, suc-add, arith, length-append}
use Rattle.std.proofs.lemmas.List.Edits.{sets, sets-eq}
use Rattle.std.proofs.Math.Seq.{length-sets}

-- the buffer, with the bytes of a text stored from a place on; past the buffer's end nothing is stored
unfoldable pub paste : List ℕ → ℕ → List ℕ → List ℕ
paste = sets

-- What a function that prints a text T at a place has done: the buffer has T from there on, and the answer is the place after it.
pub record Printed (T buf : List ℕ) (at : ℕ) (out : List ℕ) (next : ℕ) : Type 0 where
  pub bytes : out ≡ paste buf at T
  pub place : next ≡ at + length T

-- There are numbers for the places of the text.
pub record Room (at : ℕ) (T : List ℕ) : Type 0 where
  pub below : at + length T < 2 ^ 64

-- Pasting in turn is pasting the concatenation.
pub paste-append : (buf : List ℕ) (at : ℕ) (s t : List ℕ) → paste (paste buf at s) (at + length s) t ≡ paste buf at (s ++ t)
unfolding paste
paste-append buf at [] t = ap (λ (n : ℕ). sets buf n t) (add-zero at)
paste-append buf at (b ∷ s) t =
    ap (λ (n : ℕ). sets (sets (set buf at b) (suc at) s) n t) (add-suc at (length s) ∙ sym (suc-add at (length s)))
    ∙ paste-append (set buf at b) (suc at) s t

pub paste_none : (buf : List ℕ) (at : ℕ) → paste buf at [] ≡ buf
unfolding paste
paste_none buf at = refl

pub paste-one : (buf : List ℕ) (at b : ℕ) → paste buf at (b ∷ []) ≡ set buf at b
unfolding paste
paste-one buf at b = refl

-- The length is kept.
pub length-paste : (buf : List ℕ) (at : ℕ) (t : List ℕ) → length (paste buf at t) ≡ length buf
unfolding paste
length-paste buf at t = length-sets buf at t

-- Pasting into an empty part leaves it empty.
pub paste-empty : (at : ℕ) (t : List ℕ) → paste [] at t ≡ []
unfolding paste
paste-empty at [] = refl
paste-empty at (b ∷ t) = paste-empty (suc at) t

-- Where the whole text fits, the buffer holds it, and its other bytes are as before.
pub paste-fits : (buf t : List ℕ) → length t ≤ length buf → paste buf 0 t ≡ t ++ drop (length t) buf
unfolding paste
paste-fits buf t h = sets-eq t buf 0 (rw zero-add h) ∙ ap (λ (n : ℕ). t ++ drop n buf) (zero-add (length t))

-- ---- printing in turn

pub nothing : (buf : List ℕ) (at : ℕ) → Printed [] buf at buf at
nothing buf at = record { bytes = sym (paste_none buf at); place = sym (add-zero at) }

pub then : {s t buf mid out : List ℕ} {at next last : ℕ} → Printed s buf at mid next → Printed t mid next out last → Printed (s ++ t) buf at out last
then {s} {t} {buf} {mid} {out} {at} {next} {last} p q =
    record {
      bytes =
          q.bytes ∙ ap (λ (b : List ℕ). paste b next t) p.bytes ∙ ap (λ (n : ℕ). paste (paste buf at s) n t) p.place ∙ paste-append buf at s t;
      place = omega (arith, q.place, p.place, length-append s t);
    }

-- room for a text is room for its parts, each at its place
pub room-first : {at : ℕ} {s : List ℕ} (t : List ℕ) → Room at (s ++ t) → Room at s
room-first {at} {s} t h = record { below = omega (arith, length-append s t, h.below) }

pub room-second : {s t buf out : List ℕ} {at next : ℕ} → Printed s buf at out next → Room at (s ++ t) → Room next t
room-second {s} {t} p h = record { below = omega (arith, length-append s t, p.place, h.below) }

-- a text under another name
pub printed-as : {s t buf out : List ℕ} {at next : ℕ} → t ≡ s → Printed s buf at out next → Printed t buf at out next
printed-as {s} {t} {buf} {out} {at} {next} e p = subst (λ (T : List ℕ). Printed T buf at out next) (sym e) p

pub room_as : {at : ℕ} {s t : List ℕ} → t ≡ s → Room at t → Room at s
room_as {at} e h = subst (Room at) e h

-- a text of a known length, and where it ends
pub within : {t buf out : List ℕ} {at next : ℕ} (k : ℕ) → length t ≤ k → Printed t buf at out next → Printed t buf at out next × (next ≤ at + k)
within k h p = (p, omega (arith, h, p.place))

-- ---- the two passes

-- Printing into an empty part tells the length.
pub printed-length : {t out : List ℕ} {next : ℕ} → Printed t [] 0 out next → next ≡ length t
printed-length {t} p = p.place ∙ zero-add (length t)

-- Printing into a buffer that is long enough leaves the text in it, and its other bytes as before.
pub printed-whole : {t buf out : List ℕ} {next : ℕ} → Printed t buf 0 out next → length t ≤ length buf → out ≡ t ++ drop (length t) buf
printed-whole {t} {buf} p h = p.bytes ∙ paste-fits buf t h
