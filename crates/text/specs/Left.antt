-- A loop that prints: what is still to be printed. Pasting the rest where the loop stands gives what pasting the whole text at the start gives.
-- Assumes nothing.
use Rattle.std.specs.Prelude.{◌≡◌, refl, List, [], ◌++◌, ℕ, ◌+◌, ◌≤◌, ◌<◌, length, get_or, drop}
use Rattle.std.proofs.Common.{sym, ap, ◌∙◌, subst, add-one, arith, length-append, drop-cons, drop_of_length-le}
use Rattle.text.specs.Paste.{paste, Printed, Room, paste-append, paste_none, length-paste}
use Rattle.text.specs.Text.{lines}

pub record Left (T buf₀ : List ℕ) (at₀ : ℕ) (rest buf : List ℕ) (at : ℕ) : Type 0 where
  pub bytes : paste buf at rest ≡ paste buf₀ at₀ T
  pub place : at + length rest ≡ at₀ + length T
  pub size : length buf ≡ length buf₀

module _ {T buf₀ : List ℕ} {at₀ : ℕ} where
  pub left-start : Left T buf₀ at₀ T buf₀ at₀
  left-start = record { bytes = refl; place = refl; size = refl }

  -- a part is printed
  pub left-print : {s rest buf out : List ℕ} {at next : ℕ} → Left T buf₀ at₀ (s ++ rest) buf at → Printed s buf at out next → Left T buf₀ at₀ rest out next
  left-print {s} {rest} {buf} {out} {at} {next} l p =
      record {
        bytes =
            ap (λ (b : List ℕ). paste b next rest) p.bytes
            ∙ ap (λ (n : ℕ). paste (paste buf at s) n rest) p.place
            ∙ paste-append buf at s rest
            ∙ l.bytes;
        place = omega (arith, l.place, p.place, length-append s rest);
        size = ap length p.bytes ∙ length-paste buf at s ∙ l.size;
      }

  -- the rest under another name
  pub left_as : {s rest buf : List ℕ} {at : ℕ} → rest ≡ s → Left T buf₀ at₀ rest buf at → Left T buf₀ at₀ s buf at
  left_as {s} {rest} {buf} {at} e l = subst (λ (r : List ℕ). Left T buf₀ at₀ r buf at) e l

  -- nothing is left
  pub left_end : {buf : List ℕ} {at : ℕ} → Left T buf₀ at₀ [] buf at → Printed T buf₀ at₀ buf at
  left_end {buf} {at} l = record { bytes = sym (paste_none buf at) ∙ l.bytes; place = omega (arith, l.place) }

  -- there is room for what is left
  pub left-room : {rest buf : List ℕ} {at : ℕ} → Room at₀ T → Left T buf₀ at₀ rest buf at → Room at rest
  left-room h l = record { below = omega (arith, l.place, h.below) }

-- ---- one line for each of a list: what is left from the k-th on

module _ {A : Type 0} (f : A → List ℕ) (xs : List A) (k : ℕ) where
  pub lines-next : (d : A) → k < length xs → lines f (drop k xs) ≡ f (get_or xs k d) ++ lines f (drop (k + 1) xs)
  lines-next d h = ap (lines f) (drop-cons xs k d h) ∙ ap (λ (n : ℕ). f (get_or xs k d) ++ lines f (drop n xs)) (sym (add-one k))

  pub lines-end : length xs ≤ k → lines f (drop k xs) ≡ []
  lines-end h = ap (lines f) (drop_of_length-le xs h)
