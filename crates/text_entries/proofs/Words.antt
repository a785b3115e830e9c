-- The words of the text, by the tests that the code makes.
-- Assumes nothing.
use mathlib.Core.Path.{◌≡◌, refl, sym, ap, ◌∙◌}
use mathlib.Core.Bool.{Bool, true, false, cond}
use mathlib.Core.Option.{Option, none, some}
use mathlib.Core.List.{List, [], ◌∷◌, ◌++◌, append-nil}
use Prim.Native.Nat.{ℕ, ◌^◌, ◌<◌}
use native.Mathlib.Omega.{arith}
use lib.IntN.{ℤ}
use lib.Signed.{mag}
use mir.Syntax.{w64}
use mir.Val.{SFits, to_z, of_z, hbits}
use mir.Facts.{to_z-of_z}
use Rattle.text.specs.Text.{newline, space, fixed_byte, value_byte, qubit_text, end_text, entry_text, pair_text, Shown, word, comma}

-- ---- the end of a bad state's line, by the byte of its fixed value

pub end-free : (v : Option Bool) (b : ℕ) → b ≡ fixed_byte v → b ≡ 45 → end_text v ≡ newline ∷ []
end-free none b e h = refl
end-free (some false) b e h = absurd (omega arith)
end-free (some true) b e h = absurd (omega arith)

pub end-fixed : (v : Option Bool) (b : ℕ) → b ≡ fixed_byte v → (b ≡ 45 → ⊥) → end_text v ≡ space ∷ b ∷ newline ∷ []
end-fixed none b e h = absurd (h e)
end-fixed (some false) b e h = ap (λ (x : ℕ). space ∷ x ∷ newline ∷ []) (sym e)
end-fixed (some true) b e h = ap (λ (x : ℕ). space ∷ x ∷ newline ∷ []) (sym e)

-- ---- a signed element of a table reaches a callee as what the machine reads back of it

pub entry_read : (n : ℕ) (z : ℤ) → mag z < 2 ^ hbits w64 → entry_text n z ≡ entry_text n (to_z w64 (of_z w64 z))
entry_read n z h = let f : SFits w64 z = record { sfits = h } in ap (entry_text n) (sym (to_z-of_z f))

pub pair_read : (k : ℕ) (z : ℤ) → mag z < 2 ^ hbits w64 → pair_text (k, z) ≡ pair_text (k, to_z w64 (of_z w64 z))
pair_read k z h = let f : SFits w64 z = record { sfits = h } in ap (λ (x : ℤ). pair_text (k, x)) (sym (to_z-of_z f))

-- ---- a word, by which of the two it is

pub word_value : (v : Bool) (s : Shown) (b : ℕ) → v ≡ true → b ≡ value_byte s → word v s ≡ b ∷ []
word_value v s b h e = ap (λ (v : Bool). word v s) h ∙ ap (λ (x : ℕ). x ∷ []) (sym e)

pub word-qubit : (v : Bool) (s : Shown) → v ≡ false → word v s ≡ qubit_text s
word-qubit v s h = ap (λ (v : Bool). word v s) h

-- with a comma after it where more follow
pub with-comma : (b : Bool) (s : List ℕ) → b ≡ true → s ++ cond b (comma ∷ []) [] ≡ s ++ (comma ∷ [])
with-comma b s h = ap (λ (b : Bool). s ++ cond b (comma ∷ []) []) h

pub without-comma : (b : Bool) (s : List ℕ) → b ≡ false → s ++ cond b (comma ∷ []) [] ≡ s
without-comma b s h = ap (λ (b : Bool). s ++ cond b (comma ∷ []) []) h ∙ append-nil s
