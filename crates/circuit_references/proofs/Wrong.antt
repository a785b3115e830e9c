-- What the functions of `partner` read is within the bytes and the marks, and what they answer. Assumes nothing.
use Prim.Native.Nat.{ℕ, ◌≤◌, ◌<◌, ◌+◌, ◌*◌}
use mathlib.Core.Path.{◌≡◌, sym, ◌∙◌}
use mathlib.Core.Bool.{true, not, ◌||◌}
use mathlib.Core.List.{List}
use native.Mathlib.Omega.{arith}
use borrow.Author.Tests.{eq-eqb}
use lib.Dec.{eqb}
use lib.ListN.{length, get_or, set}
use Rattle.circuit.specs.File.{records, kind_byte, field, count_of}
use Rattle.circuit.specs.Partner.{wrong_input}
use Rattle.circuit.specs.Marks.{Timely, gates-within, input-gate, carry-early, Marks, marks-more, marks-other}

module _ (c : List ℕ) (t : Timely c) (n : ℕ) (u : n < records c) {kind : ℕ} (k : kind ≡ kind_byte c n) where
  pub adder-inside : {x : ℕ} → x ≡ field c n 0 → (eqb kind 8 || eqb kind 10) ≡ true → 16 * (x + 1) ≤ length c
  adder-inside i e = omega (arith, carry-early c t n u (rw k at e))

  pub input-small : kind ≡ 23 → {g : ℕ} → g ≡ field c n 1 → (16 * (g + 1) ≤ length c) × (g < 1000)
  input-small e i =
      let h : field c n 1 < count_of c 0 13 = input-gate c t n u (sym k ∙ e) in
      (omega (arith, gates-within c t.regular), omega (arith, t.regular.gates))

  pub input-by : kind ≡ 23 → {marks : List ℕ} → Marks c n marks → {g : ℕ} → g ≡ field c n 1 → kind_byte c g ≡ 2 → not (eqb (get_or marks g 0) 0) ≡ wrong_input c n
  input-by e m i a =
      let two : kind_byte c (field c n 1) ≡ 2 = rw i at a in
      rw (m.listed _ (input-small e i).1, i, eq-eqb (kind_byte c n) 23 (sym k ∙ e), two)

  pub marked : kind ≡ 23 → {marks : List ℕ} → Marks c n marks → {g : ℕ} → g ≡ field c n 1 → Marks c (n + 1) (set marks g 1)
  marked e m i = marks-more c m (sym k ∙ e) i (input-small e i).1

  pub unmarked : (kind ≡ 23 → ⊥) → {marks : List ℕ} → Marks c n marks → Marks c (n + 1) marks
  unmarked e m = marks-other c m (λ z. e (k ∙ z))
