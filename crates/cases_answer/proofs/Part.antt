-- Printing into the part of a buffer behind a place. Assumes nothing.
use Prim.Native.Nat.{ℕ, zero, suc, ◌+◌, ◌-◌, ◌≤◌, min, max}
use mathlib.Core.List.{List, [], ◌∷◌, ◌++◌, append-nil}
use mathlib.Core.Path.{◌≡◌, refl, sym, ap, ◌∙◌}
use native.Mathlib.Nat.{zero-min, suc-min-suc}
use native.Mathlib.Omega.{arith}
use borrow.Rule.Slice.PartMut.{mid_of, post_of, put_mid, same_len_mid}
use lib.ListN.{length, take, drop, set, length-take, length-drop, drop_of_length-le}
use lib.Seq.{take_all, take-nil, drop-nil}
use Rattle.text.specs.Paste.{paste, Printed, then, printed-as, paste-empty, length-paste}
use Rattle.cases.specs.declared.Asked.{Asked}
use Rattle.cases.specs.Lines.{case_text}
use Rattle.cases_answer.specs.Answer.{answer_of, whole_of}

paste-cons : (x : ℕ) (l : List ℕ) (at : ℕ) (t : List ℕ) → paste (x ∷ l) (suc at) t ≡ x ∷ paste l at t
unfolding paste
paste-cons x l at [] = refl
paste-cons x l at (b ∷ t) = paste-cons x (set l at b) (suc at) t

paste-empties : (i j : ℕ) (t : List ℕ) → paste [] i t ≡ paste [] j t
paste-empties i j t = paste-empty i t ∙ sym (paste-empty j t)

-- where the place lies past the end, the part is empty
pub paste-part : (l : List ℕ) (at : ℕ) (t : List ℕ) → take (min at (length l)) l ++ paste (drop (min at (length l)) l) 0 t ≡ paste l at t
paste-part l zero t = rw zero-min
paste-part [] (suc at) t = rw (take-nil {A = ℕ}, drop-nil {A = ℕ}) (paste-empties 0 (suc at) t)
paste-part (x ∷ l) (suc at) t = rw suc-min-suc (ap (λ (r : List ℕ). x ∷ r) (paste-part l at t) ∙ sym (paste-cons x l at t))

-- ---- a line, and an answer behind it

module _ (k : ℕ) (asked : Asked) (rest buf mid ys : List ℕ) (line from n : ℕ) (first : Printed (case_text k) buf 0 mid line) (e : from ≡ min line (length mid))
    (second : Printed (answer_of asked rest (length (mid_of from (length mid - from) mid))) (mid_of from (length mid - from) mid) 0 ys n) where
  -- the part
  part_length : length (mid_of from (length mid - from) mid) ≡ length mid - from
  part_length = simp (length-take, length-drop) (omega arith)

  ys-length : length ys ≡ length mid - from
  ys-length = ap length second.bytes ∙ length-paste _ _ _ ∙ part_length

  mid-length : length mid ≡ length buf
  mid-length = ap length first.bytes ∙ length-paste _ _ _

  pub out-length : length (put_mid from (length mid - from) mid ys) ≡ length mid
  out-length = same_len_mid from (length mid - from) mid ys (ys-length ∙ sym part_length)

  pub both-fit : line ≤ 26 → n ≤ max 7811 (length ys) → line + n ≤ max 7837 (length mid)
  both-fit h l = omega (arith, ys-length)

  room : length (mid_of from (length mid - from) mid) ≡ length buf - length (case_text k)
  room = omega (arith, part_length, mid-length, first.place, e)

  part-is : mid_of from (length mid - from) mid ≡ drop from mid
  part-is = take_all (length mid - from) (drop from mid) (omega (arith, length-drop from mid))

  none_after : post_of from (length mid - from) mid ≡ []
  none_after = drop_of_length-le (drop from mid) {i = length mid - from} (omega (arith, length-drop from mid))

  abbrev behind : List ℕ
  behind = answer_of asked rest (length (mid_of from (length mid - from) mid))

  answer-printed : Printed behind mid line (put_mid from (length mid - from) mid ys) (line + n)
  answer-printed =
      record {
        bytes =
            ap (λ (t : List ℕ). take from mid ++ (ys ++ t)) none_after
            ∙ ap (λ (t : List ℕ). take from mid ++ t) (append-nil ys ∙ second.bytes ∙ ap (λ (t : List ℕ). paste t 0 behind) part-is)
            ∙ ap (λ (m : ℕ). take m mid ++ paste (drop m mid) 0 behind) e
            ∙ paste-part mid line behind;
        place = omega (arith, second.place);
      }

  pub both-printed : Printed (whole_of k asked rest (length buf)) buf 0 (put_mid from (length mid - from) mid ys) (line + n)
  unfolding whole_of
  both-printed = printed-as (ap (λ (r : ℕ). case_text k ++ answer_of asked rest r) (sym room)) (then first answer-printed)
