-- The pair tables with other entries in use (`over`): what stands where.
-- Assumes nothing.
use Rattle.std.specs.Prelude.{◌≡◌, List, ◌++◌, ℕ, zero, suc, ◌+◌, ◌-◌, ◌≤◌, length, take, drop, replicate}
use Rattle.std.proofs.Common.{sym, ap, ◌∙◌, append_assoc, append-nil, arith, length-append, length-drop, drop-drop}
use Rattle.std.proofs.Math.Nat.{sub-zero, zero-sub, suc-sub-suc}
use Rattle.std.proofs.lemmas.List.{length-replicate, replicate-append-replicate}
use Rattle.std.proofs.Math.Seq.{take-append_seam}
use Rattle.energy.specs.Model.{Entry}
use Rattle.store_pairs.specs.Store.{none, front, over}

length-zeros : (s : List Entry) (n : ℕ) → length (front s n) ≡ length s + (n - length s)
length-zeros s n = length-append s (replicate (n - length s) none) ∙ ap (λ (k : ℕ). length s + k) (length-replicate (n - length s) none)

-- no more in use than before: zeros after them
pub over-less : (s : List Entry) (n : ℕ) (T : List Entry) → length s ≤ n → over s n T ≡ s ++ (replicate (n - length s) none ++ drop n T)
unfolding over
over-less s n T h =
    let e : length (front s n) ≡ n = omega (arith, length-zeros s n) in
    rw e (append_assoc s (replicate (n - length s) none) (drop n T))

-- no fewer in use than before: what stands after them stays
pub over-more : (s : List Entry) (n : ℕ) (T : List Entry) → n ≤ length s → over s n T ≡ s ++ drop (length s) T
unfolding over
over-more s n T h =
    let e : n - length s ≡ 0 = omega arith in
    rw (e, append-nil s)

-- the entries in use stand at the front
pub take-over : (s : List Entry) (n : ℕ) (T : List Entry) → take (length s) (over s n T) ≡ s
unfolding over
take-over s n T =
    ap (take (length s)) (append_assoc s (replicate (n - length s) none) (drop (length (front s n)) T))
    ∙ take-append_seam s (replicate (n - length s) none ++ drop (length (front s n)) T)

-- the tables stay as long as they were
pub length_over : (s : List Entry) (n : ℕ) (T : List Entry) → length s ≤ length T → n ≤ length T → length (over s n T) ≡ length T
unfolding over
length_over s n T h k =
    omega (arith, length-append (front s n) (drop (length (front s n)) T), length-drop (length (front s n)) T, length-zeros s n)

drop-zeros : (a b : ℕ) → drop b (replicate a none) ≡ replicate (a - b) none
drop-zeros a zero = ap (λ (n : ℕ). replicate n none) (sym (sub-zero a))
drop-zeros zero (suc b) = ap (λ (n : ℕ). replicate n none) (sym (zero-sub (suc b)))
drop-zeros (suc a) (suc b) = drop-zeros a b ∙ ap (λ (n : ℕ). replicate n none) (sym (suc-sub-suc a b))

-- Where all entries that are not in use are 0, they are so afterwards.
pub over_zeros : (s : List Entry) (n : ℕ) (T : List Entry) → length s ≤ length T → n ≤ length T
    → drop n T ≡ replicate (length T - n) none → over s n T ≡ s ++ replicate (length T - length s) none
unfolding over
over_zeros s n T h k z =
    let zs = length-zeros s n in
    let at : length (front s n) ≡ n + (length (front s n) - n) = omega arith in
    let left : (length T - n) - (length (front s n) - n) ≡ length T - length (front s n) = omega arith in
    let rest : drop (length (front s n)) T ≡ replicate (length T - length (front s n)) none =
    ap (λ (i : ℕ). drop i T) at
    ∙ sym (drop-drop (length (front s n) - n) n T)
    ∙ ap (drop (length (front s n) - n)) z
    ∙ drop-zeros (length T - n) (length (front s n) - n)
    ∙ ap (λ (i : ℕ). replicate i none) left in
    let all : (n - length s) + (length T - length (front s n)) ≡ length T - length s = omega arith in
    ap (λ (t : List Entry). front s n ++ t) rest
    ∙ append_assoc s (replicate (n - length s) none) (replicate (length T - length (front s n)) none)
    ∙ ap (λ (t : List Entry). s ++ t) (replicate-append-replicate (n - length s) (length T - length (front s n)) none ∙ ap (λ (i : ℕ). replicate i none) all)
