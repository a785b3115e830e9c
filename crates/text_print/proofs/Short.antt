-- The text of a finished model is short: there are numbers for its places.
-- Assumes nothing.
use mathlib.Core.Bool.{Bool, true, false, cond}
use mathlib.Core.Option.{Option, none, some}
use mathlib.Core.List.{List, [], ◌∷◌, ◌++◌, map, zip}
use Prim.Native.Nat.{ℕ, zero, suc, ◌+◌, ◌*◌, ◌^◌, ◌≤◌, ◌<◌}
use native.Mathlib.Nat.{mul-suc, mul-zero}
use native.Mathlib.Omega.{arith}
use lib.Dec.{eqb}
use lib.IntN.{ℤ, pos, nat_abs}
use lib.ListN.{length, get_or, take, length-append}
use lib.Seq.{get_or-take, length-take-le}
use Rattle.energy.specs.Model.{Entry, low, high}
use Rattle.energy.specs.Circuit.{Bad, Input}
use Rattle.circuit.specs.declared.Counts.{Counts}
use Rattle.circuit.specs.File.{nid_at, count_of}
use Rattle.circuit.specs.Meaning.{circuit_of}
use Rattle.circuit.specs.Starts.{Regular, start_of}
use Rattle.circuit.specs.Accepted.{WellFormed, well-formed, bad-count}
use Rattle.circuit.specs.Parts.{bad_of, input_of_circuit, bad-stands, input-stands}
use Rattle.text.specs.Paste.{Room}
use Rattle.text.specs.Decimal.{decimal, length-decimal}
use Rattle.text.specs.Halves.{halves_text, length-halves}
use Rattle.text.specs.Text.{newline, space, comma, lines, commas, word, end_text, lead_text, entry_text, input_text, input_line, bad_text, bad_line, linear_text, pair_text, entries, shown, shown_at, BadLine, circuit_text, entries_text}
use Rattle.text.specs.Ready.{Printable}
use Rattle.text_print.proofs.Parts.{lines-map, commas-map}
use Rattle.text_print.proofs.Tables.{zip-long, zip-at}

-- ---- words and lines

length-lead : (n : ℕ) → n < 2 ^ 64 → length (lead_text n) ≤ 21
unfolding lead_text
length-lead n h = omega (arith, length-append (decimal n) (space ∷ []), length-decimal 19 n (omega arith))

length-entry : (n : ℕ) (h : ℤ) → n < 2 ^ 64 → nat_abs h < 2 ^ 64 → length (entry_text n h) ≤ 44
unfolding entry_text
length-entry n h l k =
    omega (arith, length-append (lead_text n) (halves_text h ++ (newline ∷ [])), length-append (halves_text h) (newline ∷ []), length-lead n l, length-halves h k)

length-pair : (e : Entry) → e.0 < 2 ^ 64 → nat_abs e.1 < 2 ^ 64 → length (pair_text e) ≤ 65
unfolding pair_text
length-pair e l k =
    omega (arith, length-append (lead_text (low e.0)) (entry_text (high e.0) e.1), length-lead (low e.0) (omega arith), length-entry (high e.0) e.1 (omega arith) k)

length-end : (v : Option Bool) → length (end_text v) ≤ 3
length-end none = omega arith
length-end (some b) = omega arith

length-bad : (l : BadLine) → l.nid < 2 ^ 64 → l.name < 2 ^ 64 → length (bad_text l) ≤ 44
unfolding bad_text
length-bad l h k =
    omega (arith, length-append (lead_text l.nid) (decimal l.name ++ end_text l.value), length-append (decimal l.name) (end_text l.value), length-lead l.nid h, length-decimal 19 l.name (omega arith), length-end l.value)

length-commas : {A : Type 0} (f : A → List ℕ) (K : ℕ) → ((x : A) → length (f x) ≤ K) → (xs : List A) → length (commas f xs) ≤ suc K * length xs
length-commas f K h [] = omega arith
length-commas f K h (x ∷ []) = omega (arith, h x, mul-suc (suc K) 0, mul-zero (suc K))
length-commas f K h (x ∷ y ∷ ys) =
    omega (arith, h x, length-append (f x) (comma ∷ commas f (y ∷ ys)), length-commas f K h (y ∷ ys), mul-suc (suc K) (length (y ∷ ys)))

-- each line at most K
length-lines : {A : Type 0} (f : A → List ℕ) (K : ℕ) (xs : List A) (d : A) → ((i : ℕ) → i < length xs → length (f (get_or xs i d)) ≤ K) → length (lines f xs) ≤ K * length xs
length-lines f K [] d h = omega (arith, mul-zero K)
length-lines f K (x ∷ xs) d h =
    omega (arith, h 0 (omega arith), length-append (f x) (lines f xs), length-lines f K xs d (λ i l. h (suc i) (omega arith)), mul-suc K (length xs))

-- ---- the linear entries

length-linear : (q : ℕ) (hs : List ℕ) (cs : List ℤ) → q + length hs < 2 ^ 64 → ((i : ℕ) → i < length cs → nat_abs (get_or cs i (pos 0)) < 2 ^ 64) → length (lines linear_text (entries q hs cs)) ≤ 44 * length hs
unfolding entries
length-linear q [] cs h k = omega arith
length-linear q (x ∷ hs) [] h k = omega arith
length-linear q (x ∷ hs) (z ∷ cs) h k =
    pick (eqb x 1) (length-entry q z (omega arith) (k 0 (omega arith))) (length-linear (suc q) hs cs (omega arith) (λ i l. k (suc i) (omega arith)))
  where
    pick : (b : Bool) → length (entry_text q z) ≤ 44 → length (lines linear_text (entries (suc q) hs cs)) ≤ 44 * length hs
        → length (lines linear_text (cond b ((q, z) ∷ entries (suc q) hs cs) (entries (suc q) hs cs))) ≤ 44 * length (x ∷ hs)
    pick true one rest = omega (arith, length-append (entry_text q z) (lines linear_text (entries (suc q) hs cs)))
    pick false one rest = omega arith

-- ---- nids

-- a number of eight bytes
nid-small : (c : List ℕ) → ((i : ℕ) → get_or c i 0 < 256) → (n : ℕ) → nid_at c n < 2 ^ 64
unfolding nid_at
nid-small c b n =
    omega (arith, b (16 * n + 8), b (16 * n + 8 + 1), b (16 * n + 8 + 2), b (16 * n + 8 + 2 + 1), b (16 * n + 12), b (16 * n + 12 + 1), b (16 * n + 12 + 2), b (16 * n + 12 + 2 + 1))

-- ---- inputs

length-word : (v : Bool) (fs : List ℕ) (q : ℕ) → q ≤ 65536 → length (word v (shown fs q)) ≤ 20
length-word true fs q h = omega arith
length-word false fs zero h = omega arith
length-word false fs (suc q) h = length-decimal 19 q (omega arith)

length-words : (v : Bool) (qs fs : List ℕ) → ((g : ℕ) → get_or qs g 0 ≤ 65536) → (gs : List ℕ) → length (commas (word v) (map (shown_at qs fs) gs)) ≤ 21 * length gs
length-words v qs fs h gs =
    rw (commas-map (word v) (shown_at qs fs) gs) (length-commas (λ (g : ℕ). word v (shown_at qs fs g)) 20 (λ g. length-word v fs (get_or qs g 0) (h g)) gs)

length-input : (qs fs : List ℕ) → ((g : ℕ) → get_or qs g 0 ≤ 65536) → (i : Input) → i.nid < 2 ^ 64 → length (input_text (input_line qs fs i)) ≤ 23 + 42 * length i.bits
unfolding input_text
length-input qs fs h i l =
    let W : Bool → List ℕ = λ v. commas (word v) (map (shown_at qs fs) i.bits) in
    omega (arith, length-append (lead_text i.nid) (W false ++ (space ∷ (W true ++ (newline ∷ [])))), length-append (W false) (space ∷ (W true ++ (newline ∷ []))), length-append (W true) (newline ∷ []), length-lead i.nid l, length-words false qs fs h i.bits, length-words true qs fs h i.bits)

-- ---- the parts

module _ {c st qs fs hs : List ℕ} {cs : List ℤ} {ks : List ℕ} {ws : List ℤ} {k : Counts} {n m : ℕ} (p : Printable c st qs fs hs cs ks ws k n m)
    (bytes : (i : ℕ) → get_or c i 0 < 256) (entries_small : (g : ℕ) → get_or qs g 0 ≤ 65536) (keys : (i : ℕ) → get_or ks i 0 < 2 ^ 64) where
  regular : Regular c
  regular = p.sound.timely.regular

  formed : WellFormed (circuit_of c)
  formed = well-formed c p.sound

  input-length : (i : ℕ) → i < length (circuit_of c).inputs → length (input_text (input_line qs fs (input_of_circuit (circuit_of c) i))) ≤ 2711
  input-length i l =
      let nid : (input_of_circuit (circuit_of c) i).nid < 2 ^ 64 = rw (input-stands c regular i l).nid (nid-small c bytes (start_of c 23 i)) in
      omega (arith, length-input qs fs entries_small (input_of_circuit (circuit_of c) i) nid, (formed.good_inputs i (record { nid = 0; bits = [] }) l).most)

  inputs-length : length (lines input_text (map (input_line qs fs) (circuit_of c).inputs)) ≤ 2711 * length (circuit_of c).inputs
  inputs-length =
      rw (lines-map input_text (input_line qs fs) (circuit_of c).inputs)
      (length-lines (λ (i : Input). input_text (input_line qs fs i)) 2711 (circuit_of c).inputs (record { nid = 0; bits = [] }) input-length)

  bad-length : (i : ℕ) → i < length (circuit_of c).bads → length (bad_text (bad_line qs fs (bad_of (circuit_of c) i))) ≤ 44
  bad-length i l =
      let nid : (bad_of (circuit_of c) i).nid < 2 ^ 64 =
      rw (bad-stands c regular i (omega (arith, bad-count c))) (nid-small c bytes (count_of c 0 13 + count_of c 20 20 + i)) in
      length-bad (bad_line qs fs (bad_of (circuit_of c) i)) nid (omega (arith, entries_small (bad_of (circuit_of c) i).gate))

  bads-length : length (lines bad_text (map (bad_line qs fs) (circuit_of c).bads)) ≤ 44 * length (circuit_of c).bads
  bads-length =
      rw (lines-map bad_text (bad_line qs fs) (circuit_of c).bads)
      (length-lines (λ (b : Bad). bad_text (bad_line qs fs b)) 44 (circuit_of c).bads (record { gate = 0; nid = 0 }) bad-length)

  linear-length : length (lines linear_text (entries 0 (take n hs) (take n cs))) ≤ 44 * n
  linear-length =
      let size = length-take-le n hs p.has_linear in
      let size' = length-take-le n cs p.linear in
      omega (arith, size, length-linear 0 (take n hs) (take n cs) (omega (arith, size, p.few)) (λ i l. rw (get_or-take n cs i (pos 0) (omega (arith, size'))) (p.small_linear i (omega (arith, size')))))

  pairs-length : length (lines pair_text (take m (zip ks ws))) ≤ 65 * m
  pairs-length =
      let size = length-take-le m (zip ks ws) (zip-long ks ws m p.keys p.weights) in
      omega (arith, size, length-lines pair_text 65 (take m (zip ks ws)) (0, pos 0) (λ i l. one i (omega (arith, size))))
    where
      one : (i : ℕ) → i < m → length (pair_text (get_or (take m (zip ks ws)) i (0, pos 0))) ≤ 65
      one i l =
          let h : i < length ks = omega (arith, p.keys) in
          let k : i < length ws = omega (arith, p.weights) in
          rw (get_or-take m (zip ks ws) i (0, pos 0) l, zip-at ks ws i h k) (length-pair (get_or ks i 0, get_or ws i (pos 0)) (keys i) (p.small_weights i l))

  -- There are numbers for all places of the text.
  pub short : (v : ℕ) (o : ℤ) → v < 2 ^ 64 → nat_abs o < 2 ^ 64 → Room 0 (entry_text v o ++ (newline ∷ (circuit_text (map (input_line qs fs) (circuit_of c).inputs) (map (bad_line qs fs) (circuit_of c).bads) ++ entries_text (entries 0 (take n hs) (take n cs)) (take m (zip ks ws)))))
  short v o l h =
      let I : List ℕ = lines input_text (map (input_line qs fs) (circuit_of c).inputs) in
      let B : List ℕ = lines bad_text (map (bad_line qs fs) (circuit_of c).bads) in
      let L : List ℕ = lines linear_text (entries 0 (take n hs) (take n cs)) in
      let P : List ℕ = lines pair_text (take m (zip ks ws)) in
      record {
        below =
            omega (arith, length-append (entry_text v o) (newline ∷ (I ++ (newline ∷ (B ++ (newline ∷ []))) ++ (L ++ (newline ∷ P)))), length-append (I ++ (newline ∷ (B ++ (newline ∷ [])))) (L ++ (newline ∷ P)), length-append I (newline ∷ (B ++ (newline ∷ []))), length-append B (newline ∷ []), length-append L (newline ∷ P), length-entry v o l h, inputs-length, bads-length, linear-length, pairs-length, formed.few_inputs, formed.few_bads, p.few, p.few_pairs);
      }
