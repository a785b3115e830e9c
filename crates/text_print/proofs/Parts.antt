-- The bad states and the inputs of a circuit, as the loops over them meet them: lines, and words with commas between them.
-- Assumes nothing.
use mathlib.Core.Path.{◌≡◌, refl, sym, ap, ap₂, ◌∙◌}
use mathlib.Core.Bool.{Bool, cond}
use mathlib.Core.List.{List, [], ◌∷◌, ◌++◌, map, append_assoc, append-nil}
use Prim.Native.Nat.{ℕ, zero, suc, ◌+◌, ◌-◌, ◌≤◌, ◌<◌}
use native.Mathlib.Numerals.{add-one}
use native.Mathlib.Omega.{arith}
use lib.Dec.{ltb, ltb→lt, lt→ltb}
use lib.ListN.{length, get_or, drop, length-map, length-drop, drop_of_length-le}
use lib.Seq.{drop-cons}
use borrow.Author.Tests.{lt-ltb}
use Rattle.laws.specs.Equal.{same_test}
use Rattle.energy.specs.Circuit.{Bad, Input, AllBelow}
use Rattle.circuit.specs.Count.{get_d_of}
use Rattle.circuit.specs.Meaning.{circuit_of}
use Rattle.circuit.specs.Accepted.{WellFormed, well-formed}
use Rattle.circuit.specs.Starts.{start_of, starts_of, few-records}
use Rattle.circuit.specs.Parts.{bad_of, input_of_circuit, InputStands, input-stands, starts-entry}
use Rattle.text.specs.Text.{lines, commas, comma, bad_text, bad_line, input_text, input_line, word, shown, shown_at}
use Rattle.text.specs.Left.{lines-next, lines-end}
use Rattle.text.specs.Ready.{Each, BadsNamed, Readable}

-- ---- of what is found at each

pub lines-map : {A B : Type 0} (f : B → List ℕ) (g : A → B) (xs : List A) → lines f (map g xs) ≡ lines (λ (x : A). f (g x)) xs
lines-map f g [] = refl
lines-map f g (x ∷ xs) = ap (λ (t : List ℕ). f (g x) ++ t) (lines-map f g xs)

pub commas-map : {A B : Type 0} (f : B → List ℕ) (g : A → B) (xs : List A) → commas f (map g xs) ≡ commas (λ (x : A). f (g x)) xs
commas-map f g [] = refl
commas-map f g (x ∷ []) = refl
commas-map f g (x ∷ y ∷ ys) = ap (λ (t : List ℕ). f (g x) ++ (comma ∷ t)) (commas-map f g (y ∷ ys))

-- ---- from the k-th on

module _ {A : Type 0} (xs : List A) (d : A) where
  rest_more : (k : ℕ) → k < length xs → drop k xs ≡ get_or xs k d ∷ drop (k + 1) xs
  rest_more k h = drop-cons xs k d h ∙ ap (λ (n : ℕ). get_or xs k d ∷ drop n xs) (sym (add-one k))

  rest-none : (k : ℕ) → length xs ≤ k → drop k xs ≡ []
  rest-none k h = drop_of_length-le xs {i = k} h

same_more : (k m : ℕ) → ltb 0 (m - k) ≡ ltb k m
same_more k m =
    same_test (ltb 0 (m - k)) (ltb k m) (λ t. lt→ltb k m (omega (arith, ltb→lt 0 (m - k) t))) (λ t. lt→ltb 0 (m - k) (omega (arith, ltb→lt k m t)))

cons-more : {A : Type 0} (f : A → List ℕ) (x : A) (xs : List A) (n : ℕ) → length xs ≡ n → commas f (x ∷ xs) ≡ f x ++ cond (ltb 0 n) (comma ∷ []) [] ++ commas f xs
cons-more f x [] zero e = sym (append-nil (f x ++ []) ∙ append-nil (f x))
cons-more f x [] (suc n) e = absurd (omega arith)
cons-more f x (y ∷ ys) zero e = absurd (omega arith)
cons-more f x (y ∷ ys) (suc n) e = sym (simp (lt-ltb 0 (suc n) (omega arith)) (append_assoc (f x) (comma ∷ []) (commas f (y ∷ ys))))

module _ {A : Type 0} (f : A → List ℕ) (xs : List A) (d : A) where
  words_more : (k m : ℕ) → k < length xs → m ≡ length xs → commas f (drop k xs) ≡ f (get_or xs k d) ++ cond (ltb (k + 1) m) (comma ∷ []) [] ++ commas f (drop (k + 1) xs)
  words_more k m h e =
      let size : length (drop (k + 1) xs) ≡ m - (k + 1) = length-drop (k + 1) xs ∙ ap (λ (n : ℕ). n - (k + 1)) (sym e) in
      ap (commas f) (rest_more xs d k h)
      ∙ cons-more f (get_or xs k d) (drop (k + 1) xs) (m - (k + 1)) size
      ∙ ap (λ (b : Bool). f (get_or xs k d) ++ cond b (comma ∷ []) [] ++ commas f (drop (k + 1) xs)) (same_more (k + 1) m)

pub below_at : (G : ℕ) (xs : List ℕ) → AllBelow G xs → (k : ℕ) → k < length xs → get_or xs k 0 < G
below_at G [] a k h = absurd (omega arith)
below_at G (x ∷ xs) a zero h = a.0
below_at G (x ∷ xs) a (suc k) h = below_at G xs a.1 k (omega arith)

pub each_at : {A : Type 0} (P : A → Type 0) (xs : List A) (d : A) → Each P xs → (k : ℕ) → k < length xs → P (get_or xs k d)
each_at P [] d e k h = absurd (omega arith)
each_at P (x ∷ xs) d e zero h = e.0
each_at P (x ∷ xs) d e (suc k) h = each_at P xs d e.1 k (omega arith)

pub each_of : {A : Type 0} (P : A → Type 0) (xs : List A) (d : A) → ((k : ℕ) → k < length xs → P (get_or xs k d)) → Each P xs
each_of P [] d f = tt
each_of P (x ∷ xs) d f = (f 0 (omega arith), each_of P xs d (λ k h. f (suc k) (omega arith)))

-- ---- bad states

pub bads-from : List ℕ → List ℕ → List Bad → ℕ → List ℕ
bads-from qs fs bads k = lines (λ (b : Bad). bad_text (bad_line qs fs b)) (drop k bads)

module _ (qs fs : List ℕ) (bads : List Bad) where
  pub bads-all : lines bad_text (map (bad_line qs fs) bads) ≡ bads-from qs fs bads 0
  unfolding bads-from
  bads-all = lines-map bad_text (bad_line qs fs) bads

  -- by what the code has read of it
  pub bads-next : (k g n : ℕ) → k < length bads → g ≡ (get_or bads k (record { gate = 0; nid = 0 })).gate → n ≡ (get_or bads k (record { gate = 0; nid = 0 })).nid
      → bads-from qs fs bads k ≡ bad_text (bad_line qs fs (record { gate = g; nid = n })) ++ bads-from qs fs bads (k + 1)
  unfolding bads-from
  bads-next k g n h e f =
      lines-next (λ (b : Bad). bad_text (bad_line qs fs b)) bads k (record { gate = 0; nid = 0 }) h
      ∙ sym (ap₂ (λ (g n : ℕ). bad_text (bad_line qs fs (record { gate = g; nid = n })) ++ bads-from qs fs bads (k + 1)) e f)

  pub bads-none : (k : ℕ) → length bads ≤ k → bads-from qs fs bads k ≡ []
  unfolding bads-from
  bads-none k h = lines-end (λ (b : Bad). bad_text (bad_line qs fs b)) bads k h

-- ---- the words of an input's bits

pub words-from : Bool → List ℕ → List ℕ → List ℕ → ℕ → List ℕ
words-from v qs fs gs j = commas (λ (g : ℕ). word v (shown_at qs fs g)) (drop j gs)

module _ (v : Bool) (qs fs gs : List ℕ) where
  pub words-all : commas (word v) (map (shown_at qs fs) gs) ≡ words-from v qs fs gs 0
  unfolding words-from
  words-all = commas-map (word v) (shown_at qs fs) gs

  pub words-next : (j m g : ℕ) → j < length gs → m ≡ length gs → g ≡ get_or gs j 0
      → words-from v qs fs gs j ≡ word v (shown fs (get_or qs g 0)) ++ cond (ltb (j + 1) m) (comma ∷ []) [] ++ words-from v qs fs gs (j + 1)
  unfolding words-from
  words-next j m g h e f =
      words_more (λ (g : ℕ). word v (shown_at qs fs g)) gs 0 j m h e
      ∙ sym (ap (λ (g : ℕ). word v (shown fs (get_or qs g 0)) ++ cond (ltb (j + 1) m) (comma ∷ []) [] ++ words-from v qs fs gs (j + 1)) f)

  pub words-none : (j : ℕ) → length gs ≤ j → words-from v qs fs gs j ≡ []
  unfolding words-from
  words-none j h = ap (commas (λ (g : ℕ). word v (shown_at qs fs g))) (rest-none gs 0 j h)

-- ---- inputs

pub inputs-from : List ℕ → List ℕ → List Input → ℕ → List ℕ
inputs-from qs fs is k = lines (λ (i : Input). input_text (input_line qs fs i)) (drop k is)

module _ (qs fs : List ℕ) (is : List Input) where
  pub inputs-all : lines input_text (map (input_line qs fs) is) ≡ inputs-from qs fs is 0
  unfolding inputs-from
  inputs-all = lines-map input_text (input_line qs fs) is

  pub inputs-next : (k : ℕ) → k < length is → inputs-from qs fs is k ≡ input_text (input_line qs fs (get_or is k (record { nid = 0; bits = [] }))) ++ inputs-from qs fs is (k + 1)
  unfolding inputs-from
  inputs-next k h = lines-next (λ (i : Input). input_text (input_line qs fs i)) is k (record { nid = 0; bits = [] }) h

  pub inputs-none : (k : ℕ) → length is ≤ k → inputs-from qs fs is k ≡ []
  unfolding inputs-from
  inputs-none k h = lines-end (λ (i : Input). input_text (input_line qs fs i)) is k h

-- ---- a gate that was read has its entry

module _ {c qs fs : List ℕ} (r : Readable c qs fs) where
  formed : WellFormed (circuit_of c)
  formed = well-formed c r.sound

  bad-below : (k g : ℕ) → k < length (circuit_of c).bads → g ≡ (bad_of (circuit_of c) k).gate → g < length (circuit_of c).gates
  bad-below k g h e =
      omega (arith, e, get_d_of (λ (b : Bad). b.gate) (circuit_of c).bads k (record { gate = 0; nid = 0 }) 0 h, below_at (length (circuit_of c).gates) (map (λ (b : Bad). b.gate) (circuit_of c).bads) formed.bad_gates k (omega (arith, length-map (circuit_of c).bads (λ (b : Bad). b.gate))))

  pub bad-entry : (k g : ℕ) → k < length (circuit_of c).bads → g ≡ (bad_of (circuit_of c) k).gate → g < length qs
  bad-entry k g h e = omega (arith, r.gates, bad-below k g h e)

  pub bad-name : BadsNamed qs (circuit_of c).bads → (k g : ℕ) → k < length (circuit_of c).bads → g ≡ (bad_of (circuit_of c) k).gate → (0 < get_or qs g 0) × (get_or qs g 0 ≤ length fs)
  bad-name b k g h e =
      (rw e (each_at (λ (b : Bad). 0 < get_or qs b.gate 0) (circuit_of c).bads (record { gate = 0; nid = 0 }) b k h), r.names g (bad-below k g h e))

  bit_below : (k j g : ℕ) → k < length (circuit_of c).inputs → j < length (input_of_circuit (circuit_of c) k).bits → g ≡ get_or (input_of_circuit (circuit_of c) k).bits j 0 → g < length (circuit_of c).gates
  bit_below k j g h l e =
      omega (arith, e, below_at (length (circuit_of c).gates) (input_of_circuit (circuit_of c) k).bits (formed.good_inputs k (record { nid = 0; bits = [] }) h).below j l)

  pub bit-entry : (k j g : ℕ) → k < length (circuit_of c).inputs → j < length (input_of_circuit (circuit_of c) k).bits → g ≡ get_or (input_of_circuit (circuit_of c) k).bits j 0 → g < length qs
  bit-entry k j g h l e = omega (arith, r.gates, bit_below k j g h l e)

  pub bit-name : (k j g : ℕ) → k < length (circuit_of c).inputs → j < length (input_of_circuit (circuit_of c) k).bits → g ≡ get_or (input_of_circuit (circuit_of c) k).bits j 0 → get_or qs g 0 ≤ length fs
  bit-name k j g h l e = r.names g (bit_below k j g h l e)

  -- the bits of input k stand from entry k to entry k + 1 of the table of starts
  pub record Place (st : List ℕ) (k : ℕ) : Type 0 where
    pub small : k < 64
    pub some : get_or st k 0 < get_or st (k + 1) 0
    pub within : get_or st (k + 1) 0 ≤ 6416
    pub size : get_or st (k + 1) 0 - get_or st k 0 ≡ length (input_of_circuit (circuit_of c) k).bits

  pub place : (st : List ℕ) → st ≡ starts_of c 23 → (k : ℕ) → k < length (circuit_of c).inputs → Place st k
  place st e k h =
      let at : InputStands c r.sound.timely.regular k = input-stands c r.sound.timely.regular k h in
      let from : get_or st k 0 ≡ start_of c 23 k = ap (λ (s : List ℕ). get_or s k 0) e ∙ starts-entry c r.sound.timely.regular 23 k (omega (arith, at.small)) in
      let to : get_or st (k + 1) 0 ≡ start_of c 23 (suc k) =
      ap (λ (s : List ℕ). get_or s (k + 1) 0) e ∙ starts-entry c r.sound.timely.regular 23 (k + 1) (omega (arith, at.small)) ∙ ap (start_of c 23) (add-one k) in
      record { small = at.small; some = omega (arith, from, to, at.some); within = omega (arith, to, at.within, few-records c r.sound.timely.regular); size = ap₂ ◌-◌ to from ∙ sym at.len }
