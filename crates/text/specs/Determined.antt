-- The text determines what it says: two sheets with one text are equal, so the count, the offset, each input's and each bad state's line, the linear entries and the
-- pairs can be read off it.
-- Assumes nothing.
use Rattle.std.specs.Prelude.{◌≡◌, refl, Bool, true, false, ◌&&◌, List, [], ◌∷◌, ◌++◌, map, ℕ, suc, ◌+◌, ◌/◌, ◌%◌, ltb, leb, eqb, ℤ, pos, negsuc}
use Rattle.std.proofs.Common.{sym, ap, ap₂, ◌∙◌, subst, true≢false, append_assoc, arith, lt-ltb, leb-true}
use Rattle.std.proofs.lemmas.Bool.{false≢true}
use Rattle.std.proofs.Math.Option.{Option, none, some}
use Rattle.energy.specs.Circuit.{Circuit}
use Rattle.energy.specs.Model.{Entry, Model, low, high}
use Rattle.text.specs.Bytes.{All, Stops, all_append, split}
use Rattle.text.specs.Decimal.{digit, decimal, is_digit, by-tens, decimal-small, decimal-large, decimal-digits, decimal_injective}
use Rattle.text.specs.Halves.{point, half_text, halves_text, halves-injective}
use Rattle.text.specs.Text.{newline, space, comma, lines, commas, word, fixed_byte, end_text, lead_text, entry_text, input_text, bad_text, linear_text, pair_text, Shown, absent, qubit, InputLine, BadLine, Sheet, circuit_text, entries_text, layout, sheet_of, model_text}

-- ---- words and what ends them

-- The bytes of words are above 44: `-`, `.`, digits and `?`. Newline, space and comma are not.
abbrev pub in_word : ℕ → Bool
in_word b = ltb 44 b

digit-in-word : (b : ℕ) → is_digit b ≡ true → in_word b ≡ true
digit-in-word b h = lt-ltb 44 b (omega (arith, leb-true 48 b (first (leb 48 b) (leb b 57) h)))
  where
    first : (x y : Bool) → (x && y) ≡ true → x ≡ true
    first true y h = refl
    first false y h = h

all-in-word : (s : List ℕ) → All is_digit s → All in_word s
all-in-word [] a = tt
all-in-word (b ∷ s) a = (digit-in-word b a.0, all-in-word s a.1)

decimal-in-word : (n : ℕ) → All in_word (decimal n)
decimal-in-word n = all-in-word (decimal n) (decimal-digits n)

point-in-word : (b : Bool) → All in_word (point b)
point-in-word true = (refl, (refl, tt))
point-in-word false = tt

half-in-word : (n : ℕ) → All in_word (half_text n)
unfolding half_text
half-in-word n = all_append in_word (decimal (n / 2)) (point (eqb (n % 2) 1)) (decimal-in-word (n / 2)) (point-in-word (eqb (n % 2) 1))

halves-in-word : (h : ℤ) → All in_word (halves_text h)
unfolding halves_text
halves-in-word (pos n) = half-in-word n
halves-in-word (negsuc n) = (refl, half-in-word (suc n))

-- a text that begins with a word's byte
abbrev Begins : List ℕ → Type 0
Begins [] = ⊥
Begins (b ∷ s) = in_word b ≡ true

begins-append : (s t : List ℕ) → Begins s → Begins (s ++ t)
begins-append [] t h = absurd h
begins-append (b ∷ s) t h = h

decimal-begins : (n : ℕ) → Begins (decimal n)
decimal-begins =
    by-tens (λ (n : ℕ). Begins (decimal n)) (λ n h. subst Begins (sym (decimal-small n h)) (lt-ltb 44 (48 + n) (omega arith)))
    (λ n h r. subst Begins (sym (decimal-large n h)) (begins-append (decimal (n / 10)) (digit (n % 10) ∷ []) r))

-- ---- a part of a text that tells what it spells, whatever follows

abbrev Tells : {A : Type 0} → (A → List ℕ) → Type 0
Tells {A} f = (a b : A) (s t : List ℕ) → f a ++ s ≡ f b ++ t → (a ≡ b) × (s ≡ t)

-- a word, and a byte that is in none
ended : {A : Type 0} (w : A → List ℕ) (c : ℕ) → ((a : A) → All in_word (w a)) → ((a b : A) → w a ≡ w b → a ≡ b) → in_word c ≡ false → Tells (λ (a : A). w a ++ (c ∷ []))
ended w c all inj h a b s t e =
    let cut = split in_word (w a) (w b) (c ∷ s) (c ∷ t) (all a) (all b) h h (sym (append_assoc (w a) (c ∷ []) s) ∙ e ∙ append_assoc (w b) (c ∷ []) t) in
    let rest : c ∷ s ≡ c ∷ t = cut.1 in
    (inj a b cut.0, cc)

lead-tells : Tells lead_text
unfolding lead_text
lead-tells = ended decimal space decimal-in-word decimal_injective refl

halves-end : Tells (λ (h : ℤ). halves_text h ++ (newline ∷ []))
halves-end = ended halves_text newline halves-in-word halves-injective refl

-- an entry's line tells its number and its count of halves
pub entry-tells : (m n : ℕ) (h k : ℤ) (s t : List ℕ) → entry_text m h ++ s ≡ entry_text n k ++ t → (m ≡ n) × (h ≡ k) × (s ≡ t)
unfolding entry_text
entry-tells m n h k s t e =
    let one = lead-tells m n (halves_text h ++ (newline ∷ []) ++ s) (halves_text k ++ (newline ∷ []) ++ t) (sym (append_assoc (lead_text m) (halves_text h ++ (newline ∷ [])) s) ∙ e ∙ append_assoc (lead_text n) (halves_text k ++ (newline ∷ [])) t) in
    let two = halves-end h k s t one.1 in
    (one.0, two.0, two.1)

linear-tells : Tells linear_text
linear-tells a b s t e = let three = entry-tells a.0 b.0 a.1 b.1 s t e in (ap₂ (λ (q : ℕ) (h : ℤ). (q, h)) three.0 three.1, three.2)

same_key : (j k : ℕ) → low j ≡ low k → high j ≡ high k → j ≡ k
same_key j k l h = omega arith

pair-tells : Tells pair_text
unfolding pair_text
pair-tells a b s t e =
    let one =
    lead-tells (low a.0) (low b.0) (entry_text (high a.0) a.1 ++ s) (entry_text (high b.0) b.1 ++ t)
    (sym (append_assoc (lead_text (low a.0)) (entry_text (high a.0) a.1) s) ∙ e ∙ append_assoc (lead_text (low b.0)) (entry_text (high b.0) b.1) t) in
    let two = entry-tells (high a.0) (high b.0) a.1 b.1 s t one.1 in
    (ap₂ (λ (k : ℕ) (w : ℤ). (k, w)) (same_key a.0 b.0 one.0 two.0) two.1, two.2)

-- ---- a bad state's line

end-stops : (v : Option Bool) (s : List ℕ) → Stops in_word (end_text v ++ s)
end-stops none s = refl
end-stops (some b) s = refl

end-tells : Tells end_text
end-tells none none s t e = (refl, cc)
end-tells none (some b) s t e = let z : ◌≡◌ {A = ℕ} 10 32 = cc in absurd (omega arith)
end-tells (some a) none s t e = let z : ◌≡◌ {A = ℕ} 32 10 = cc in absurd (omega arith)
end-tells (some false) (some false) s t e = (refl, cc)
end-tells (some false) (some true) s t e = let z : ◌≡◌ {A = ℕ} 48 49 = cc in absurd (omega arith)
end-tells (some true) (some false) s t e = let z : ◌≡◌ {A = ℕ} 49 48 = cc in absurd (omega arith)
end-tells (some true) (some true) s t e = (refl, cc)

same-bad : {a b : BadLine} → a.nid ≡ b.nid → a.name ≡ b.name → a.value ≡ b.value → a ≡ b
same-bad {a} {b} p q r =
    ap (λ (x : ℕ). record { nid = x; name = a.name; value = a.value }) p
    ∙ ap₂ (λ (y : ℕ) (z : Option Bool). record { nid = b.nid; name = y; value = z }) q r

bad-tells : Tells bad_text
unfolding bad_text
bad-tells a b s t e =
    let one =
    lead-tells a.nid b.nid (decimal a.name ++ end_text a.value ++ s) (decimal b.name ++ end_text b.value ++ t)
    (sym (append_assoc (lead_text a.nid) (decimal a.name ++ end_text a.value) s) ∙ e ∙ append_assoc (lead_text b.nid) (decimal b.name ++ end_text b.value) t) in
    let two =
    split in_word (decimal a.name) (decimal b.name) (end_text a.value ++ s) (end_text b.value ++ t) (decimal-in-word a.name) (decimal-in-word b.name) (end-stops a.value s) (end-stops b.value t)
    (sym (append_assoc (decimal a.name) (end_text a.value) s) ∙ one.1 ∙ append_assoc (decimal b.name) (end_text b.value) t) in
    let three = end-tells a.value b.value s t two.1 in
    (same-bad one.0 (decimal_injective a.name b.name two.0) three.0, three.1)

-- ---- an input's line

word-in-word : (v : Bool) (s : Shown) → All in_word (word v s)
word-in-word false absent = (refl, tt)
word-in-word false (qubit q v) = decimal-in-word q
word-in-word true absent = (refl, tt)
word-in-word true (qubit q none) = (refl, tt)
word-in-word true (qubit q (some false)) = (refl, tt)
word-in-word true (qubit q (some true)) = (refl, tt)

word-begins : (v : Bool) (s : Shown) → Begins (word v s)
word-begins false absent = refl
word-begins false (qubit q v) = decimal-begins q
word-begins true absent = refl
word-begins true (qubit q none) = refl
word-begins true (qubit q (some false)) = refl
word-begins true (qubit q (some true)) = refl

-- a text that begins with a word's byte begins with no other
not-begun : (c : ℕ) (s t : List ℕ) → in_word c ≡ false → Begins t → c ∷ s ≡ t → ⊥
not-begun c s [] h b e = b
not-begun c s (x ∷ t) h b e = let z : c ≡ x = cc in true≢false (sym b ∙ sym (ap in_word z) ∙ h)

-- words with commas between them, and then a byte that is neither a word's nor a comma
commas-tell : (v : Bool) (c : ℕ) → in_word c ≡ false → (c ≡ comma → ⊥) → (xs ys : List Shown) (s t : List ℕ) → commas (word v) xs ++ (c ∷ s) ≡ commas (word v) ys ++ (c ∷ t)
    → (map (word v) xs ≡ map (word v) ys) × (s ≡ t)
commas-tell v c h n [] [] s t e = (refl, cc)
commas-tell v c h n [] (y ∷ []) s t e = absurd (not-begun c s (word v y ++ (c ∷ t)) h (begins-append (word v y) (c ∷ t) (word-begins v y)) e)
commas-tell v c h n [] (y ∷ z ∷ zs) s t e =
    absurd (not-begun c s (word v y ++ (comma ∷ commas (word v) (z ∷ zs)) ++ (c ∷ t)) h (begins-append (word v y ++ (comma ∷ commas (word v) (z ∷ zs))) (c ∷ t) (begins-append (word v y) (comma ∷ commas (word v) (z ∷ zs)) (word-begins v y))) e)
commas-tell v c h n (x ∷ []) [] s t e = absurd (not-begun c t (word v x ++ (c ∷ s)) h (begins-append (word v x) (c ∷ s) (word-begins v x)) (sym e))
commas-tell v c h n (x ∷ w ∷ ws) [] s t e =
    absurd (not-begun c t (word v x ++ (comma ∷ commas (word v) (w ∷ ws)) ++ (c ∷ s)) h (begins-append (word v x ++ (comma ∷ commas (word v) (w ∷ ws))) (c ∷ s) (begins-append (word v x) (comma ∷ commas (word v) (w ∷ ws)) (word-begins v x))) (sym e))
commas-tell v c h n (x ∷ []) (y ∷ []) s t e =
    let cut = split in_word (word v x) (word v y) (c ∷ s) (c ∷ t) (word-in-word v x) (word-in-word v y) h h e in
    let rest : c ∷ s ≡ c ∷ t = cut.1 in
    (ap (λ (w : List ℕ). w ∷ []) cut.0, cc)
commas-tell v c h n (x ∷ []) (y ∷ z ∷ zs) s t e =
    let cut = split in_word (word v x) (word v y) (c ∷ s) (comma ∷ commas (word v) (z ∷ zs) ++ (c ∷ t)) (word-in-word v x) (word-in-word v y) h refl (e ∙ append_assoc (word v y) (comma ∷ commas (word v) (z ∷ zs)) (c ∷ t)) in
    let rest : c ∷ s ≡ comma ∷ commas (word v) (z ∷ zs) ++ (c ∷ t) = cut.1 in
    let q : c ≡ comma = cc in
    absurd (n q)
commas-tell v c h n (x ∷ w ∷ ws) (y ∷ []) s t e =
    let cut = split in_word (word v x) (word v y) (comma ∷ commas (word v) (w ∷ ws) ++ (c ∷ s)) (c ∷ t) (word-in-word v x) (word-in-word v y) refl h (sym (append_assoc (word v x) (comma ∷ commas (word v) (w ∷ ws)) (c ∷ s)) ∙ e) in
    let rest : comma ∷ commas (word v) (w ∷ ws) ++ (c ∷ s) ≡ c ∷ t = cut.1 in
    let q : c ≡ comma = cc in
    absurd (n q)
commas-tell v c h n (x ∷ w ∷ ws) (y ∷ z ∷ zs) s t e =
    let cut =
    split in_word (word v x) (word v y) (comma ∷ commas (word v) (w ∷ ws) ++ (c ∷ s)) (comma ∷ commas (word v) (z ∷ zs) ++ (c ∷ t)) (word-in-word v x) (word-in-word v y) refl refl
    (sym (append_assoc (word v x) (comma ∷ commas (word v) (w ∷ ws)) (c ∷ s)) ∙ e ∙ append_assoc (word v y) (comma ∷ commas (word v) (z ∷ zs)) (c ∷ t)) in
    let rest : comma ∷ commas (word v) (w ∷ ws) ++ (c ∷ s) ≡ comma ∷ commas (word v) (z ∷ zs) ++ (c ∷ t) = cut.1 in
    let next : commas (word v) (w ∷ ws) ++ (c ∷ s) ≡ commas (word v) (z ∷ zs) ++ (c ∷ t) = cc in
    let more = commas-tell v c h n (w ∷ ws) (z ∷ zs) s t next in
    (ap₂ ◌∷◌ cut.0 more.0, more.1)

-- the two words of an input bit tell it
no-question : (q : ℕ) → decimal q ≡ 63 ∷ [] → ⊥
no-question q e = let a : All is_digit (63 ∷ []) = subst (All is_digit) e (decimal-digits q) in false≢true a.0

same-fixed : (v w : Option Bool) → fixed_byte v ∷ [] ≡ fixed_byte w ∷ [] → v ≡ w
same-fixed none none e = refl
same-fixed none (some false) e = let z : ◌≡◌ {A = ℕ} 45 48 = cc in absurd (omega arith)
same-fixed none (some true) e = let z : ◌≡◌ {A = ℕ} 45 49 = cc in absurd (omega arith)
same-fixed (some false) none e = let z : ◌≡◌ {A = ℕ} 48 45 = cc in absurd (omega arith)
same-fixed (some false) (some false) e = refl
same-fixed (some false) (some true) e = let z : ◌≡◌ {A = ℕ} 48 49 = cc in absurd (omega arith)
same-fixed (some true) none e = let z : ◌≡◌ {A = ℕ} 49 45 = cc in absurd (omega arith)
same-fixed (some true) (some false) e = let z : ◌≡◌ {A = ℕ} 49 48 = cc in absurd (omega arith)
same-fixed (some true) (some true) e = refl

same-shown : (a b : Shown) → word false a ≡ word false b → word true a ≡ word true b → a ≡ b
same-shown absent absent e f = refl
same-shown absent (qubit q v) e f = absurd (no-question q (sym e))
same-shown (qubit q v) absent e f = absurd (no-question q e)
same-shown (qubit q v) (qubit r w) e f = ap₂ qubit (decimal_injective q r e) (same-fixed v w f)

same_bits : (xs ys : List Shown) → map (word false) xs ≡ map (word false) ys → map (word true) xs ≡ map (word true) ys → xs ≡ ys
same_bits [] [] e f = refl
same_bits [] (y ∷ ys) e f = let z : true ≡ false = cc in absurd (true≢false z)
same_bits (x ∷ xs) [] e f = let z : true ≡ false = cc in absurd (true≢false z)
same_bits (x ∷ xs) (y ∷ ys) e f =
    let e₀ : word false x ≡ word false y = cc in
    let f₀ : word true x ≡ word true y = cc in
    let e₁ : map (word false) xs ≡ map (word false) ys = cc in
    let f₁ : map (word true) xs ≡ map (word true) ys = cc in
    ap₂ ◌∷◌ (same-shown x y e₀ f₀) (same_bits xs ys e₁ f₁)

input-tells : Tells input_text
unfolding input_text
input-tells a b s t e =
    let N : InputLine → List ℕ = λ l. commas (word false) l.bits in
    let W : InputLine → List ℕ = λ l. commas (word true) l.bits in
    let T : InputLine → List ℕ = λ l. N l ++ (space ∷ (W l ++ (newline ∷ []))) in
    let one = lead-tells a.nid b.nid (T a ++ s) (T b ++ t) (sym (append_assoc (lead_text a.nid) (T a) s) ∙ e ∙ append_assoc (lead_text b.nid) (T b) t) in
    let two =
    commas-tell false space refl (λ z. omega arith) a.bits b.bits (W a ++ (newline ∷ []) ++ s) (W b ++ (newline ∷ []) ++ t)
    (sym (append_assoc (N a) (space ∷ (W a ++ (newline ∷ []))) s) ∙ one.1 ∙ append_assoc (N b) (space ∷ (W b ++ (newline ∷ []))) t) in
    let three = commas-tell true newline refl (λ z. omega arith) a.bits b.bits s t (sym (append_assoc (W a) (newline ∷ []) s) ∙ two.1 ∙ append_assoc (W b) (newline ∷ []) t) in
    (ap₂ (λ (d : ℕ) (l : List Shown). record { nid = d; bits = l }) one.0 (same_bits a.bits b.bits two.0 three.0), three.1)

-- ---- lines

lead-begins : (n : ℕ) (s : List ℕ) → Begins (lead_text n ++ s)
unfolding lead_text
lead-begins n s = begins-append (decimal n ++ (space ∷ [])) s (begins-append (decimal n) (space ∷ []) (decimal-begins n))

entry-begins : (n : ℕ) (h : ℤ) → Begins (entry_text n h)
unfolding entry_text
entry-begins n h = lead-begins n (halves_text h ++ (newline ∷ []))

input-begins : (l : InputLine) → Begins (input_text l)
unfolding input_text
input-begins l = lead-begins l.nid (commas (word false) l.bits ++ (space ∷ (commas (word true) l.bits ++ (newline ∷ []))))

bad-begins : (l : BadLine) → Begins (bad_text l)
unfolding bad_text
bad-begins l = lead-begins l.nid (decimal l.name ++ end_text l.value)

pair-begins : (e : Entry) → Begins (pair_text e)
unfolding pair_text
pair-begins e = lead-begins (low e.0) (entry_text (high e.0) e.1)

module _ {A : Type 0} (f : A → List ℕ) (tells : Tells f) (begins : (a : A) → Begins (f a)) where
  -- lines up to a blank one
  lines-tell : (xs ys : List A) (s t : List ℕ) → lines f xs ++ (newline ∷ s) ≡ lines f ys ++ (newline ∷ t) → (xs ≡ ys) × (s ≡ t)
  lines-tell [] [] s t e = (refl, cc)
  lines-tell [] (y ∷ ys) s t e =
      absurd (not-begun newline s (f y ++ lines f ys ++ (newline ∷ t)) refl (begins-append (f y ++ lines f ys) (newline ∷ t) (begins-append (f y) (lines f ys) (begins y))) e)
  lines-tell (x ∷ xs) [] s t e =
      absurd (not-begun newline t (f x ++ lines f xs ++ (newline ∷ s)) refl (begins-append (f x ++ lines f xs) (newline ∷ s) (begins-append (f x) (lines f xs) (begins x))) (sym e))
  lines-tell (x ∷ xs) (y ∷ ys) s t e =
      let one = tells x y (lines f xs ++ (newline ∷ s)) (lines f ys ++ (newline ∷ t)) (sym (append_assoc (f x) (lines f xs) (newline ∷ s)) ∙ e ∙ append_assoc (f y) (lines f ys) (newline ∷ t)) in
      let more = lines-tell xs ys s t one.1 in
      (ap₂ ◌∷◌ one.0 more.0, more.1)

  -- lines up to the text's end
  last-lines : (xs ys : List A) → lines f xs ≡ lines f ys → xs ≡ ys
  last-lines [] [] e = refl
  last-lines [] (y ∷ ys) e = absurd (subst Begins (sym e) (begins-append (f y) (lines f ys) (begins y)))
  last-lines (x ∷ xs) [] e = absurd (subst Begins e (begins-append (f x) (lines f xs) (begins x)))
  last-lines (x ∷ xs) (y ∷ ys) e = let one = tells x y (lines f xs) (lines f ys) e in ap₂ ◌∷◌ one.0 (last-lines xs ys one.1)

-- ---- the whole text

pub record Same (s t : Sheet) : Type 0 where
  pub count : s.count ≡ t.count
  pub offset : s.offset ≡ t.offset
  pub inputs : s.inputs ≡ t.inputs
  pub bads : s.bads ≡ t.bads
  pub linear : s.linear ≡ t.linear
  pub pairs : s.pairs ≡ t.pairs

-- the text after its first two lines
after-head : Sheet → List ℕ
after-head s = lines input_text s.inputs ++ (newline ∷ (lines bad_text s.bads ++ (newline ∷ (lines linear_text s.linear ++ (newline ∷ lines pair_text s.pairs)))))

regroup : (s : Sheet) → circuit_text s.inputs s.bads ++ entries_text s.linear s.pairs ≡ after-head s
unfolding after-head
regroup s =
    append_assoc (lines input_text s.inputs) (newline ∷ (lines bad_text s.bads ++ (newline ∷ []))) (entries_text s.linear s.pairs)
    ∙ ap (λ (t : List ℕ). lines input_text s.inputs ++ (newline ∷ t)) (append_assoc (lines bad_text s.bads) (newline ∷ []) (entries_text s.linear s.pairs))

-- Theorem: one text, one sheet.
pub determined : (s t : Sheet) → layout s ≡ layout t → Same s t
unfolding layout after-head
determined s t e =
    let P : Sheet → List ℕ = λ s. lines pair_text s.pairs in
    let L : Sheet → List ℕ = λ s. lines linear_text s.linear ++ (newline ∷ P s) in
    let B : Sheet → List ℕ = λ s. lines bad_text s.bads ++ (newline ∷ L s) in
    let T : Sheet → List ℕ = λ s. circuit_text s.inputs s.bads ++ entries_text s.linear s.pairs in
    let head = entry-tells s.count t.count s.offset t.offset (newline ∷ T s) (newline ∷ T t) e in
    let rest : newline ∷ T s ≡ newline ∷ T t = head.2 in
    let same : T s ≡ T t = cc in
    let inputs = lines-tell input_text input-tells input-begins s.inputs t.inputs (B s) (B t) (sym (regroup s) ∙ same ∙ regroup t) in
    let bads = lines-tell bad_text bad-tells bad-begins s.bads t.bads (L s) (L t) inputs.1 in
    let linear = lines-tell linear_text linear-tells (λ e. entry-begins e.0 e.1) s.linear t.linear (P s) (P t) bads.1 in
    record {
      count = head.0;
      offset = head.1;
      inputs = inputs.0;
      bads = bads.0;
      linear = linear.0;
      pairs = last-lines pair_text pair-tells pair-begins s.pairs t.pairs linear.1;
    }

-- Theorem: two finished models with one text have the same variable count, offset, linear entries and pairs, and their inputs and bad states the same nids, qubits and
-- fixed values.
pub model-determined : (c d : Circuit) (qs rs : List ℕ) (m n : Model) → model_text c qs m ≡ model_text d rs n → Same (sheet_of c qs m) (sheet_of d rs n)
model-determined c d qs rs m n e = determined (sheet_of c qs m) (sheet_of d rs n) e
