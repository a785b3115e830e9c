-- The whole text, as the code puts it together. Of the table of fixed values only the entries of the n qubits are read.
-- Assumes nothing.
use mathlib.Core.Path.{◌≡◌, refl, ap, ap₂}
use mathlib.Core.List.{List, [], ◌∷◌, ◌++◌, map}
use Prim.Native.Nat.{ℕ, zero, suc, ◌-◌, ◌≤◌, ◌<◌}
use native.Mathlib.Omega.{arith}
use lib.IntN.{ℤ}
use lib.ListN.{length, get_or, take}
use lib.Seq.{get_or-take}
use Rattle.energy.specs.Circuit.{Bad, Input, Circuit, AllBelow}
use Rattle.energy.specs.Model.{Entry}
use Rattle.circuit.specs.declared.Counts.{Counts}
use Rattle.circuit.specs.Meaning.{circuit_of}
use Rattle.circuit.specs.Accepted.{WellFormed, well-formed}
use Rattle.text.specs.Text.{newline, input_line, bad_line, entry_text, layout, sheet_by, Shown, qubit, shown, shown_at, InputLine, BadLine, fixed_by, entries, circuit_text, entries_text}
use Rattle.text.specs.Ready.{Each, BadsNamed, Readable, Printable}
use Rattle.text_print.proofs.Parts.{each_of}

map_each : {A B : Type 0} (P : A → Type 0) (f g : A → B) → ((x : A) → P x → f x ≡ g x) → (xs : List A) → Each P xs → map f xs ≡ map g xs
map_each P f g h [] e = refl
map_each P f g h (x ∷ xs) e = ap₂ ◌∷◌ (h x e.0) (map_each P f g h xs e.1)

map_below : {A : Type 0} (G : ℕ) (f g : ℕ → A) → ((i : ℕ) → i < G → f i ≡ g i) → (xs : List ℕ) → AllBelow G xs → map f xs ≡ map g xs
map_below G f g h [] a = refl
map_below G f g h (x ∷ xs) a = ap₂ ◌∷◌ (h x a.0) (map_below G f g h xs a.1)

module _ (x : Circuit) (formed : WellFormed x) (qs fs : List ℕ) (n : ℕ) (names : (g : ℕ) → g < length x.gates → get_or qs g 0 ≤ n) where
  shown-take : (q : ℕ) → q ≤ n → shown (take n fs) q ≡ shown fs q
  shown-take zero h = refl
  shown-take (suc q) h = ap (λ (f : ℕ). qubit q (fixed_by f)) (get_or-take n fs q 0 h)

  input-take : (i : Input) → AllBelow (length x.gates) i.bits → input_line qs (take n fs) i ≡ input_line qs fs i
  input-take i a =
      ap (λ (l : List Shown). record { nid = i.nid; bits = l })
      (map_below (length x.gates) (shown_at qs (take n fs)) (shown_at qs fs) (λ g h. shown-take (get_or qs g 0) (names g h)) i.bits a)

  inputs-take : map (input_line qs (take n fs)) x.inputs ≡ map (input_line qs fs) x.inputs
  inputs-take =
      map_each (λ (i : Input). AllBelow (length x.gates) i.bits) (input_line qs (take n fs)) (input_line qs fs) input-take x.inputs
      (each_of (λ (i : Input). AllBelow (length x.gates) i.bits) x.inputs (record { nid = 0; bits = [] }) (λ k h. (formed.good_inputs k (record { nid = 0; bits = [] }) h).below))

  abbrev Named : Bad → Type 0
  Named b = (0 < get_or qs b.gate 0) × (b.gate < length x.gates)

  bad-take : (b : Bad) → Named b → bad_line qs (take n fs) b ≡ bad_line qs fs b
  bad-take b h =
      ap (λ (f : ℕ). record { nid = b.nid; name = get_or qs b.gate 0 - 1; value = fixed_by f })
      (get_or-take n fs (get_or qs b.gate 0 - 1) 0 (omega (arith, h.0, names b.gate h.1)))

  both : (bs : List Bad) → BadsNamed qs bs → AllBelow (length x.gates) (map (λ (b : Bad). b.gate) bs) → Each Named bs
  both [] e a = tt
  both (b ∷ bs) e a = ((e.0, a.0), both bs e.1 a.1)

  bads-take : BadsNamed qs x.bads → map (bad_line qs (take n fs)) x.bads ≡ map (bad_line qs fs) x.bads
  bads-take b = map_each Named (bad_line qs (take n fs)) (bad_line qs fs) bad-take x.bads (both x.bads b formed.bad_gates)

module _ {c st qs fs hs : List ℕ} {cs : List ℤ} {ks : List ℕ} {ws : List ℤ} {k : Counts} {n m : ℕ} (p : Printable c st qs fs hs cs ks ws k n m) where
  pub readable : Readable c qs fs
  readable = record { sound = p.sound; gates = p.gates; names = λ g h. omega (arith, p.names g h, p.fixed) }

  pub whole-text : (v : ℕ) (o : ℤ) (hs' : List ℕ) (cs' : List ℤ) (ps : List Entry)
      → layout (sheet_by (circuit_of c) qs v o (take n fs) hs' cs' ps)
      ≡ entry_text v o ++ (newline ∷ (circuit_text (map (input_line qs fs) (circuit_of c).inputs) (map (bad_line qs fs) (circuit_of c).bads) ++ entries_text (entries 0 hs' cs') ps))
  unfolding layout
  whole-text v o hs' cs' ps =
      ap₂ (λ (I : List InputLine) (B : List BadLine). entry_text v o ++ (newline ∷ (circuit_text I B ++ entries_text (entries 0 hs' cs') ps)))
      (inputs-take (circuit_of c) (well-formed c p.sound) qs fs n p.names)
      (bads-take (circuit_of c) (well-formed c p.sound) qs fs n p.names p.bads)
