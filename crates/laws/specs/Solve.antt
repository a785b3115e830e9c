-- A solver for equations of sums, differences, negations and numeral multiples over ℤ: each side is written once more as an `Exp`, and `solve` proves
-- the equation where the two have one normal form, which antt computes: the numeral, and the multiple of each atom.
--     a + (b - c) + c ≡ b + a      is     solve (a ∷ b ∷ c ∷ []) (v 0 ⊕ (v 1 ⊖ v 2) ⊕ v 2) (v 1 ⊕ v 0) refl
-- An atom is any term of type ℤ, such as `get_or xs i (pos 0)` or a product. Assumes nothing.
use Rattle.std.specs.Prelude.{◌≡◌, refl, List, [], ◌∷◌, ℕ, zero, suc, length, get_or, ℤ, pos, negsuc, neg_ℤ, ◌+ℤ◌, ◌-ℤ◌, ◌*ℤ◌}
use Rattle.std.proofs.Common.{sym, ap, ap₂, ◌∙◌}
use Rattle.std.proofs.Math.IntN.{+ℤ_idl, +ℤ_idr, zero-*ℤ, *ℤ-zero, neg_ℤ-+ℤ}
use Rattle.laws.specs.Ring.{+ℤ-swap, *ℤ-add, *ℤ-add-right, *ℤ-assoc, *ℤ-neg, one-*ℤ}

infixl 6 ◌⊕◌ ◌⊖◌
infixr 7 ◌⊙◌
pub data Exp : Type 0 where
  v : ℕ → Exp
  con : ℤ → Exp
  ◌⊕◌ : Exp → Exp → Exp
  ◌⊖◌ : Exp → Exp → Exp
  neg : Exp → Exp
  ◌⊙◌ : ℤ → Exp → Exp

-- the value, with the atoms' values in ρ
abbrev pub eval : List ℤ → Exp → ℤ
eval ρ (v i) = get_or ρ i (pos 0)
eval ρ (con z) = z
eval ρ (e ⊕ f) = eval ρ e +ℤ eval ρ f
eval ρ (e ⊖ f) = eval ρ e -ℤ eval ρ f
eval ρ (neg e) = neg_ℤ (eval ρ e)
eval ρ (k ⊙ e) = k *ℤ eval ρ e

-- ---- the normal form: a numeral, and a multiple for each atom
abbrev zeros : ℕ → List ℤ
zeros zero = []
zeros (suc n) = pos 0 ∷ zeros n

-- 1 at place i of n
abbrev unit : ℕ → ℕ → List ℤ
unit zero i = []
unit (suc n) zero = pos 1 ∷ zeros n
unit (suc n) (suc i) = pos 0 ∷ unit n i

abbrev plus : List ℤ → List ℤ → List ℤ
plus [] ys = ys
plus (x ∷ xs) [] = x ∷ xs
plus (x ∷ xs) (y ∷ ys) = (x +ℤ y) ∷ plus xs ys

abbrev minus : List ℤ → List ℤ
minus [] = []
minus (x ∷ xs) = neg_ℤ x ∷ minus xs

abbrev times : ℤ → List ℤ → List ℤ
times k [] = []
times k (x ∷ xs) = (k *ℤ x) ∷ times k xs

abbrev pub numeral : Exp → ℤ
numeral (v i) = pos 0
numeral (con z) = z
numeral (e ⊕ f) = numeral e +ℤ numeral f
numeral (e ⊖ f) = numeral e -ℤ numeral f
numeral (neg e) = neg_ℤ (numeral e)
numeral (k ⊙ e) = k *ℤ numeral e

abbrev pub multiples : ℕ → Exp → List ℤ
multiples n (v i) = unit n i
multiples n (con z) = zeros n
multiples n (e ⊕ f) = plus (multiples n e) (multiples n f)
multiples n (e ⊖ f) = plus (multiples n e) (minus (multiples n f))
multiples n (neg e) = minus (multiples n e)
multiples n (k ⊙ e) = times k (multiples n e)

abbrev pub normal : ℕ → Exp → List ℤ
normal n e = numeral e ∷ multiples n e

-- ---- what a normal form stands for
dot : List ℤ → List ℤ → ℤ
dot [] ρ = pos 0
dot (c ∷ cs) [] = pos 0
dot (c ∷ cs) (x ∷ ρ) = c *ℤ x +ℤ dot cs ρ

value : List ℤ → List ℤ → ℤ
unfolding dot
value [] ρ = pos 0
value (c ∷ cs) ρ = c +ℤ dot cs ρ

dot-zeros : (ρ : List ℤ) (n : ℕ) → dot (zeros n) ρ ≡ pos 0
unfolding dot
dot-zeros ρ zero = refl
dot-zeros [] (suc n) = refl
dot-zeros (x ∷ ρ) (suc n) = ap₂ ◌+ℤ◌ (zero-*ℤ x) (dot-zeros ρ n)

dot-unit : (ρ : List ℤ) (i : ℕ) → dot (unit (length ρ) i) ρ ≡ get_or ρ i (pos 0)
unfolding dot
dot-unit [] zero = refl
dot-unit [] (suc i) = refl
dot-unit (x ∷ ρ) zero = ap₂ ◌+ℤ◌ (one-*ℤ x) (dot-zeros ρ (length ρ)) ∙ +ℤ_idr x
dot-unit (x ∷ ρ) (suc i) = ap₂ ◌+ℤ◌ (zero-*ℤ x) (dot-unit ρ i) ∙ +ℤ_idl (get_or ρ i (pos 0))

dot-plus : (ρ xs ys : List ℤ) → dot (plus xs ys) ρ ≡ dot xs ρ +ℤ dot ys ρ
unfolding dot
dot-plus ρ [] ys = sym (+ℤ_idl (dot ys ρ))
dot-plus ρ (x ∷ xs) [] = sym (+ℤ_idr (dot (x ∷ xs) ρ))
dot-plus [] (x ∷ xs) (y ∷ ys) = refl
dot-plus (r ∷ ρ) (x ∷ xs) (y ∷ ys) = ap₂ ◌+ℤ◌ (*ℤ-add x y r) (dot-plus ρ xs ys) ∙ +ℤ-swap (x *ℤ r) (y *ℤ r) (dot xs ρ) (dot ys ρ)

dot-minus : (ρ xs : List ℤ) → dot (minus xs) ρ ≡ neg_ℤ (dot xs ρ)
unfolding dot
dot-minus ρ [] = refl
dot-minus [] (x ∷ xs) = refl
dot-minus (r ∷ ρ) (x ∷ xs) = ap₂ ◌+ℤ◌ (*ℤ-neg x r) (dot-minus ρ xs) ∙ sym (neg_ℤ-+ℤ (x *ℤ r) (dot xs ρ))

dot-times : (ρ : List ℤ) (k : ℤ) (xs : List ℤ) → dot (times k xs) ρ ≡ k *ℤ dot xs ρ
unfolding dot
dot-times ρ k [] = sym (*ℤ-zero k)
dot-times [] k (x ∷ xs) = sym (*ℤ-zero k)
dot-times (r ∷ ρ) k (x ∷ xs) = ap₂ ◌+ℤ◌ (*ℤ-assoc k x r) (dot-times ρ k xs) ∙ sym (*ℤ-add-right k (x *ℤ r) (dot xs ρ))

sound : (ρ : List ℤ) (e : Exp) → eval ρ e ≡ numeral e +ℤ dot (multiples (length ρ) e) ρ
sound ρ (v i) = sym (+ℤ_idl (dot (unit (length ρ) i) ρ) ∙ dot-unit ρ i)
sound ρ (con z) = sym (ap (λ (t : ℤ). z +ℤ t) (dot-zeros ρ (length ρ)) ∙ +ℤ_idr z)
sound ρ (e ⊕ f) =
    ap₂ ◌+ℤ◌ (sound ρ e) (sound ρ f)
    ∙ +ℤ-swap (numeral e) (dot (multiples (length ρ) e) ρ) (numeral f) (dot (multiples (length ρ) f) ρ)
    ∙ ap (λ (t : ℤ). numeral e +ℤ numeral f +ℤ t) (sym (dot-plus ρ (multiples (length ρ) e) (multiples (length ρ) f)))
sound ρ (e ⊖ f) =
    ap₂ ◌-ℤ◌ (sound ρ e) (sound ρ f)
    ∙ ap (λ (t : ℤ). numeral e +ℤ dot (multiples (length ρ) e) ρ +ℤ t) (neg_ℤ-+ℤ (numeral f) (dot (multiples (length ρ) f) ρ))
    ∙ +ℤ-swap (numeral e) (dot (multiples (length ρ) e) ρ) (neg_ℤ (numeral f)) (neg_ℤ (dot (multiples (length ρ) f) ρ))
    ∙ ap (λ (t : ℤ). numeral e -ℤ numeral f +ℤ t)
    (ap (λ (t : ℤ). dot (multiples (length ρ) e) ρ +ℤ t) (sym (dot-minus ρ (multiples (length ρ) f)))
    ∙ sym (dot-plus ρ (multiples (length ρ) e) (minus (multiples (length ρ) f))))
sound ρ (neg e) =
    ap neg_ℤ (sound ρ e)
    ∙ neg_ℤ-+ℤ (numeral e) (dot (multiples (length ρ) e) ρ)
    ∙ ap (λ (t : ℤ). neg_ℤ (numeral e) +ℤ t) (sym (dot-minus ρ (multiples (length ρ) e)))
sound ρ (k ⊙ e) =
    ap (λ (t : ℤ). k *ℤ t) (sound ρ e)
    ∙ *ℤ-add-right k (numeral e) (dot (multiples (length ρ) e) ρ)
    ∙ ap (λ (t : ℤ). k *ℤ numeral e +ℤ t) (sym (dot-times ρ k (multiples (length ρ) e)))

pub solve : (ρ : List ℤ) (e f : Exp) → normal (length ρ) e ≡ normal (length ρ) f → eval ρ e ≡ eval ρ f
unfolding value
solve ρ e f p = sound ρ e ∙ ap (λ (t : List ℤ). value t ρ) p ∙ sym (sound ρ f)

-- ---- examples
regroup : (a b c : ℤ) → a +ℤ (b -ℤ c) +ℤ c ≡ b +ℤ a
regroup a b c = solve (a ∷ b ∷ c ∷ []) (v 0 ⊕ (v 1 ⊖ v 2) ⊕ v 2) (v 1 ⊕ v 0) refl

with-numerals : (a b : ℤ) → (a +ℤ pos 7) -ℤ (b +ℤ negsuc 2) ≡ pos 10 +ℤ (a -ℤ b)
with-numerals a b = solve (a ∷ b ∷ []) ((v 0 ⊕ con (pos 7)) ⊖ (v 1 ⊕ con (negsuc 2))) (con (pos 10) ⊕ (v 0 ⊖ v 1)) refl

with-multiples : (a b : ℤ) → pos 4 *ℤ (a -ℤ b) +ℤ (b +ℤ b) ≡ pos 4 *ℤ a +ℤ negsuc 1 *ℤ b
with-multiples a b = solve (a ∷ b ∷ []) (pos 4 ⊙ (v 0 ⊖ v 1) ⊕ (v 1 ⊕ v 1)) (pos 4 ⊙ v 0 ⊕ negsuc 1 ⊙ v 1) refl
