-- Texts as bytes. Runs of bytes of one class, such as digits: where a text begins with such a run, the run is the only one.
-- Assumes nothing.
use Rattle.std.specs.Prelude.{◌≡◌, refl, Bool, true, false, List, [], ◌∷◌, ◌++◌, ℕ}
use Rattle.std.proofs.Common.{sym, ap, ap₂, ◌∙◌, true≢false}
use Prim.Native.Char.{code}
use Prim.Native.String as string

-- the bytes of a text of ASCII characters
abbrev pub bytes : string.String → List ℕ
bytes string.[] = []
bytes (string.◌∷◌ c s) = code c ∷ bytes s

-- every byte is of the class
abbrev pub All : (ℕ → Bool) → List ℕ → Type 0
All p [] = Unit
All p (b ∷ s) = (p b ≡ true) × All p s

-- the text ends here, or goes on with a byte that is not of the class
abbrev pub Stops : (ℕ → Bool) → List ℕ → Type 0
Stops p [] = Unit
Stops p (b ∷ s) = p b ≡ false

pub all_append : (p : ℕ → Bool) (s t : List ℕ) → All p s → All p t → All p (s ++ t)
all_append p [] t a b = b
all_append p (x ∷ s) t a b = (a.0, all_append p s t a.1 b)

-- a run is the only one
pub split : (p : ℕ → Bool) (x y s t : List ℕ) → All p x → All p y → Stops p s → Stops p t → x ++ s ≡ y ++ t → (x ≡ y) × (s ≡ t)
split p [] [] s t a b h k e = (refl, e)
split p [] (y ∷ ys) [] t a b h k e = let z : true ≡ false = cc in absurd (true≢false z)
split p [] (y ∷ ys) (c ∷ s) t a b h k e = let q : c ≡ y = cc in absurd (true≢false (sym b.0 ∙ sym (ap p q) ∙ h))
split p (x ∷ xs) [] s [] a b h k e = let z : true ≡ false = cc in absurd (true≢false z)
split p (x ∷ xs) [] s (c ∷ t) a b h k e = let q : x ≡ c = cc in absurd (true≢false (sym a.0 ∙ ap p q ∙ k))
split p (x ∷ xs) (y ∷ ys) s t a b h k e =
    let heads : x ≡ y = cc in
    let tails : xs ++ s ≡ ys ++ t = cc in
    let rest = split p xs ys s t a.1 b.1 h k tails in
    (ap₂ ◌∷◌ heads rest.0, rest.1)
