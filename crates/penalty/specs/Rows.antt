-- The table of penalties, as 01 lists it ("The penalties": coefficients, o offset, a aux, k carry).
-- Assumes nothing.
use Rattle.std.specs.Prelude.{List, [], ◌∷◌, map, Bool, cond, ◌&&◌, ℕ, eqb, ℤ, pos, neg_ℤ, ◌+ℤ◌, get_or}
use Rattle.penalty.specs.declared.Kind.{Kind}
use Rattle.penalty.specs.declared.Kind.TheVariants.{Not, And, Nand, Matriarch1, Or, Half, Full}
use Rattle.penalty.specs.declared.Penalty.{Penalty}

-- the six qubits that a penalty may speak of: up to three operands, the result, and for an adder aux and carry
pub data Slot : Type 0 where
  in₁ in₂ in₃ res aux car : Slot

-- their letters in 01
abbrev x1 : Slot
x1 = in₁

abbrev x2 : Slot
x2 = in₂

abbrev x3 : Slot
x3 = in₃

abbrev z : Slot
z = res

abbrev a : Slot
a = aux

abbrev k : Slot
k = car

-- a slot's index in a penalty's array of linear coefficients
abbrev pub slot_number : Slot → ℕ
slot_number in₁ = 0
slot_number in₂ = 1
slot_number in₃ = 2
slot_number res = 3
slot_number aux = 4
slot_number car = 5

-- the place of a coefficient: two of the six, or the same one twice for a linear coefficient
pub record Place : Type 0 where
  pub fst : Slot
  pub snd : Slot

abbrev at : Slot → Slot → Place
at i j = record { fst = i; snd = j }

-- the places of a penalty's coefficients, in the order of its arrays
abbrev pub singles : List Place
singles = at x1 x1 ∷ at x2 x2 ∷ at x3 x3 ∷ at z z ∷ at a a ∷ at k k ∷ []

abbrev pub twos : List Place
twos =
    at x1 x2 ∷ at x1 x3 ∷ at x1 z ∷ at x1 a ∷ at x1 k
    ∷ at x2 x3 ∷ at x2 z ∷ at x2 a ∷ at x2 k
    ∷ at x3 z ∷ at x3 a ∷ at x3 k
    ∷ at z a ∷ at z k
    ∷ at a k ∷ []

-- a negative number, as 01 writes it: `less 4` is -4
abbrev less : ℕ → ℤ
less n = neg_ℤ (pos n)

-- a term of 01's lists
pub record Term : Type 0 where
  pub place : Place
  pub coef : ℤ

abbrev on : Slot → ℤ → Term
on i c = record { place = at i i; coef = c }

abbrev pair : Slot → Slot → ℤ → Term
pair i j c = record { place = at i j; coef = c }

-- the coefficient at a place: the sum of the terms there
abbrev same : Place → Place → Bool
same p q = eqb (slot_number p.fst) (slot_number q.fst) && eqb (slot_number p.snd) (slot_number q.snd)

abbrev coef_at : List Term → Place → ℤ
coef_at [] p = pos 0
coef_at (t ∷ ts) p = cond (same t.place p) t.coef (pos 0) +ℤ coef_at ts p

abbrev row : ℤ → List Term → Penalty
row o ts = record { offset = o; linear = map (coef_at ts) singles; pairs = map (coef_at ts) twos }

unfoldable pub rows : List Penalty
rows =
    -- Not: x -2, z -2, xz 4, o 2.
    row (pos 2) (on x1 (less 2) ∷ on z (less 2) ∷ pair x1 z (pos 4) ∷ []) ∷
    -- And: z 6, x1x2 2, x1z -4, x2z -4.
    row (pos 0) (on z (pos 6) ∷ pair x1 x2 (pos 2) ∷ pair x1 z (less 4) ∷ pair x2 z (less 4) ∷ []) ∷
    -- Nand: x1 -4, x2 -4, z -6, x1x2 2, x1z 4, x2z 4, o 6.
    row (pos 6) (on x1 (less 4) ∷ on x2 (less 4) ∷ on z (less 6) ∷ pair x1 x2 (pos 2) ∷ pair x1 z (pos 4) ∷ pair x2 z (pos 4) ∷ []) ∷
    -- Matriarch1: x2 2, z 2, x1x2 -2, x1z 4, x2z -4.
    row (pos 0) (on x2 (pos 2) ∷ on z (pos 2) ∷ pair x1 x2 (less 2) ∷ pair x1 z (pos 4) ∷ pair x2 z (less 4) ∷ []) ∷
    -- Or: x1 2, x2 2, z 2, x1x2 2, x1z -4, x2z -4.
    row (pos 0) (on x1 (pos 2) ∷ on x2 (pos 2) ∷ on z (pos 2) ∷ pair x1 x2 (pos 2) ∷ pair x1 z (less 4) ∷ pair x2 z (less 4) ∷ []) ∷
    -- Half: x1 2, x2 2, z 2, a 4, k 4, ka 4, x1a -4, x1k -4, x2a 4, x2k -4, za -4, zk 4, x2z -4.
    row (pos 0) (on x1 (pos 2) ∷ on x2 (pos 2) ∷ on z (pos 2) ∷ on a (pos 4) ∷ on k (pos 4) ∷ pair a k (pos 4) ∷ pair x1 a (less 4) ∷ pair x1 k (less 4) ∷ pair x2 a (pos 4) ∷ pair x2 k (less 4) ∷ pair z a (less 4) ∷ pair z k (pos 4) ∷ pair x2 z (less 4) ∷ []) ∷
    -- Full: x1 2, x2 2, x3 2, z 2, a 4, k 4, x1a -4, x1k -4, x2a -4, x2k -4, x1x2 4, x3a 4, x3k -4, za -4, zk 4, x3z -4.
    row (pos 0) (on x1 (pos 2) ∷ on x2 (pos 2) ∷ on x3 (pos 2) ∷ on z (pos 2) ∷ on a (pos 4) ∷ on k (pos 4) ∷ pair x1 a (less 4) ∷ pair x1 k (less 4) ∷ pair x2 a (less 4) ∷ pair x2 k (less 4) ∷ pair x1 x2 (pos 4) ∷ pair x3 a (pos 4) ∷ pair x3 k (less 4) ∷ pair z a (less 4) ∷ pair z k (pos 4) ∷ pair x3 z (less 4) ∷ []) ∷
    []

abbrev pub number_of : Kind → ℕ
number_of Not = 0
number_of And = 1
number_of Nand = 2
number_of Matriarch1 = 3
number_of Or = 4
number_of Half = 5
number_of Full = 6

abbrev pub none : Penalty
none = record { offset = pos 0; linear = []; pairs = [] }

unfoldable pub row_of : Kind → Penalty
row_of kind = get_or rows (number_of kind) none
