-- Lists of rows and of gates: appended, free of a name, sorted; and the rows of the joins.
-- Assumes nothing.
use Rattle.std.specs.Prelude.{◌≡◌, refl, ◌⊎◌, List, [], ◌∷◌, ◌++◌, ℕ, suc, ◌+◌, ◌≤◌, ◌<◌, length}
use Rattle.std.proofs.Common.{sym, ◌∙◌, ap, inl, inr, append_assoc, arith}
use Rattle.std.proofs.Math.Path.{subst⁻¹}
use Rattle.energy.specs.Plain.{Row, more, Sorted, Free}
use Rattle.energy.specs.Circuit.{Nodes, AllBelow}
use Rattle.energy.specs.Numbering.{In, row_by, gate_rows, joins}

pub sorted-append : (lo mid hi : ℕ) (rs ts : List Row) → Sorted lo rs mid → Sorted mid ts hi → Sorted lo (rs ++ ts) hi
sorted-append lo mid hi [] [] a b = omega arith
sorted-append lo mid hi [] (t ∷ ts) a b = (omega arith, b.1, b.2, b.3, b.4)
sorted-append lo mid hi (r ∷ rs) ts a b =
    (a.0, a.1, a.2, a.3, sorted-append (suc (r.out + more r.kind)) mid hi rs ts a.4 b)

pub sorted-down : (l lo : ℕ) (rs : List Row) (n : ℕ) → l ≤ lo → Sorted lo rs n → Sorted l rs n
sorted-down l lo [] n h s = omega arith
sorted-down l lo (r ∷ rs) n h s = (omega arith, s.1, s.2, s.3, s.4)

pub free-append : (rs ts : List Row) (q : ℕ) → Free rs q → Free ts q → Free (rs ++ ts) q
free-append [] ts q a b = b
free-append (r ∷ rs) ts q a b = (a.0, free-append rs ts q a.1 b)

pub free-left : (rs ts : List Row) (q : ℕ) → Free (rs ++ ts) q → Free rs q
free-left [] ts q f = tt
free-left (r ∷ rs) ts q f = (f.0, free-left rs ts q f.1)

pub free-right : (rs ts : List Row) (q : ℕ) → Free (rs ++ ts) q → Free ts q
free-right [] ts q f = f
free-right (r ∷ rs) ts q f = free-right rs ts q f.1

-- what is free in all rows is free in one gate's
pub free-gate : (N : Nodes) (base : ℕ → ℕ) (gs : List ℕ) (q g : ℕ) → Free (gate_rows N base gs) q → In g gs → Free (row_by N base g (N g)) q
free-gate N base [] q g f i = absurd i
free-gate N base (h ∷ gs) q g f (inl e) =
    subst⁻¹ (λ (g : ℕ). Free (row_by N base g (N g)) q) e (free-left (row_by N base h (N h)) (gate_rows N base gs) q f)
free-gate N base (h ∷ gs) q g f (inr i) = free-gate N base gs q g (free-right (row_by N base h (N h)) (gate_rows N base gs) q f) i

-- and what is free in each gate's row is free in all
pub free-gates : (N : Nodes) (base : ℕ → ℕ) (gs : List ℕ) (q : ℕ) → ((g : ℕ) → In g gs → Free (row_by N base g (N g)) q) → Free (gate_rows N base gs) q
free-gates N base [] q f = tt
free-gates N base (h ∷ gs) q f =
    free-append (row_by N base h (N h)) (gate_rows N base gs) q (f h (inl refl)) (free-gates N base gs q (λ g i. f g (inr i)))

pub gate_rows-append : (N : Nodes) (base : ℕ → ℕ) (gs hs : List ℕ) → gate_rows N base (gs ++ hs) ≡ gate_rows N base gs ++ gate_rows N base hs
gate_rows-append N base [] hs = refl
gate_rows-append N base (g ∷ gs) hs =
    ap (λ (rs : List Row). row_by N base g (N g) ++ rs) (gate_rows-append N base gs hs)
    ∙ sym (append_assoc (row_by N base g (N g)) (gate_rows N base gs) (gate_rows N base hs))

pub in_right : (g : ℕ) (hs ts : List ℕ) → In g ts → In g (hs ++ ts)
in_right g [] ts i = i
in_right g (h ∷ hs) ts i = inr (in_right g hs ts i)

pub in_either : (g : ℕ) (hs ts : List ℕ) → In g (hs ++ ts) → In g hs ⊎ In g ts
in_either g [] ts i = inr i
in_either g (h ∷ hs) ts (inl e) = inl (inl e)
in_either g (h ∷ hs) ts (inr i) = go (in_either g hs ts i)
  where
    go : In g hs ⊎ In g ts → In g (h ∷ hs) ⊎ In g ts
    go (inl i) = inl (inr i)
    go (inr i) = inr i

-- ---- the joins

below_up : (m n : ℕ) (ps : List ℕ) → m ≤ n → AllBelow m ps → AllBelow n ps
below_up m n [] l a = tt
below_up m n (p ∷ ps) l a = (omega arith, below_up m n ps l a.1)

pub joins-sorted : (q n : ℕ) (ps : List ℕ) → q < n → AllBelow n ps → Sorted n (joins q n ps) (n + length ps)
joins-sorted q n [] l a = omega arith
joins-sorted q n (p ∷ ps) l a =
    let e : n + length (p ∷ ps) ≡ suc n + length ps = omega arith in
    rw e (
      omega arith,
      l,
      a.0,
      l,
      sorted-down (suc (n + 0)) (suc n) (joins n (suc n) ps) (suc n + length ps) (omega arith)
          (joins-sorted n (suc n) ps (omega arith) (below_up n (suc n) ps (omega arith) a.1)),
    )

-- the joins leave none of their names free
pub joins-taken : (q n : ℕ) (ps : List ℕ) (x : ℕ) → n ≤ x → x < n + length ps → Free (joins q n ps) x → ⊥
joins-taken q n [] x l h f = omega arith
joins-taken q n (p ∷ ps) x l h f = joins-taken n (suc n) ps x (go f.0) (omega arith) f.1
  where
    go : (x < n) ⊎ (n + 0 < x) → suc n ≤ x
    go (inl a) = absurd (omega arith)
    go (inr a) = omega arith
