-- How many rows there are: at most one for each gate, and one for each join step. So 01's 10G+3B pairs are enough.
-- Assumes nothing.
use Rattle.std.specs.Prelude.{◌≡◌, refl, Bool, true, false, ◌&&◌, cond, List, [], ◌∷◌, ◌++◌, leb, eqb, length, get_or}
use Prim.Native.Nat.{ℕ, zero, suc, ◌+◌, ◌*◌, ◌-◌, ◌≤◌, ◌<◌}
use native.Mathlib.Omega.{arith}
use Rattle.std.proofs.Common.{le-leb, leb-true, eqb-true, eq-eqb, ne_eqb}
use Rattle.std.proofs.lemmas.Bool.{lt-leb}
use Rattle.penalty.specs.declared.Kind.TheVariants as row
use Rattle.energy.specs.Plain.{Row}
use Rattle.energy.specs.Circuit.{Circuit, Node, fixed, free, op, carry_of, nodes_of}
use Rattle.numbering.specs.State.{State, origin, role}
use Rattle.numbering.specs.Numbered.{gate_row, join_row, row_of, rows_from, rows_of, first_join, joins_of}
use Rattle.numbering.specs.Finished.{Formed, Finished, gate-role, rows_split}

-- a sum over rows
abbrev pub total : (Row → ℕ) → List Row → ℕ
total f [] = 0
total f (r ∷ rs) = f r + total f rs

pub total-append : (f : Row → ℕ) (rs ts : List Row) → total f (rs ++ ts) ≡ total f rs + total f ts
total-append f [] ts = omega arith
total-append f (r ∷ rs) ts = omega (arith, total-append f rs ts)

-- how many entries of a table are from 1 to k
at_most : ℕ → List ℕ → ℕ
at_most k [] = 0
at_most k (x ∷ xs) = cond (leb 1 x && leb x k) 1 0 + at_most k xs

at_most-length : (k : ℕ) (xs : List ℕ) → at_most k xs ≤ length xs
unfolding at_most
at_most-length k [] = omega arith
at_most-length k (x ∷ xs) = go (leb 1 x && leb x k) (at_most-length k xs)
  where
    go : (b : Bool) → at_most k xs ≤ length xs → cond b 1 0 + at_most k xs ≤ suc (length xs)
    go true h = omega arith
    go false h = omega arith

one_more : (k x : ℕ) → cond (leb 1 x && leb x k) 1 0 ≤ cond (leb 1 x && leb x (suc k)) 1 0
one_more k x = go (leb 1 x) (leb x k) refl
  where
    go : (a b : Bool) → leb x k ≡ b → cond (a && b) 1 0 ≤ cond (a && leb x (suc k)) 1 0
    go false b e = omega arith
    go true false e = omega arith
    go true true e = let h : x ≤ suc k = omega (arith, leb-true x k e) in rw (le-leb x (suc k) h) (omega arith)

at_most-more : (k : ℕ) (xs : List ℕ) → at_most k xs ≤ at_most (suc k) xs
unfolding at_most
at_most-more k [] = omega arith
at_most-more k (x ∷ xs) = omega (arith, one_more k x, at_most-more k xs)

-- an entry that is k + 1 is one more
at_most-next : (k : ℕ) (xs : List ℕ) (g : ℕ) → get_or xs g 0 ≡ suc k → suc (at_most k xs) ≤ at_most (suc k) xs
unfolding at_most
at_most-next k [] g e = absurd (omega arith)
at_most-next k (x ∷ xs) zero e =
    let a : leb x k ≡ false = lt-leb x k (omega arith) in
    let b : leb x (suc k) ≡ true = le-leb x (suc k) (omega arith) in
    let d : leb 1 x ≡ true = le-leb 1 x (omega arith) in
    rw (a, b, d) (omega (arith, at_most-more k xs))
at_most-next k (x ∷ xs) (suc g) e = omega (arith, one_more k x, at_most-next k xs g e)

-- Rows of which each counts at most 10, and a join's Or at most 3.
module _ (c : Circuit) (t : State) (fin : Finished c t) (f : Row → ℕ) (ten : (r : Row) → f r ≤ 10) (three : (r : Row) → r.kind ≡ row.Or → f r ≤ 3) (formed : Formed c) where
  -- the row of a gate's name: its gate has the next entry
  gate-few : (q : ℕ) → 2 ≤ q → q < first_join c t → total f (row_of c t q) + 10 * at_most q t.qubits ≤ 10 * at_most (suc q) t.qubits
  gate-few q l h = go (eqb (role t q) 1) refl
    where
      one : (rs : List Row) → (length rs ≤ 1) → total f rs ≤ 10
      one [] k = omega arith
      one (r ∷ []) k = omega (arith, ten r)
      one (r ∷ s ∷ rs) k = absurd (omega arith)

      single : (d : Node) → length (gate_row t q d) ≤ 1
      single (fixed b) = omega arith
      single (free src) = omega arith
      single (op k x y z) = omega arith
      single (carry_of a) = omega arith

      go : (b : Bool) → eqb (role t q) 1 ≡ b
          → total f (cond b (gate_row t q (nodes_of c.gates (origin t q))) (cond (eqb (role t q) 4) (join_row c t q (origin t q) ∷ []) []))
          + 10 * at_most q t.qubits ≤ 10 * at_most (suc q) t.qubits
      go true e =
          let r : role t q ≡ 1 = eqb-true (role t q) 1 e in
          let k : get_or t.qubits (origin t q) 0 ≡ suc q = omega (arith, (fin.taken q l h).entry) in
          omega (
            arith,
            one (gate_row t q (nodes_of c.gates (origin t q))) (single (nodes_of c.gates (origin t q))),
            at_most-next q t.qubits (origin t q) k,
          )
      go false e =
          let w : eqb (role t q) 4 ≡ false = ne_eqb (role t q) 4 (λ z. omega (arith, gate-role c t fin q l h)) in
          rw w (omega (arith, at_most-more q t.qubits))

  gates-few : (m q : ℕ) → 2 ≤ q → q + m ≤ first_join c t → total f (rows_from c t q m) + 10 * at_most q t.qubits ≤ 10 * at_most (q + m) t.qubits
  unfolding rows_from
  gates-few zero q l h = let e : q + 0 ≡ q = omega arith in rw e (omega arith)
  gates-few (suc m) q l h =
      let e : q + suc m ≡ suc q + m = omega arith in
      rw e
      (omega (
        arith,
        total-append f (row_of c t q) (rows_from c t (suc q) m),
        gate-few q l (omega arith),
        gates-few m (suc q) (omega arith) (omega arith),
      ))

  -- the row of a join's name
  join-few : (i : ℕ) → i < joins_of c → total f (row_of c t (first_join c t + i)) ≤ 3
  join-few i h =
      let o = fin.steps i h in
      let w : eqb (role t (first_join c t + i)) 1 ≡ false = ne_eqb (role t (first_join c t + i)) 1 (λ z. omega (arith, o.what)) in
      let v : eqb (role t (first_join c t + i)) 4 ≡ true = eq-eqb (role t (first_join c t + i)) 4 o.what in
      rw (w, v) (omega (arith, three (join_row c t (first_join c t + i) (origin t (first_join c t + i))) refl))

  joins-few : (m i : ℕ) → i + m ≤ joins_of c → total f (rows_from c t (first_join c t + i) m) ≤ 3 * m
  unfolding rows_from
  joins-few zero i h = omega arith
  joins-few (suc m) i h =
      let e : suc (first_join c t + i) ≡ first_join c t + suc i = omega arith in
      let k : total f (rows_from c t (suc (first_join c t + i)) m) ≤ 3 * m = rw e (joins-few m (suc i) (omega arith)) in
      omega (arith, total-append f (row_of c t (first_join c t + i)) (rows_from c t (suc (first_join c t + i)) m), join-few i (omega arith))

  -- "10G+3B pairs" are enough
  pub rows_few : total f (rows_of c t) ≤ 10 * length c.gates + 3 * length c.bads
  unfolding rows_of
  rows_few =
      let l : t.next - 2 ≡ (first_join c t - 2) + joins_of c = omega (arith, fin.last, fin.first) in
      let a : 2 + (first_join c t - 2) ≡ first_join c t + 0 = omega (arith, fin.first) in
      let g = gates-few (first_join c t - 2) 2 (omega arith) (omega (arith, fin.first)) in
      let j : total f (rows_from c t (2 + (first_join c t - 2)) (joins_of c)) ≤ 3 * joins_of c = rw a (joins-few (joins_of c) 0 (omega arith)) in
      let s : total f (rows_from c t 2 (t.next - 2))
      ≡ total f (rows_from c t 2 (first_join c t - 2)) + total f (rows_from c t (2 + (first_join c t - 2)) (joins_of c)) =
      rw (l, rows_split c formed t fin (first_join c t - 2) (joins_of c) 2) (total-append f (rows_from c t 2 (first_join c t - 2)) (rows_from c t (2 + (first_join c t - 2)) (joins_of c))) in
      omega (arith, s, g, at_most-length (2 + (first_join c t - 2)) t.qubits, fin.gates)
