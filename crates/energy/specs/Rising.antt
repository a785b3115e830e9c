-- The pairs of every model that rows build, fixed or not and in either form, rise by key: so a pair has one entry, and the entries stand by name.
-- The theorems that an edit of a definition breaks are in proofs/Rising.antt.
-- Assumes nothing.
use Rattle.std.specs.Prelude.{Bool, true, false, cond, List, [], ◌∷◌, ℕ, ◌≤◌, ◌<◌, eqb, ltb, ℤ, ◌+ℤ◌}
use Rattle.std.proofs.Common.{arith}
use Rattle.laws.specs.Test.{by_eqb, by-ltb}
use Rattle.penalty.specs.declared.Penalty.{Penalty}
use Rattle.penalty.specs.Rows.{Slot, Place, singles, twos, row_of}
use Rattle.energy.specs.Plain.{Row, wire}
use Rattle.energy.specs.Model.{Entry, Model, key_of, is_zero, join_linear, add, join_pair, add_pair, halves, add_linears, add_pairs, place, place_all, touches, without, quarters, ising}
use Rattle.energy.specs.Fixing.{add_linear-pairs}
use Rattle.energy.specs.Ising.{ising-pairs}

-- every key of the list is above k
abbrev pub Above : ℕ → List Entry → Type 0
Above k [] = Unit {0}
Above k (f ∷ s) = (k < f.0) × Above k s

-- each key is above those before it
abbrev pub Rising : List Entry → Type 0
Rising [] = Unit {0}
Rising (f ∷ s) = Above f.0 s × Rising s

above-less : (k l : ℕ) (s : List Entry) → k ≤ l → Above l s → Above k s
above-less k l [] h a = tt
above-less k l (f ∷ s) h a = (omega arith, above-less k l s h a.1)

above-add : (k : ℕ) (e : Entry) (s : List Entry) → k < e.0 → Above k s → Above k (add e s)
unfolding add
above-add k e [] h a = (h, tt)
above-add k e (f ∷ s) h a = go (ltb e.0 f.0) (eqb e.0 f.0) (above-add k e s h a.1)
  where
    go : (x y : Bool) → Above k (add e s) → Above k (cond x (e ∷ f ∷ s) (cond y ((f.0, f.1 +ℤ e.1) ∷ s) (f ∷ add e s)))
    go true y r = (h, a)
    go false true r = (a.0, a.1)
    go false false r = (a.0, r)

-- an entry that joins, or is made at its place, keeps the order
pub rising-add : (e : Entry) (s : List Entry) → Rising s → Rising (add e s)
unfolding add
rising-add e [] r = (tt, tt)
rising-add e (f ∷ s) r =
    by-ltb e.0 f.0 (λ x. Rising (cond x (e ∷ f ∷ s) (cond (eqb e.0 f.0) ((f.0, f.1 +ℤ e.1) ∷ s) (f ∷ add e s))))
    (λ l. ((l, above-less e.0 f.0 s (omega arith) r.0), r))
    (λ l.
    by_eqb e.0 f.0 (λ y. Rising (cond y ((f.0, f.1 +ℤ e.1) ∷ s) (f ∷ add e s)))
    (λ p. (r.0, r.1))
    (λ ne. (above-add f.0 e s (omega arith) r.0, rising-add e s r.1)))

above-without : (k q : ℕ) (s : List Entry) → Above k s → Above k (without q s)
unfolding without
above-without k q [] a = tt
above-without k q (e ∷ s) a = go (touches q e.0) (above-without k q s a.1)
  where
    go : (b : Bool) → Above k (without q s) → Above k (cond b (without q s) (e ∷ without q s))
    go true r = r
    go false r = (a.0, r)

-- taking out the pairs of a qubit keeps it
pub rising-without : (q : ℕ) (s : List Entry) → Rising s → Rising (without q s)
unfolding without
rising-without q [] r = tt
rising-without q (e ∷ s) r = go (touches q e.0) (rising-without q s r.1)
  where
    go : (b : Bool) → Rising (without q s) → Rising (cond b (without q s) (e ∷ without q s))
    go true k = k
    go false k = (above-without e.0 q s r.0, k)

above-quarters : (k : ℕ) (s : List Entry) → Above k s → Above k (quarters s)
above-quarters k [] a = tt
above-quarters k (e ∷ s) a = (a.0, above-quarters k s a.1)

rising-quarters : (s : List Entry) → Rising s → Rising (quarters s)
rising-quarters [] r = tt
rising-quarters (e ∷ s) r = (above-quarters e.0 s r.0, rising-quarters s r.1)

-- ---- the model's pairs

rising-add_pair : (p q : ℕ) (c : ℤ) (m : Model) → Rising m.pairs → Rising (add_pair p q c m).pairs
unfolding add_pair
rising-add_pair p q c m r = go (is_zero c) (eqb p q)
  where
    go : (a b : Bool) → Rising (cond a m (cond b (join_linear p c m) (join_pair p q c m))).pairs
    go true b = r
    go false true = r
    go false false = rising-add (key_of p q, c) m.pairs r

rising-add_linears : (at : Slot → ℕ) (ps : List Place) (cs : List ℤ) (m : Model) → Rising m.pairs → Rising (add_linears at ps cs m).pairs
rising-add_linears at [] cs m r = r
rising-add_linears at (p ∷ ps) [] m r = r
rising-add_linears at (p ∷ ps) (c ∷ cs) m r = rising-add_linears at ps cs _ (rw (add_linear-pairs (at p.fst) (halves c) m) r)

rising-add_pairs : (at : Slot → ℕ) (ps : List Place) (cs : List ℤ) (m : Model) → Rising m.pairs → Rising (add_pairs at ps cs m).pairs
rising-add_pairs at [] cs m r = r
rising-add_pairs at (p ∷ ps) [] m r = r
rising-add_pairs at (p ∷ ps) (c ∷ cs) m r = rising-add_pairs at ps cs _ (rising-add_pair (at p.fst) (at p.snd) (halves c) m r)

-- placing rows keeps the order
pub rising-place_all : (rs : List Row) (m : Model) → Rising m.pairs → Rising (place_all rs m).pairs
unfolding place_all place
rising-place_all [] m r = r
rising-place_all (x ∷ rs) m r =
    let p : Penalty = row_of x.kind in
    rising-place_all rs _ (rising-add_pairs (wire x) twos p.pairs _ (rising-add_linears (wire x) singles p.linear _ r))

-- and so does the Ising form
pub rising-ising : (m : Model) → Rising m.pairs → Rising (ising m).pairs
rising-ising m r = rw (ising-pairs m) (rising-quarters m.pairs r)
