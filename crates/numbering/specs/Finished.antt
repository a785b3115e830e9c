-- The finished numbering: its laws, and that it is what demand 3 asks.
--     finished       the laws of the tables that `number` leaves
--     numbering      what they say is a `Numbering`
--     rows_agree     the rows in the order of the names are those of demand 3
-- Assumes nothing.
use Rattle.std.specs.Prelude.{◌≡◌, ◌⊎◌, Bool, cond, replicate}
use Rattle.std.proofs.Math.Path.{refl, sym, ap, ap₂, subst}
use Rattle.std.proofs.Common.{◌∙◌, inr, length-set, get_or-set_same, get_or-set_other}
use Rattle.std.proofs.Math.Logic.{inl}
use Rattle.std.proofs.Math.Bool.{true, false}
use mathlib.Core.List.{List, [], ◌∷◌, ◌++◌, map, append_assoc}
use Prim.Native.Nat.{ℕ, zero, suc, ◌+◌, ◌*◌, ◌-◌, ◌≤◌, ◌<◌}
use native.Mathlib.Omega.{arith}
use Rattle.std.proofs.Math.Decide.{ℕ_discrete, dec_lt}
use Rattle.std.proofs.Math.Dec.{eqb}
use Rattle.std.proofs.Math.ListN.{length, get_or, length-replicate}
use borrow.Author.Tests.{eqb-true, eq-eqb, ne_eqb}
use Rattle.penalty.specs.Rule.{is_adder}
use Rattle.energy.specs.Plain.{more}
use Rattle.energy.specs.Circuit.{Circuit, Bad, Gate, Nodes, Node, fixed, free, op, carry_of, nodes_of, Before, AllBelow}
use Rattle.energy.specs.Numbering.{AllIn, name, row_by, gate_rows, joins, reads, rows, Numbering}
use Rattle.numbering.specs.State.{State, mk, slot, qubit_of, origin, role, names_of, start}
use Rattle.numbering.specs.Visit.{give, visit_of}
use Rattle.numbering.specs.Numbered.{bad_gates, constraint_gates, roots, Outcome, refused, numbered, decide, visit_roots, join_names, joins_of, name_joins, and_then, number, gate_row, join_row, row_of, rows_from, rows_of, size, cons_if, results_from, base_of, first_join, tail, named_of}
use Rattle.numbering.specs.Laws.{AllHave, zeros, Origin, Placed, Taken, Inv, Keeps, Visited, later_refl, later_trans, have-later, placed-later, taken-later, full-trans, visit-visited}
use Rattle.numbering.specs.Tables.{name-is, own-rows, all-reached, numbering-of}

-- A well-formed circuit, as far as the numbering goes: refusals 4, 5 and 6.
pub record Formed (c : Circuit) : Type 0 where
  pub ordered : (g : ℕ) → Before (nodes_of c.gates) g (nodes_of c.gates g)
  pub in_range : AllBelow (length c.gates) (roots c)
  pub some : 1 ≤ length c.bads

-- ---- the first tables

zeros-replicate : (n : ℕ) → zeros (replicate n 0) ≡ n
unfolding zeros
zeros-replicate zero = refl
zeros-replicate (suc n) = ap suc (zeros-replicate n)

nothing : (n i : ℕ) → ◌≡◌ {A = ℕ} (get_or (replicate n 0) i 0) 0
nothing zero i = refl
nothing (suc n) zero = refl
nothing (suc n) (suc i) = nothing n i

-- no gate has a qubit
pub start_none : (c : Circuit) (g : ℕ) → slot (start c) g ≡ 0
unfolding start
start_none c g = nothing (length c.gates) g

pub start-inv : (c : Circuit) → 1 ≤ length c.bads → Inv c.gates (start c)
unfolding start
start-inv c some =
    record {
      gates = length-replicate {A = ℕ} (length c.gates) 0;
      origins = omega (arith, length-replicate {A = ℕ} (names_of c) 0);
      roles = omega (arith, length-replicate {A = ℕ} (names_of c) 0);
      first = omega arith;
      room = omega (arith, zeros-replicate (length c.gates));
      below = λ g. omega (arith, nothing (length c.gates) g);
      placed = λ g has. absurd (omega (arith, nothing (length c.gates) g));
      taken = λ q l h. absurd (omega arith);
    }

-- ---- the roots

module _ (gs : List Gate) (ordered : (g : ℕ) → Before (nodes_of gs) g (nodes_of gs g)) where
  same-state : {s t : State} → numbered s ≡ numbered t → s ≡ t
  same-state e = cc

  -- a root that already has a qubit is refused; else it is visited
  pub roots-had : (g : ℕ) (rs : List ℕ) (s : State) → (slot s g ≡ 0 → ⊥) → visit_roots gs (g ∷ rs) s ≡ refused g s
  unfolding visit_roots
  roots-had g rs s n = rw (ne_eqb (slot s g) 0 n)

  pub roots-fresh : (g : ℕ) (rs : List ℕ) (s : State) → slot s g ≡ 0 → visit_roots gs (g ∷ rs) s ≡ visit_roots gs rs (visit_of gs g s)
  unfolding visit_roots
  roots-fresh g rs s e = rw (eq-eqb (slot s g) 0 e)

  pub roots-visited : (rs : List ℕ) → AllBelow (length gs) rs → (s t : State) → Inv gs s → visit_roots gs rs s ≡ numbered t
      → Visited gs (length gs) rs s t
  unfolding visit_roots
  roots-visited [] b s t inv e =
      subst (λ (t : State). Visited gs (length gs) [] s t) (same-state e)
      (record { inv = inv; later = later_refl (length gs) s; have = tt; full = λ h has. inl has })
  roots-visited (g ∷ rs) b s t inv e =
      go (ℕ_discrete (slot s g) 0) (λ z. roots-visited rs b.1 (visit_of gs g s) t one.inv (sym (roots-fresh g rs s z) ∙ e))
    where
      one : Visited gs (suc g) (g ∷ []) s (visit_of gs g s)
      one = visit-visited gs ordered g b.0 s inv

      go : Dec (slot s g ≡ 0) → (slot s g ≡ 0 → Visited gs (length gs) rs (visit_of gs g s) t) → Visited gs (length gs) (g ∷ rs) s t
      go (yes z) rest =
          let r = rest z in
          record {
            inv = r.inv;
            later = later_trans b.0 one.later r.later;
            have = ((have-later r.later.keeps (g ∷ []) one.have).0, r.have);
            full = full-trans gs s (visit_of gs g s) t one.full r.later r.full;
          }
      go (no n) rest = let z : ◌≡◌ {A = ℕ} 0 1 = cc (roots-had g rs s n) in absurd (omega arith)

-- bad states and then constraints are all roots in their order
roots-append : (gs : List Gate) (xs ys : List ℕ) (s : State) → visit_roots gs (xs ++ ys) s ≡ and_then (visit_roots gs ys) (visit_roots gs xs s)
unfolding visit_roots
roots-append gs [] ys s = refl
roots-append gs (g ∷ xs) ys s = go (eqb (slot s g) 0) (roots-append gs xs ys (visit_of gs g s))
  where
    go : (b : Bool) → visit_roots gs (xs ++ ys) (visit_of gs g s) ≡ and_then (visit_roots gs ys) (visit_roots gs xs (visit_of gs g s))
        → decide b (λ t. visit_roots gs (xs ++ ys) (visit_of gs g t)) (refused g) s
        ≡ and_then (visit_roots gs ys) (decide b (λ t. visit_roots gs xs (visit_of gs g t)) (refused g) s)
    go true rest = rest
    go false rest = refl

pub number_is : (c : Circuit) → number c ≡ and_then (name_joins c) (visit_roots c.gates (roots c) (start c))
unfolding number
number_is c = ap (and_then (name_joins c)) (sym (roots-append c.gates (bad_gates c) (constraint_gates c) (start c)))

-- ---- the joins

pub record Joined (j m : ℕ) (s t : State) : Type 0 where
  pub qubits : t.qubits ≡ s.qubits
  pub next : t.next ≡ s.next + m
  pub names : (q : ℕ) → q < s.next → Origin t q (origin s q) (role s q)
  pub beyond : (q : ℕ) → s.next + m ≤ q → Origin t q (origin s q) (role s q)
  -- the i-th name from there on is that of join step j + i
  pub steps : (i : ℕ) → i < m → Origin t (s.next + i) (j + i) 4
  pub origins : length t.origins ≡ length s.origins
  pub roles : length t.roles ≡ length s.roles

give-other : (j : ℕ) (s : State) (q : ℕ) → (q ≡ s.next → ⊥) → Origin (give j 4 s) q (origin s q) (role s q)
give-other j s q ne =
    record { from = get_or-set_other s.origins s.next q j 0 ne; what = get_or-set_other s.roles s.next q 4 0 ne }

give-here : (j : ℕ) (s : State) → s.next < length s.origins → s.next < length s.roles → Origin (give j 4 s) s.next j 4
give-here j s a b =
    record { from = get_or-set_same s.origins s.next j 0 a; what = get_or-set_same s.roles s.next 4 0 b }

then : {s t : State} {q g r : ℕ} → Origin t q (origin s q) (role s q) → Origin s q g r → Origin t q g r
then o p = record { from = o.from ∙ p.from; what = o.what ∙ p.what }

-- the joins change no gate's entry
pub joins-keep : (m j : ℕ) (s : State) → s.qubits ≡ (join_names j m s).qubits
unfolding join_names
joins-keep zero j s = refl
joins-keep (suc m) j s = joins-keep m (j + 1) (give j 4 s)

-- one join step, and then m more
join_one : {m j : ℕ} {s t : State} → s.next < length s.origins → s.next < length s.roles → Joined (j + 1) m (give j 4 s) t → Joined j (suc m) s t
join_one {m} {j} {s} {t} a b rest =
    record {
      qubits = rest.qubits;
      next = omega (arith, rest.next);
      names = λ q l. then (rest.names q (omega arith)) (give-other j s q (omega arith));
      beyond = λ q l. then (rest.beyond q (omega arith)) (give-other j s q (omega arith));
      steps = step;
      origins = rest.origins ∙ length-set s.origins s.next j;
      roles = rest.roles ∙ length-set s.roles s.next 4;
    }
  where
    step : (i : ℕ) → i < suc m → Origin t (s.next + i) (j + i) 4
    step zero l =
        let x : s.next + 0 ≡ s.next = omega arith in
        let y : j + 0 ≡ j = omega arith in
        rw (x, y) (then (rest.names s.next (omega arith)) (give-here j s a b))
    step (suc i) l =
        let x : s.next + 1 + i ≡ s.next + suc i = omega arith in
        let y : j + 1 + i ≡ j + suc i = omega arith in
        rw (x, y) at (rest.steps i (omega arith))

pub joined : (m j : ℕ) (s : State) → s.next + m ≤ length s.origins → s.next + m ≤ length s.roles → Joined j m s (join_names j m s)
unfolding join_names
joined zero j s a b =
    record {
      qubits = refl;
      next = omega arith;
      names = λ q l. record { from = refl; what = refl };
      beyond = λ q l. record { from = refl; what = refl };
      steps = λ i l. absurd (omega arith);
      origins = refl;
      roles = refl;
    }
joined (suc m) j s a b =
    join_one (omega arith) (omega arith)
    (joined m (j + 1) (give j 4 s) (simp length-set (omega arith)) (simp length-set (omega arith)))

-- ---- the finished tables

-- The laws of the tables that `number` leaves.
pub record Finished (c : Circuit) (t : State) : Type 0 where
  pub gates : length t.qubits ≡ length c.gates
  pub origins : length t.origins ≡ names_of c
  pub roles : length t.roles ≡ names_of c
  -- the joins' names come last, and all of them are at most 3G+B+1
  pub first : 2 ≤ first_join c t
  pub last : t.next ≡ first_join c t + joins_of c
  pub at_most : t.next ≤ names_of c
  -- an unreached gate takes none of the three names that there are for it
  pub room : first_join c t + 3 * zeros t.qubits ≤ 3 * length c.gates + 2
  -- the bad states and the constraints are reached, and all that a reached gate needs
  pub reached : AllHave t (roots c)
  pub placed : (h : ℕ) → 1 ≤ slot t h → Placed t h (nodes_of c.gates h)
  pub full : (h : ℕ) → 1 ≤ slot t h → AllHave t (reads (nodes_of c.gates h))
  pub below : (h : ℕ) → slot t h ≤ first_join c t
  -- every name from 2 on has one origin, a gate or a join step, and the others have none
  pub taken : (q : ℕ) → 2 ≤ q → q < first_join c t → Taken c.gates t q
  pub steps : (i : ℕ) → i < joins_of c → Origin t (first_join c t + i) (1 + i) 4
  pub unused : (q : ℕ) → (q < 2) ⊎ (t.next ≤ q) → Origin t q 0 0

-- the tables, with n for the next name
abbrev cut : State → ℕ → State
cut t n = mk t.qubits t.origins t.roles n

-- before the joins: the tables, and what they became
pub before-joins : (c : Circuit) (t : State) → number c ≡ numbered t
    → (s : State) × (visit_roots c.gates (roots c) (start c) ≡ numbered s) × (join_names 1 (joins_of c) s ≡ t)
before-joins c t e = go (visit_roots c.gates (roots c) (start c)) refl (sym (number_is c) ∙ e)
  where
    go : (o : Outcome) → visit_roots c.gates (roots c) (start c) ≡ o → and_then (name_joins c) o ≡ numbered t
        → (s : State) × (visit_roots c.gates (roots c) (start c) ≡ numbered s) × (join_names 1 (joins_of c) s ≡ t)
    go (refused g s) f e = let z : ◌≡◌ {A = ℕ} 0 1 = cc in absurd (omega arith)
    go (numbered s) f e = (s, f, cc)

module _ (c : Circuit) (formed : Formed c) (s : State) (e : visit_roots c.gates (roots c) (start c) ≡ numbered s) where
  abbrev gs : List Gate
  gs = c.gates

  visited : Visited gs (length gs) (roots c) (start c) s
  visited = roots-visited gs formed.ordered (roots c) formed.in_range (start c) s (start-inv c formed.some) e

  start-long : (length (start c).origins ≡ names_of c) × (length (start c).roles ≡ names_of c) × ((start c).next ≡ 2)
  unfolding start
  start-long = (length-replicate {A = ℕ} (names_of c) 0, length-replicate {A = ℕ} (names_of c) 0, refl)

  start-unused : (q : ℕ) → Origin (start c) q 0 0
  unfolding start
  start-unused q = record { from = nothing (names_of c) q; what = nothing (names_of c) q }

  pub olong : length s.origins ≡ names_of c
  olong = visited.later.origins ∙ start-long.0

  pub rlong : length s.roles ≡ names_of c
  rlong = visited.later.roles ∙ start-long.1

  abbrev m : ℕ
  m = joins_of c

  abbrev t : State
  t = join_names 1 m s

  -- there is room for the joins' names
  pub fits : s.next + m ≤ names_of c
  fits = omega (arith, visited.inv.room, formed.some)

  joins-done : Joined 1 m s t
  joins-done = joined m 1 s (omega (arith, fits, olong)) (omega (arith, fits, rlong))

  here : first_join c t ≡ s.next
  here = omega (arith, joins-done.next)

  abbrev u : State
  u = cut t s.next

  slots : (h : ℕ) → slot t h ≡ slot s h
  slots h = ap (λ (l : List ℕ). get_or l h 0) joins-done.qubits

  to-t : Keeps s t
  to-t = record { kept = λ h has. slots h; names = joins-done.names }

  to-u : Keeps s u
  to-u =
      record {
        kept = λ h has. slots h;
        names = λ q l. let o = joins-done.names q l in record { from = o.from; what = o.what };
      }

  had : (h : ℕ) → 1 ≤ slot t h → 1 ≤ slot s h
  had h a = rw (slots h) at a

  -- up to the joins the laws hold
  u-inv : Inv gs u
  u-inv =
      record {
        gates = rw joins-done.qubits visited.inv.gates;
        origins = omega (arith, joins-done.origins, visited.inv.origins);
        roles = omega (arith, joins-done.roles, visited.inv.roles);
        first = visited.inv.first;
        room = rw joins-done.qubits visited.inv.room;
        below = λ h. omega (arith, slots h, visited.inv.below h);
        placed = λ h a. placed-later to-u visited.inv.below h (nodes_of gs h) (had h a) (visited.inv.placed h (had h a));
        taken = λ q l h. taken-later to-u visited.inv.below gs q h (visited.inv.taken q l h);
      }

  s-full : (h : ℕ) → 1 ≤ slot s h → AllHave s (reads (nodes_of gs h))
  s-full h a = go (visited.full h a)
    where
      go : (1 ≤ slot (start c) h) ⊎ AllHave s (reads (nodes_of gs h)) → AllHave s (reads (nodes_of gs h))
      go (inl x) = absurd (omega (arith, start_none c h))
      go (inr x) = x

  s-unused : (q : ℕ) → (q < 2) ⊎ (t.next ≤ q) → Origin t q 0 0
  s-unused q (inl l) =
      then (joins-done.names q (omega (arith, visited.inv.first)))
      (then (visited.later.keeps.names q (omega (arith, start-long.2))) (start-unused q))
  s-unused q (inr l) =
      then (joins-done.beyond q (omega (arith, joins-done.next)))
      (then (visited.later.beyond q (omega (arith, joins-done.next))) (start-unused q))

  t-finished : Finished c t
  t-finished =
      record {
        gates = rw joins-done.qubits visited.inv.gates;
        origins = joins-done.origins ∙ olong;
        roles = joins-done.roles ∙ rlong;
        first = omega (arith, here, visited.inv.first);
        last = omega (arith, joins-done.next);
        at_most = omega (arith, fits, joins-done.next);
        room = rw (here, joins-done.qubits) visited.inv.room;
        reached = have-later to-t (roots c) visited.have;
        placed = λ h a. placed-later to-t visited.inv.below h (nodes_of gs h) (had h a) (visited.inv.placed h (had h a));
        full = λ h a. have-later to-t (reads (nodes_of gs h)) (s-full h (had h a));
        below = λ h. omega (arith, here, slots h, visited.inv.below h);
        taken = λ q l h. let k : q < s.next = omega (arith, here) in taken-later to-t visited.inv.below gs q k (visited.inv.taken q l k);
        steps = λ i l. rw here (joins-done.steps i l);
        unused = s-unused;
      }

-- the laws of the finished tables
pub finished : (c : Circuit) → Formed c → (t : State) → number c ≡ numbered t → Finished c t
finished c formed t e = let (s, f, g) = before-joins c t e in subst (λ (t : State). Finished c t) g (t-finished c formed s f)

-- Two qubits never share an origin: the gate and the role, or the join step, say which name it is.
module _ (c : Circuit) (t : State) (fin : Finished c t) where
  own-size : (d : Node) → size d ≤ 3
  own-size (fixed b) = omega arith
  own-size (free src) = omega arith
  own-size (op k x y z) = go (is_adder k)
    where
      go : (b : Bool) → suc (cond b 2 0) ≤ 3
      go true = omega arith
      go false = omega arith
  own-size (carry_of x) = omega arith

  -- the role tells a join's name from a gate's
  pub gate-role : (q : ℕ) → 2 ≤ q → q < first_join c t → role t q ≤ 3
  gate-role q l h = omega (arith, (fin.taken q l h).most, own-size (nodes_of c.gates (origin t q)))

  join-origin : (q : ℕ) → first_join c t ≤ q → q < t.next → Origin t q (1 + (q - first_join c t)) 4
  join-origin q l h =
      let e : first_join c t + (q - first_join c t) ≡ q = omega arith in
      rw e at (fin.steps (q - first_join c t) (omega (arith, fin.last)))

  pub one-origin : (p q : ℕ) → 2 ≤ p → p < t.next → 2 ≤ q → q < t.next → origin t p ≡ origin t q → role t p ≡ role t q → p ≡ q
  one-origin p q lp hp lq hq f w = go (dec_lt p (first_join c t)) (dec_lt q (first_join c t))
    where
      go : Dec (p < first_join c t) → Dec (q < first_join c t) → p ≡ q
      go (yes a) (yes b) =
          omega (arith, (fin.taken p lp a).entry, (fin.taken q lq b).entry, ap (slot t) f)
      go (yes a) (no b) = absurd (omega (arith, gate-role p lp a, (join-origin q (omega arith) hq).what))
      go (no a) (yes b) = absurd (omega (arith, gate-role q lq b, (join-origin p (omega arith) hp).what))
      go (no a) (no b) = omega (arith, (join-origin p (omega arith) hp).from, (join-origin q (omega arith) hq).from)

-- ---- demand 3

have-append : (t : State) (xs ys : List ℕ) → AllHave t (xs ++ ys) → AllHave t xs × AllHave t ys
have-append t [] ys a = (tt, a)
have-append t (x ∷ xs) ys a = let (p, q) = have-append t xs ys a.1 in ((a.0, p), q)

have-head : (t : State) (xs : List ℕ) → 1 ≤ length xs → AllHave t xs → (1 ≤ slot t (get_or xs 0 0)) × AllHave t (tail xs)
have-head t [] l a = absurd (omega arith)
have-head t (x ∷ xs) l a = (a.0, a.1)

length-gates : (bs : List Bad) → length (map (λ (b : Bad). b.gate) bs) ≡ length bs
length-gates [] = refl
length-gates (b ∷ bs) = ap suc (length-gates bs)

length-tail : (xs : List ℕ) → length (tail xs) ≡ length xs - 1
length-tail [] = refl
length-tail (x ∷ xs) = omega arith

-- the tables up to the joins
module _ (c : Circuit) (formed : Formed c) (t : State) (fin : Finished c t) where
  abbrev low : State
  low = cut t (first_join c t)

  to_low : Keeps t low
  to_low = record { kept = λ h a. refl; names = λ q l. record { from = refl; what = refl } }

  below_all : (h : ℕ) → slot t h ≤ t.next
  below_all h = omega (arith, fin.below h, fin.last)

  pub low-inv : Inv c.gates low
  low-inv =
      record {
        gates = fin.gates;
        origins = omega (arith, fin.origins, formed.some);
        roles = omega (arith, fin.roles, formed.some);
        first = fin.first;
        room = fin.room;
        below = fin.below;
        placed = λ h a. placed-later to_low below_all h (nodes_of c.gates h) a (fin.placed h a);
        taken = λ q l h. taken-later to_low below_all c.gates q (omega (arith, fin.last)) (fin.taken q l h);
      }

  -- the bad states are reached, the first and the others
  bads-have : (1 ≤ slot t (get_or (bad_gates c) 0 0)) × AllHave t (tail (bad_gates c))
  bads-have =
      have-head t (bad_gates c) (omega (arith, length-gates c.bads, formed.some))
      (have-append t (bad_gates c) (constraint_gates c) fin.reached).0

  -- What the finished tables say is a numbering, for every well-formed circuit that is not refused.
  pub numbering : Numbering (named_of c t)
  numbering =
      numbering-of c.gates formed.ordered low low-inv (λ h a. have-later to_low (reads (nodes_of c.gates h)) (fin.full h a))
      (get_or (bad_gates c) 0 0) (tail (bad_gates c)) t.next bads-have.0 (have-later to_low (tail (bad_gates c)) bads-have.1)
      (omega (arith, fin.last, length-tail (bad_gates c), length-gates c.bads))

  -- and the constraints' gates are reached
  pub constraints-in : AllIn (constraint_gates c) (named_of c t).reached
  constraints-in =
      all-reached c.gates formed.ordered low low-inv (constraint_gates c)
      (have-later to_low (constraint_gates c) (have-append t (bad_gates c) (constraint_gates c) fin.reached).1)

  -- ---- the rows in the order of the names

  abbrev N : Nodes
  N = nodes_of c.gates

  abbrev base : ℕ → ℕ
  base = base_of c.gates t

  named : (g : ℕ) → 1 ≤ slot t g → name N base g ≡ qubit_of t g
  named g has = name-is c.gates formed.ordered low low-inv g has

  gate-row : (q g : ℕ) (d : Node) → N g ≡ d → Placed t g d → slot t g ≡ q + 1 → gate_row t q d ≡ row_by N base g d
  gate-row q g (fixed b) e p f = refl
  gate-row q g (free src) e p f = refl
  gate-row q g (op k x y z) e p f =
      let o : q - more k ≡ base g = rw e (omega arith) in
      rw (named x p.1.has, named y p.2.has, named z p.3.has, ← o)
  gate-row q g (carry_of x) e p f = refl

  gates-agree : (m q : ℕ) → 2 ≤ q → q + m ≤ first_join c t → rows_from c t q m ≡ gate_rows N base (results_from t.origins t.roles q m)
  unfolding rows_from results_from
  gates-agree zero q l h = refl
  gates-agree (suc m) q l h = go (eqb (role t q) 1) refl (gates-agree m (suc q) (omega arith) (omega arith))
    where
      taken : Taken c.gates t q
      taken = fin.taken q l (omega arith)

      go : (b : Bool) → eqb (role t q) 1 ≡ b
          → rows_from c t (suc q) m ≡ gate_rows N base (results_from t.origins t.roles (suc q) m)
          → cond b (gate_row t q (N (origin t q))) (cond (eqb (role t q) 4) (join_row c t q (origin t q) ∷ []) []) ++ rows_from c t (suc q) m
          ≡ gate_rows N base (cons_if b (origin t q) (results_from t.origins t.roles (suc q) m))
      go true e rest =
          let w : role t q ≡ 1 = eqb-true (role t q) 1 e in
          let f : slot t (origin t q) ≡ q + 1 = rw w at taken.entry in
          rw (gate-row q (origin t q) (N (origin t q)) refl (fin.placed (origin t q) (omega arith)) f, rest)
      go false e rest =
          let w : eqb (role t q) 4 ≡ false = ne_eqb (role t q) 4 (λ z. omega (arith, gate-role c t fin q l (omega arith))) in
          rw w rest

  pub rows_split : (a b q : ℕ) → rows_from c t q (a + b) ≡ rows_from c t q a ++ rows_from c t (q + a) b
  unfolding rows_from
  rows_split zero b q = let x : 0 + b ≡ b = omega arith in let y : q + 0 ≡ q = omega arith in rw (x, y)
  rows_split (suc a) b q =
      let x : suc a + b ≡ suc (a + b) = omega arith in
      let y : q + suc a ≡ suc q + a = omega arith in
      rw (x, y, rows_split a b (suc q)) (sym (append_assoc (row_of c t q) (rows_from c t (suc q) a) (rows_from c t (suc q + a) b)))

  -- from join step 1 + i on, with the bad states ps left and the qubit `last` joined so far
  joins-agree : (ps : List ℕ) (i last : ℕ) → i + length ps ≤ joins_of c → AllHave t ps
      → ((k : ℕ) → k < length ps → get_or (bad_gates c) (1 + i + k) 0 ≡ get_or ps k 0)
      → cond (eqb (1 + i) 1) (qubit_of t (get_or (bad_gates c) 0 0)) (first_join c t + i - 1) ≡ last
      → rows_from c t (first_join c t + i) (length ps) ≡ joins last (first_join c t + i) (map (name N base) ps)
  unfolding rows_from
  joins-agree [] i last l a g e = refl
  joins-agree (p ∷ ps) i last l a g e =
      let q : ℕ = first_join c t + i in
      let o = fin.steps i (omega arith) in
      let w : eqb (role t (first_join c t + i)) 1 ≡ false = ne_eqb (role t (first_join c t + i)) 1 (λ z. omega (arith, o.what)) in
      let v : eqb (role t (first_join c t + i)) 4 ≡ true = eq-eqb (role t (first_join c t + i)) 4 o.what in
      let y : get_or (bad_gates c) (1 + i) 0 ≡ p = ap (λ (n : ℕ). get_or (bad_gates c) n 0) (omega arith) ∙ g 0 (omega arith) in
      let n : qubit_of t p ≡ name N base p = sym (named p a.0) in
      let z : suc (first_join c t + i) ≡ first_join c t + (i + 1) = omega arith in
      let u : eqb (1 + (i + 1)) 1 ≡ false = ne_eqb (1 + (i + 1)) 1 (λ z. omega arith) in
      let r : rows_from c t (suc (first_join c t + i)) (length ps) ≡ joins (first_join c t + i) (suc (first_join c t + i)) (map (name N base) ps) =
      rw z
      (joins-agree ps (i + 1) (first_join c t + i) (omega arith) a.1
      (λ k h. ap (λ (n : ℕ). get_or (bad_gates c) n 0) (omega arith) ∙ g (suc k) (omega arith)) (rw u (omega arith))) in
      rw (w, v, o.from, y, e, n, r)

  tail_at : (xs : List ℕ) (k : ℕ) → get_or xs (1 + 0 + k) 0 ≡ get_or (tail xs) k 0
  tail_at [] k = refl
  tail_at (x ∷ xs) k = let e : 1 + 0 + k ≡ suc k = omega arith in rw e

  -- The rows that the tables give in the order of the names are the rows of which demand 3 speaks.
  pub rows_agree : rows_of c t ≡ rows (named_of c t)
  unfolding rows_of
  rows_agree =
      let a : ℕ = first_join c t - 2 in
      let bs : List ℕ = tail (bad_gates c) in
      let b : length (tail (bad_gates c)) ≡ joins_of c = omega (arith, length-tail (bad_gates c), length-gates c.bads) in
      let f : 2 + (first_join c t - 2) ≡ first_join c t = omega (arith, fin.first) in
      let z : first_join c t + 0 ≡ first_join c t = omega arith in
      let l : t.next - 2 ≡ (first_join c t - 2) + length (tail (bad_gates c)) = omega (arith, fin.last, fin.first) in
      let g : rows_from c t 2 (first_join c t - 2) ≡ gate_rows N base (named_of c t).reached =
      gates-agree (first_join c t - 2) 2 (omega arith) (omega (arith, fin.first)) ∙ sym (own-rows c.gates formed.ordered low low-inv) in
      let j = joins-agree (tail (bad_gates c)) 0 (name N base (get_or (bad_gates c) 0 0)) (omega arith) bads-have.1
      (λ k h. tail_at (bad_gates c) k) (sym (named (get_or (bad_gates c) 0 0) bads-have.0)) in
      rw l (rows_split (first_join c t - 2) (length (tail (bad_gates c))) 2 ∙ ap₂ ◌++◌ g (rw f (rw z at j)))
