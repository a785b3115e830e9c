-- The laws of the visit: what the tables satisfy at any time (`Inv`), what a visit leaves as it was (`Later`), and what it reaches (`Full`).
-- Assumes nothing.
use Rattle.std.specs.Prelude.{◌≡◌, ◌⊎◌, Bool, cond, length, get_or}
use Rattle.std.proofs.Math.Path.{refl, ap}
use Rattle.std.proofs.Common.{sym, ◌∙◌, inr, arith, add-one, length-set, get_or-set_same}
use Rattle.std.proofs.Math.Logic.{inl}
use Rattle.std.proofs.Math.Bool.{true, false}
use mathlib.Core.List.{List, [], ◌∷◌}
use Prim.Native.Nat.{ℕ, zero, suc, ◌+◌, ◌*◌, ◌-◌, ◌≤◌, ◌<◌}
use Rattle.std.proofs.Math.Decide.{ℕ_discrete, dec_lt}
use Rattle.std.proofs.Math.ListN.{set}
use Rattle.std.proofs.Math.Seq.{get_or-set_other}
use Rattle.penalty.specs.Rule.{is_adder}
use Rattle.energy.specs.Plain.{more}
use Rattle.energy.specs.Circuit.{Gate, ConstFalse, ConstTrue, InputBit, Not, And, Nand, Or, Matriarch1, CarryHalfAdder, CarryFullAdder, ResultHalfAdder, ResultFullAdder, Quotient, Remainder, Node, fixed, free, op, carry_of, node, nodes_of, Before, AllBelow, IsAdder}
use Rattle.energy.specs.Numbering.{reads}
use Rattle.numbering.specs.State.{State, mk, slot, origin, role}
use Rattle.numbering.specs.Visit.{mark, choose, one_name, three_names, take, operands, each, process, visit_of, visits}
use Rattle.numbering.specs.Numbered.{size}
use Rattle.numbering.specs.Fuel.{operands-below, reads-below, visit-fresh, visit-had}

-- ---- what is kept

-- every gate of a list has a qubit
abbrev pub AllHave : State → List ℕ → Type 0
AllHave s [] = Unit
AllHave s (x ∷ xs) = (1 ≤ slot s x) × AllHave s xs

-- how many gates have no qubit
unfoldable pub zeros : List ℕ → ℕ
zeros [] = 0
zeros (zero ∷ l) = suc (zeros l)
zeros (suc n ∷ l) = zeros l

-- the tables say that g took the name q, as r
pub record Origin (s : State) (q g r : ℕ) : Type 0 where
  pub from : origin s q ≡ g
  pub what : role s q ≡ r

-- gate h took the n names before its entry, none of which is a constant's
pub record Took (s : State) (h n : ℕ) : Type 0 where
  pub new : n + 2 ≤ slot s h
  pub names : (r : ℕ) → 1 ≤ r → r ≤ n → Origin s (slot s h - r) h r

-- gate a has a qubit, and it comes before the first name of h, which takes m names beside its result
pub record Under (s : State) (a m h : ℕ) : Type 0 where
  pub has : 1 ≤ slot s a
  pub before : slot s a + m < slot s h

-- A gate that has a qubit has it by its node. Names rise: a gate with a penalty takes its names after its operands.
abbrev pub Placed : State → ℕ → Node → Type 0
Placed s h (fixed b) = slot s h ≡ cond b 2 1
Placed s h (free src) = Took s h 1
Placed s h (op k a b d) = Took s h (suc (more k)) × Under s a (more k) h × Under s b (more k) h × Under s d (more k) h
Placed s h (carry_of a) = (1 ≤ slot s a) × (slot s h + 1 ≡ slot s a)

-- The name q has an origin, a gate that takes so many names, and stands as far before that gate's entry as its role says. So no two gates share a name.
pub record Taken (gs : List Gate) (s : State) (q : ℕ) : Type 0 where
  pub some : 1 ≤ role s q
  pub most : role s q ≤ size (nodes_of gs (origin s q))
  pub entry : slot s (origin s q) ≡ q + role s q

-- What the tables keep to at any time.
pub record Inv (gs : List Gate) (s : State) : Type 0 where
  pub gates : length s.qubits ≡ length gs
  pub origins : 3 * length gs + 2 ≤ length s.origins
  pub roles : 3 * length gs + 2 ≤ length s.roles
  pub first : 2 ≤ s.next
  -- three names are left for each gate without a qubit
  pub room : s.next + 3 * zeros s.qubits ≤ 3 * length gs + 2
  pub below : (h : ℕ) → slot s h ≤ s.next
  pub placed : (h : ℕ) → 1 ≤ slot s h → Placed s h (nodes_of gs h)
  pub taken : (q : ℕ) → 2 ≤ q → q < s.next → Taken gs s q

-- From s to t: a gate that has a qubit keeps it, and a name that was taken keeps its origin.
pub record Keeps (s t : State) : Type 0 where
  pub kept : (h : ℕ) → 1 ≤ slot s h → slot t h ≡ slot s h
  pub names : (q : ℕ) → q < s.next → Origin t q (origin s q) (role s q)

-- And gates from n on get no qubit, names only rise, and one that is free now has no origin.
pub record Later (n : ℕ) (s t : State) : Type 0 where
  pub keeps : Keeps s t
  pub above : (h : ℕ) → n ≤ h → slot t h ≡ slot s h
  pub rises : s.next ≤ t.next
  pub beyond : (q : ℕ) → t.next ≤ q → Origin t q (origin s q) (role s q)
  pub origins : length t.origins ≡ length s.origins
  pub roles : length t.roles ≡ length s.roles

-- from s to t: what a division that was reached since then reads is reached too
abbrev pub Full : List Gate → State → State → Type 0
Full gs s t = (h : ℕ) → 1 ≤ slot t h → (1 ≤ slot s h) ⊎ AllHave t (reads (nodes_of gs h))

pub keeps-refl : (s : State) → Keeps s s
keeps-refl s = record { kept = λ h a. refl; names = λ q l. record { from = refl; what = refl } }

pub later_refl : (n : ℕ) (s : State) → Later n s s
later_refl n s =
    record {
      keeps = keeps-refl s;
      above = λ h a. refl;
      rises = omega arith;
      beyond = λ q l. record { from = refl; what = refl };
      origins = refl;
      roles = refl;
    }

pub later-wider : {m n : ℕ} {s t : State} → m ≤ n → Later m s t → Later n s t
later-wider le w =
    record {
      keeps = w.keeps;
      above = λ h a. w.above h (omega arith);
      rises = w.rises;
      beyond = w.beyond;
      origins = w.origins;
      roles = w.roles;
    }

origin-later : {s t : State} → Keeps s t → (q g r : ℕ) → q < s.next → Origin s q g r → Origin t q g r
origin-later w q g r l o = record { from = (w.names q l).from ∙ o.from; what = (w.names q l).what ∙ o.what }

pub later_trans : {m n : ℕ} {s t u : State} → m ≤ n → Later m s t → Later n t u → Later n s u
later_trans {s = s} le w z =
    record {
      keeps =
          record {
            kept = λ h a. z.keeps.kept h (rw (w.keeps.kept h a) a) ∙ w.keeps.kept h a;
            names = λ q l. origin-later z.keeps q (origin s q) (role s q) (omega (arith, w.rises)) (w.keeps.names q l);
          };
      above = λ h a. z.above h a ∙ w.above h (omega arith);
      rises = omega (arith, w.rises, z.rises);
      beyond = λ q l.
          let o = w.beyond q (omega (arith, z.rises)) in
          let p = z.beyond q l in
          record { from = p.from ∙ o.from; what = p.what ∙ o.what };
      origins = z.origins ∙ w.origins;
      roles = z.roles ∙ w.roles;
    }

pub have-later : {s t : State} → Keeps s t → (xs : List ℕ) → AllHave s xs → AllHave t xs
have-later w [] a = tt
have-later w (x ∷ xs) a = (rw (w.kept x a.0) a.0, have-later w xs a.1)

module _ {s t : State} (w : Keeps s t) (below : (h : ℕ) → slot s h ≤ s.next) where
  took-later : (h m : ℕ) → 1 ≤ slot s h → Took s h m → Took t h m
  took-later h m has p =
      record {
        new = rw (w.kept h has) p.new;
        names = λ r a b. rw (w.kept h has) (origin-later w (slot s h - r) h r (omega (arith, below h)) (p.names r a b));
      }

  under-later : (a m h : ℕ) → 1 ≤ slot s h → Under s a m h → Under t a m h
  under-later a m h has p =
      record { has = rw (w.kept a p.has) p.has; before = rw (w.kept a p.has, w.kept h has) p.before }

  pub placed-later : (h : ℕ) (d : Node) → 1 ≤ slot s h → Placed s h d → Placed t h d
  placed-later h (fixed b) has p = w.kept h has ∙ p
  placed-later h (free src) has p = took-later h 1 has p
  placed-later h (op k a b d) has p = (
    took-later h (suc (more k)) has p.0,
    under-later a (more k) h has p.1,
    under-later b (more k) h has p.2,
    under-later d (more k) h has p.3,
  )
  placed-later h (carry_of a) has p =
      (rw (w.kept a p.0) p.0, omega (arith, w.kept h has, w.kept a p.0, p.1))

  pub taken-later : (gs : List Gate) (q : ℕ) → q < s.next → Taken gs s q → Taken gs t q
  taken-later gs q l p =
      let o = w.names q l in
      let e = p.entry in
      let has : 1 ≤ slot s (origin s q) = omega (arith, p.some) in
      record {
        some = rw o.what p.some;
        most = rw (o.what, o.from) p.most;
        entry = rw (o.what, o.from) (w.kept (origin s q) has ∙ e);
      }

-- one gate fewer has no qubit
zeros-set : (l : List ℕ) (g q : ℕ) → g < length l → get_or l g 0 ≡ 0 → 1 ≤ q → zeros (set l g q) + 1 ≡ zeros l
unfolding zeros
zeros-set [] g q h e p = absurd (omega arith)
zeros-set (zero ∷ l) zero zero h e p = absurd (omega arith)
zeros-set (zero ∷ l) zero (suc q) h e p = add-one (zeros l)
zeros-set (suc x ∷ l) zero q h e p = absurd (omega arith)
zeros-set (zero ∷ l) (suc g) q h e p = omega (arith, zeros-set l g q (omega arith) e p)
zeros-set (suc x ∷ l) (suc g) q h e p = zeros-set l g q (omega arith) e p

-- three entries of a list, one after the other
abbrev three : List ℕ → ℕ → ℕ → ℕ → ℕ → List ℕ
three l n x y z = set (set (set l n x) (n + 1) y) (n + 1 + 1) z

three-other : (l : List ℕ) (n x y z k : ℕ) → (k < n) ⊎ (n + 1 + 1 + 1 ≤ k) → get_or (three l n x y z) k 0 ≡ get_or l k 0
three-other l n x y z k far =
    get_or-set_other (set (set l n x) (n + 1) y) (n + 1 + 1) k z 0 (not 2 (omega arith) (n + 1 + 1) (omega arith) far)
    ∙ get_or-set_other (set l n x) (n + 1) k y 0 (not 1 (omega arith) (n + 1) (omega arith) far)
    ∙ get_or-set_other l n k x 0 (not 0 (omega arith) n (omega arith) far)
  where
    not : (i : ℕ) → i ≤ 2 → (p : ℕ) → p ≡ n + i → (k < n) ⊎ (n + 1 + 1 + 1 ≤ k) → k ≡ p → ⊥
    not i h p f (inl l) e = omega arith
    not i h p f (inr l) e = omega arith

three-first : (l : List ℕ) (n x y z : ℕ) → n + 3 ≤ length l → get_or (three l n x y z) n 0 ≡ x
three-first l n x y z fits =
    get_or-set_other (set (set l n x) (n + 1) y) (n + 1 + 1) n z 0 (λ e. omega arith)
    ∙ get_or-set_other (set l n x) (n + 1) n y 0 (λ e. omega arith)
    ∙ get_or-set_same l n x 0 (omega arith)

three-mid : (l : List ℕ) (n x y z : ℕ) → n + 3 ≤ length l → get_or (three l n x y z) (n + 1) 0 ≡ y
three-mid l n x y z fits =
    get_or-set_other (set (set l n x) (n + 1) y) (n + 1 + 1) (n + 1) z 0 (λ e. omega arith)
    ∙ get_or-set_same (set l n x) (n + 1) y 0 (simp length-set (omega arith))

three-last : (l : List ℕ) (n x y z : ℕ) → n + 3 ≤ length l → get_or (three l n x y z) (n + 1 + 1) 0 ≡ z
three-last l n x y z fits = get_or-set_same (set (set l n x) (n + 1) y) (n + 1 + 1) z 0 (simp length-set (omega arith))

-- what a gate asks of its operands before it takes its names
abbrev pub Ops : State → Node → Type 0
Ops s (fixed b) = Unit
Ops s (free src) = Unit
Ops s (op k a b d) = (1 ≤ slot s a) × (1 ≤ slot s b) × (1 ≤ slot s d)
Ops s (carry_of a) = 1 ≤ slot s a

pub ops-have : (s : State) (gate : Gate) → AllHave s (operands gate) → Ops s (node gate)
ops-have s ConstFalse a = search (tt, a)
ops-have s ConstTrue a = search (tt, a)
ops-have s InputBit a = search (tt, a)
ops-have s (Not x) a = search (tt, a)
ops-have s (And x y) a = search (tt, a)
ops-have s (Nand x y) a = search (tt, a)
ops-have s (Or x y) a = search (tt, a)
ops-have s (Matriarch1 x y) a = search (tt, a)
ops-have s (CarryHalfAdder x) a = search (tt, a)
ops-have s (CarryFullAdder x) a = search (tt, a)
ops-have s (ResultHalfAdder x y) a = search (tt, a)
ops-have s (ResultFullAdder x y z) a = search (tt, a)
ops-have s (Quotient i n d) a = search (tt, a)
ops-have s (Remainder i n d) a = search (tt, a)

-- an adder that has a qubit took three names
pub adder-took : (s : State) (a : ℕ) (d : Node) → IsAdder d → Placed s a d → Took s a 3
adder-took s a (fixed b) h p = absurd h
adder-took s a (free src) h p = absurd h
adder-took s a (op k x y z) h p = rw h at p.0
adder-took s a (carry_of x) h p = absurd h

-- ---- one gate takes its names

abbrev pub Went : List Gate → ℕ → State → State → Type 0
Went gs g s t = Inv gs t × Later (suc g) s t × (1 ≤ slot t g)

module _ (gs : List Gate) (g : ℕ) (s : State) (inv : Inv gs s) (inside : g < length gs) (none : slot s g ≡ 0) where
  pub within : g < length s.qubits
  within = omega (arith, inv.gates)

  -- a gate with no qubit has room for three names
  pub three-free : s.next + 3 ≤ 3 * length gs + 2
  three-free = omega (arith, inv.room, zeros-set s.qubits g 1 within none (omega arith))

  -- g's entry becomes q, and the names from `next` to n are its own
  module _ (q : ℕ) (o r : List ℕ) (n : ℕ)
      (ol : length o ≡ length s.origins) (rl : length r ≡ length s.roles) (some : 1 ≤ q) (given : q ≤ n)
      (more : s.next ≤ n) (at_most : n ≤ s.next + 3)
      (old_from : (x : ℕ) → (x < s.next) ⊎ (n ≤ x) → get_or o x 0 ≡ origin s x)
      (old_role : (x : ℕ) → (x < s.next) ⊎ (n ≤ x) → get_or r x 0 ≡ role s x)
      (fresh : (x : ℕ) → s.next ≤ x → x < n → Taken gs (mk (set s.qubits g q) o r n) x)
      (own : Placed (mk (set s.qubits g q) o r n) g (nodes_of gs g)) where
    abbrev after : State
    after = mk (set s.qubits g q) o r n

    here : slot after g ≡ q
    here = get_or-set_same s.qubits g q 0 within

    there : (h : ℕ) → (h ≡ g → ⊥) → slot after h ≡ slot s h
    there h ne = get_or-set_other s.qubits g h q 0 ne

    later : Later (suc g) s after
    later =
        record {
          keeps =
              record {
                kept = λ h has. there h (λ e. omega (arith, ap (slot s) e));
                names = λ x l. record { from = old_from x (inl l); what = old_role x (inl l) };
              };
          above = λ h a. there h (λ e. omega arith);
          rises = more;
          beyond = λ x l. record { from = old_from x (inr l); what = old_role x (inr l) };
          origins = ol;
          roles = rl;
        }

    below_at : (h : ℕ) → Dec (h ≡ g) → slot after h ≤ n
    below_at h (yes e) = rw (e, here) given
    below_at h (no ne) = rw (there h ne) (omega (arith, inv.below h))

    placed_at : (h : ℕ) → Dec (h ≡ g) → 1 ≤ slot after h → Placed after h (nodes_of gs h)
    placed_at h (yes e) has = rw e own
    placed_at h (no ne) has =
        let had : 1 ≤ slot s h = rw (there h ne) at has in
        placed-later later.keeps inv.below h (nodes_of gs h) had (inv.placed h had)

    taken_at : (x : ℕ) → 2 ≤ x → x < n → Dec (x < s.next) → Taken gs after x
    taken_at x l u (yes a) = taken-later later.keeps inv.below gs x a (inv.taken x l a)
    taken_at x l u (no a) = fresh x (omega arith) u

    marked : Went gs g s after
    marked = (
      record {
        gates = length-set s.qubits g q ∙ inv.gates;
        origins = rw ol inv.origins;
        roles = rw rl inv.roles;
        first = omega (arith, inv.first);
        room = omega (arith, inv.room, zeros-set s.qubits g q within none some);
        below = λ h. below_at h (ℕ_discrete h g);
        placed = λ h. placed_at h (ℕ_discrete h g);
        taken = λ x l u. taken_at x l u (dec_lt x s.next);
      },
      later,
      rw here some,
    )

  -- g takes the m names from `next` on, and its entry is the next free name then
  module _ (m n : ℕ) (o r : List ℕ) (long : n ≡ s.next + m)
      (given : (x : ℕ) → 1 ≤ x → x ≤ m → (get_or o (n - x) 0 ≡ g) × (get_or r (n - x) 0 ≡ x)) where
    abbrev named : State
    named = mk (set s.qubits g n) o r n

    entry : slot named g ≡ n
    entry = get_or-set_same s.qubits g n 0 within

    took-new : Took named g m
    took-new =
        record {
          new = rw entry (omega (arith, inv.first));
          names = λ x a b. rw entry (record { from = (given x a b).0; what = (given x a b).1 });
        }

    taken-new : m ≤ size (nodes_of gs g) → (x : ℕ) → s.next ≤ x → x < n → Taken gs named x
    taken-new fits x l u =
        let e : n - (n - x) ≡ x = omega arith in
        let i = given (n - x) (omega arith) (omega arith) in
        let f : origin named x ≡ g = rw e at i.0 in
        let w : role named x ≡ n - x = rw e at i.1 in
        record { some = rw w (omega arith); most = rw (w, f) (omega arith); entry = rw (w, f, entry) (omega arith) }

    under-new : (a k : ℕ) → suc k ≡ m → 1 ≤ slot s a → Under named a k g
    under-new a k e has =
        let same : slot named a ≡ slot s a = get_or-set_other s.qubits g a n 0 (λ e. omega (arith, ap (slot s) e)) in
        record { has = rw same has; before = rw (same, entry) (omega (arith, inv.below a)) }

  one-given : (x : ℕ) → 1 ≤ x → x ≤ 1
      → (get_or (set s.origins s.next g) (s.next + 1 - x) 0 ≡ g) × (get_or (set s.roles s.next 1) (s.next + 1 - x) 0 ≡ x)
  one-given x a b =
      let e : x ≡ 1 = omega arith in
      let z : s.next + 1 - 1 ≡ s.next = omega arith in
      rw (e, z) (
        get_or-set_same s.origins s.next g 0 (omega (arith, inv.origins, three-free)),
        get_or-set_same s.roles s.next 1 0 (omega (arith, inv.roles, three-free)),
      )

  one-other : (x : ℕ) → (x < s.next) ⊎ (s.next + 1 ≤ x) → x ≡ s.next → ⊥
  one-other x (inl l) e = omega arith
  one-other x (inr l) e = omega arith

  -- one name
  pub one-went : 1 ≤ size (nodes_of gs g)
      → (Took (one_name g s) g 1 → ((a : ℕ) → 1 ≤ slot s a → Under (one_name g s) a 0 g) → Placed (one_name g s) g (nodes_of gs g))
      → Went gs g s (one_name g s)
  unfolding one_name
  one-went fits own =
      let o : List ℕ = set s.origins s.next g in
      let r : List ℕ = set s.roles s.next 1 in
      marked (s.next + 1) o r (s.next + 1)
      (length-set s.origins s.next g) (length-set s.roles s.next 1) (omega arith) (omega arith) (omega arith) (omega arith)
      (λ x l. get_or-set_other s.origins s.next x g 0 (one-other x l))
      (λ x l. get_or-set_other s.roles s.next x 1 0 (one-other x l))
      (taken-new 1 (s.next + 1) o r refl one-given fits)
      (own (took-new 1 (s.next + 1) o r refl one-given) (λ a. under-new 1 (s.next + 1) o r refl one-given a 0 refl))

  abbrev end : ℕ
  end = s.next + 1 + 1 + 1

  three-given : (x : ℕ) → 1 ≤ x → x ≤ 3
      → (get_or (three s.origins s.next g g g) (end - x) 0 ≡ g) × (get_or (three s.roles s.next 3 2 1) (end - x) 0 ≡ x)
  three-given x a b = go (ℕ_discrete x 1) (ℕ_discrete x 2)
    where
      ofits : s.next + 3 ≤ length s.origins
      ofits = omega (arith, inv.origins, three-free)

      rfits : s.next + 3 ≤ length s.roles
      rfits = omega (arith, inv.roles, three-free)

      at : (y : ℕ) → end - x ≡ y → (get_or (three s.origins s.next g g g) y 0 ≡ g) × (get_or (three s.roles s.next 3 2 1) y 0 ≡ x)
          → (get_or (three s.origins s.next g g g) (end - x) 0 ≡ g) × (get_or (three s.roles s.next 3 2 1) (end - x) 0 ≡ x)
      at y e p = rw e p

      go : Dec (x ≡ 1) → Dec (x ≡ 2)
          → (get_or (three s.origins s.next g g g) (end - x) 0 ≡ g) × (get_or (three s.roles s.next 3 2 1) (end - x) 0 ≡ x)
      go (yes e) d =
          at (s.next + 1 + 1) (omega arith)
          (three-last s.origins s.next g g g ofits, three-last s.roles s.next 3 2 1 rfits ∙ sym e)
      go (no n) (yes e) =
          at (s.next + 1) (omega arith)
          (three-mid s.origins s.next g g g ofits, three-mid s.roles s.next 3 2 1 rfits ∙ sym e)
      go (no n) (no m) =
          at s.next (omega arith)
          (three-first s.origins s.next g g g ofits, three-first s.roles s.next 3 2 1 rfits ∙ omega arith)

  -- aux, carry and result
  three-went : 3 ≤ size (nodes_of gs g)
      → (Took (three_names g s) g 3 → ((a : ℕ) → 1 ≤ slot s a → Under (three_names g s) a 2 g) → Placed (three_names g s) g (nodes_of gs g))
      → Went gs g s (three_names g s)
  unfolding three_names
  three-went fits own =
      let o : List ℕ = three s.origins s.next g g g in
      let r : List ℕ = three s.roles s.next 3 2 1 in
      marked end o r end (simp length-set) (simp length-set) (omega arith) (omega arith) (omega arith) (omega arith)
      (λ x l. three-other s.origins s.next g g g x l)
      (λ x l. three-other s.roles s.next 3 2 1 x l)
      (taken-new 3 end o r (omega arith) three-given fits)
      (own (took-new 3 end o r (omega arith) three-given) (λ a. under-new 3 end o r (omega arith) three-given a 2 refl))

  -- no name: the entry is one that was given before
  mark-went : (q : ℕ) → 1 ≤ q → q ≤ s.next → Placed (mark g q s) g (nodes_of gs g) → Went gs g s (mark g q s)
  mark-went q some given own =
      marked q s.origins s.roles s.next refl refl some given (omega arith) (omega arith)
      (λ x l. refl) (λ x l. refl) (λ x l u. absurd (omega arith)) own

  -- what a gate does with names keeps the laws
  pub take-went : (d : Node) → nodes_of gs g ≡ d → Before (nodes_of gs) g d → Ops s d → Went gs g s (take g d s)
  unfolding take
  take-went (fixed true) e bf ops =
      mark-went 2 (omega arith) inv.first (rw e (get_or-set_same s.qubits g 2 0 within))
  take-went (fixed false) e bf ops =
      mark-went 1 (omega arith) (omega (arith, inv.first)) (rw e (get_or-set_same s.qubits g 1 0 within))
  take-went (free src) e bf ops = one-went (rw e (omega arith)) (λ t u. rw e t)
  take-went (op k a b d) e bf ops = go (is_adder k) refl
    where
      go : (x : Bool) → is_adder k ≡ x → Went gs g s (choose x (three_names g) (one_name g) s)
      go true f =
          let m : more k ≡ 2 = rw f in
          three-went (rw (e, m) (omega arith)) (λ t u. rw (e, m) (t, u a ops.0, u b ops.1, u d ops.2))
      go false f =
          let m : more k ≡ 0 = rw f in
          one-went (rw (e, m) (omega arith)) (λ t u. rw (e, m) (t, u a ops.0, u b ops.1, u d ops.2))
  take-went (carry_of a) e bf ops =
      let t : Took s a 3 = adder-took s a (nodes_of gs a) bf.1 (inv.placed a ops) in
      let big : 5 ≤ slot s a = t.new in
      mark-went (slot s a - 1) (omega arith) (omega (arith, inv.below a)) (rw e (
        rw (get_or-set_other s.qubits g a (slot s a - 1) 0 (λ f. omega (arith, ap (slot s) f))) ops,
        rw (get_or-set_same s.qubits g (slot s a - 1) 0 within, get_or-set_other s.qubits g a (slot s a - 1) 0 (λ f. omega (arith, ap (slot s) f))) (omega arith),
      ))

-- another gate's entry stays as it was
pub take-there : (g : ℕ) (d : Node) (s : State) (h : ℕ) → (h ≡ g → ⊥) → slot (take g d s) h ≡ slot s h
unfolding take one_name three_names
take-there g (fixed b) s h ne = get_or-set_other s.qubits g h (cond b 2 1) 0 ne
take-there g (free src) s h ne = get_or-set_other s.qubits g h (s.next + 1) 0 ne
take-there g (op k a b d) s h ne = go (is_adder k)
  where
    go : (x : Bool) → slot (choose x (three_names g) (one_name g) s) h ≡ slot s h
    go true = get_or-set_other s.qubits g h (s.next + 1 + 1 + 1) 0 ne
    go false = get_or-set_other s.qubits g h (s.next + 1) 0 ne
take-there g (carry_of a) s h ne = get_or-set_other s.qubits g h (slot s a - 1) 0 ne

-- ---- a visit

-- From s to t, gates below n were visited, those of xs among them: the laws hold, and what a reached gate needs is reached.
pub record Visited (gs : List Gate) (n : ℕ) (xs : List ℕ) (s t : State) : Type 0 where
  pub inv : Inv gs t
  pub later : Later n s t
  pub have : AllHave t xs
  pub full : Full gs s t

pub full-trans : (gs : List Gate) {n : ℕ} (s t u : State) → Full gs s t → Later n t u → Full gs t u → Full gs s u
full-trans gs s t u a w b h has = go (b h has)
  where
    early : (1 ≤ slot s h) ⊎ AllHave t (reads (nodes_of gs h)) → (1 ≤ slot s h) ⊎ AllHave u (reads (nodes_of gs h))
    early (inl x) = inl x
    early (inr x) = inr (have-later w.keeps (reads (nodes_of gs h)) x)

    go : (1 ≤ slot t h) ⊎ AllHave u (reads (nodes_of gs h)) → (1 ≤ slot s h) ⊎ AllHave u (reads (nodes_of gs h))
    go (inl x) = early (a h x)
    go (inr x) = inr x

module _ (gs : List Gate) where
  abbrev pub Visits : (ℕ → State → State) → ℕ → Type 0
  Visits v g = (s : State) → Inv gs s → Visited gs (suc g) (g ∷ []) s (v g s)

  module _ (v : ℕ → State → State) (n : ℕ) (fine : (x : ℕ) → x < n → Visits v x) where
    pub each-visited : (xs : List ℕ) → AllBelow n xs → (s : State) → Inv gs s → Visited gs n xs s (each v xs s)
    unfolding each
    each-visited [] b s inv = record { inv = inv; later = later_refl n s; have = tt; full = λ h has. inl has }
    each-visited (x ∷ xs) b s inv =
        let one = fine x b.0 s inv in
        let rest = each-visited xs b.1 (v x s) one.inv in
        record {
          inv = rest.inv;
          later = later_trans b.0 one.later rest.later;
          have = ((have-later rest.later.keeps (x ∷ []) one.have).0, rest.have);
          full = full-trans gs s (v x s) (each v xs (v x s)) one.full rest.later rest.full;
        }

    -- a gate with no qubit is processed
    module _ (s : State) (inv : Inv gs s) (inside : n < length gs) (none : slot s n ≡ 0) (bf : Before (nodes_of gs) n (nodes_of gs n)) where
      abbrev gate : Gate
      gate = get_or gs n ConstFalse

      pub first-visited : Visited gs n (operands gate) s (each v (operands gate) s)
      first-visited = each-visited (operands gate) (operands-below (nodes_of gs) n gate bf) s inv

      pub still-none : slot (each v (operands gate) s) n ≡ 0
      still-none = first-visited.later.above n (omega arith) ∙ none

      pub took : Went gs n (each v (operands gate) s) (take n (node gate) (each v (operands gate) s))
      took =
          take-went gs n (each v (operands gate) s) first-visited.inv inside still-none (node gate) refl bf
          (ops-have (each v (operands gate) s) gate first-visited.have)

      pub process-visited : Visited gs (suc n) (n ∷ []) s (process v n gate s)
      unfolding process
      process-visited =
          record {
            inv = rest.inv;
            later = later_trans (omega arith) first-visited.later (later_trans (omega arith) took.1 (later-wider (omega arith) rest.later));
            have = have-later rest.later.keeps (n ∷ []) (took.2, tt);
            full = λ h has. whole h (rest.full h has) (ℕ_discrete h n);
          }
        where
          s₁ : State
          s₁ = each v (operands gate) s

          s₂ : State
          s₂ = take n (node gate) s₁

          s₃ : State
          s₃ = each v (reads (node gate)) s₂

          rest : Visited gs n (reads (node gate)) s₂ s₃
          rest = each-visited (reads (node gate)) (reads-below (nodes_of gs) n (node gate) bf) s₂ took.0

          since : Later (suc n) s₁ s₃
          since = later_trans (omega arith) took.1 (later-wider (omega arith) rest.later)

          early : (h : ℕ) → (1 ≤ slot s h) ⊎ AllHave s₁ (reads (nodes_of gs h)) → (1 ≤ slot s h) ⊎ AllHave s₃ (reads (nodes_of gs h))
          early h (inl x) = inl x
          early h (inr x) = inr (have-later since.keeps (reads (nodes_of gs h)) x)

          whole : (h : ℕ) → (1 ≤ slot s₂ h) ⊎ AllHave s₃ (reads (nodes_of gs h)) → Dec (h ≡ n) → (1 ≤ slot s h) ⊎ AllHave s₃ (reads (nodes_of gs h))
          whole h (inr x) d = inr x
          whole h (inl x) (yes e) = inr (rw e rest.have)
          whole h (inl x) (no ne) = early h (first-visited.full h (rw (take-there n (node gate) s₁ h ne) at x))

  module _ (ordered : (g : ℕ) → Before (nodes_of gs) g (nodes_of gs g)) where
    visited-below : (n g : ℕ) → g < n → g < length gs → Visits (visit_of gs) g
    visited-below zero g gn g_in s inv = absurd (omega arith)
    visited-below (suc n) g gn g_in s inv = go (ℕ_discrete (slot s g) 0) (λ x xg. visited-below n x (omega arith) (omega arith))
      where
        go : Dec (slot s g ≡ 0) → ((x : ℕ) → x < g → Visits (visit_of gs) x) → Visited gs (suc g) (g ∷ []) s (visit_of gs g s)
        go (yes e) fine = rw (visit-fresh gs ordered g s e) (process-visited (visit_of gs) g fine s inv g_in e (ordered g))
        go (no n) fine =
            rw (visit-had gs ordered g s n)
            (record { inv = inv; later = later_refl (suc g) s; have = (omega arith, tt); full = λ h has. inl has })

    -- What a visit does: the laws hold after it, a gate that has a qubit keeps it, later gates are left alone, and g and all that it needs are reached.
    pub visit-visited : (g : ℕ) → g < length gs → Visits (visit_of gs) g
    visit-visited g g_in = visited-below (suc g) g (omega arith) g_in

    -- the same of a list of gates, one after the other
    pub visits-visited : (xs : List ℕ) → AllBelow (length gs) xs → (s : State) → Inv gs s → Visited gs (length gs) xs s (visits gs xs s)
    visits-visited = each-visited (visit_of gs) (length gs) visit-visited
