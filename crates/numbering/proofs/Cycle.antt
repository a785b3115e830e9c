-- The plain mathematics of the cycle of calls: what its needs ask, said of states and not of places in the code. What a fact shows is implicit in each, so
-- that a need is a short application. b are the circuit's bytes and l the lists' starts.
--     from-process, had       the two returns of `visit`
--     Stage, entered, then    a gate in `process`: from the state s, whose gate g is to be processed, the tables have come to `have`, which should be `want`
--     name-asked, list-first, list-second, divided      `process` at a division
--     operands-asked, finish-asked, finished            `process` at any other gate
--     answer                  what `process` returns
--     Going, going_start, loop-asked, going_on, going_end    a loop that visits the gates of a list: what is left to do from here is what there was to do
-- Assumes nothing.
use mathlib.Core.Path.{◌≡◌, refl, sym, ◌∙◌}
use mathlib.Core.Bool.{Bool, true, false}
use mathlib.Core.List.{List, [], ◌∷◌, ◌++◌}
use Prim.Native.Nat.{ℕ, suc, ◌+◌, ◌*◌, ◌-◌, ◌≤◌, ◌<◌}
use native.Mathlib.Nat.{sub-eq-zero_of_le, sub-zero}
use native.Mathlib.Numerals.{add-one}
use native.Mathlib.Omega.{arith}
use lib.ListN.{length, get_or}
use Rattle.energy.specs.Circuit.{ConstFalse, nodes_of, AllBelow}
use Rattle.circuit.specs.File.{field, kind_at}
use Rattle.circuit.specs.Count.{range}
use Rattle.circuit.specs.Meaning.{list_of, gate_of}
use Rattle.numbering_gate.specs.declared.Act.{Act}
use Rattle.numbering.specs.State.{State, slot}
use Rattle.numbering.specs.Visit.{one_name, each, visit_of, process_of, visits}
use Rattle.numbering.specs.Fuel.{operands-below, reads-below, visit-fresh, visit-had}
use Rattle.numbering.specs.Laws.{AllHave, Inv, Visited, Visits, within, three-free, each-visited, took, process-visited, visit-visited}
use Rattle.numbering.specs.Read.{arity, act_of, is_division, finish, fields_from, gates_from, gates_in, ListAt, Ready, Fresh, Room, CanFinish, Answer}
use Rattle.numbering.proofs.Ways.{arity-three, share-one, operands_of, divides, gate-is, division-way, other_way}

-- `visit`

pub from-process : {b l : List ℕ} {g : ℕ} {s t : State} {q : ℕ} → Ready b l s → slot s g ≡ 0 → Answer g q t (process_of (gates_in b) g s) → Answer g q t (visit_of (gates_in b) g s)
from-process {b} {g = g} {s} r e a = rw (visit-fresh (gates_in b) r.ordered g s e) a

pub had : {b l : List ℕ} {g : ℕ} {s : State} → Ready b l s → (slot s g ≡ 0 → ⊥) → Answer g (slot s g - 1) s (visit_of (gates_in b) g s)
had {b} {g = g} {s} r n = record { tables = sym (visit-had (gates_in b) r.ordered g s n); qubit = omega arith }

-- the tables after a visit are ready for the next
pub ready_with : {b l : List ℕ} {s t : State} → Ready b l s → Inv (gates_in b) t → Ready b l t
ready_with r i = record { laid = r.laid; ordered = r.ordered; small = r.small; inv = i }

-- `process`: m is its measure and d whether the gate is a division

pub record Stage (b l : List ℕ) (g : ℕ) (d : Bool) (m : ℕ) (s want have : State) : Type 0 where
  pub ready : Ready b l s
  pub fresh : Fresh b g s
  pub division : is_division (act_of (kind_at b g)) ≡ d
  pub measure : 3 * g + 1 ≡ m
  pub same : have ≡ want

pub then : {b l : List ℕ} {g : ℕ} {d : Bool} {m : ℕ} {s w h want have : State} → Stage b l g d m s w h → have ≡ want → Stage b l g d m s want have
then z e = record { ready = z.ready; fresh = z.fresh; division = z.division; measure = z.measure; same = e }

-- where `process` starts: `act` is what the gate does, and d whether that is a division, as the code read them
pub entered : {b l : List ℕ} {g m : ℕ} {act : Act} {c d : Bool} {s : State} → Ready b l s → Fresh b g s → act ≡ act_of (kind_at b g) → c ≡ is_division act
    → c ≡ d → 3 * g + 1 ≡ m → Stage b l g d m s s s
entered r f a e d m = record { ready = r; fresh = f; division = cc; measure = m; same = refl }

module _ {b l : List ℕ} {g m : ℕ} {d : Bool} {s w h : State} (z : Stage b l g d m s w h) where
  fine : (x : ℕ) → x < g → Visits (gates_in b) (visit_of (gates_in b)) x
  fine x xg = visit-visited (gates_in b) z.ready.ordered x (omega (arith, z.fresh.gate))

  pub record-there : 16 * (g + 1) ≤ length b
  record-there = omega (arith, z.ready.laid.whole, z.fresh.gate)

  fits : s.next + 3 ≤ 3 * length (gates_in b) + 2
  fits = three-free (gates_in b) g s z.ready.inv z.fresh.gate z.fresh.none

  pub name-asked : Room s g 1
  name-asked =
      record {
        gate = within (gates_in b) g s z.ready.inv z.fresh.gate z.fresh.none;
        origins = omega (arith, fits, z.ready.inv.origins);
        roles = omega (arith, fits, z.ready.inv.roles);
        small = omega (arith, fits, z.ready.small);
      }

  -- the gate, as the bytes have it
  is-gate : get_or (gates_in b) g ConstFalse ≡ gate_of b (kind_at b g) g
  is-gate = gate-is b l z.ready.laid g z.fresh.gate

  processed : Visited (gates_in b) (suc g) (g ∷ []) s (process_of (gates_in b) g s)
  processed = process-visited (gates_in b) (visit_of (gates_in b)) g fine s z.ready.inv z.fresh.gate z.fresh.none (z.ready.ordered g)

-- whatever way the tables came to what they should be
pub answer : {b l : List ℕ} {g m : ℕ} {d : Bool} {s t : State} → Stage b l g d m s (process_of (gates_in b) g s) t
    → (g < length t.qubits) × (1 ≤ slot t g) × Answer g (slot t g - 1) t (process_of (gates_in b) g s)
answer {b} {g = g} {s = s} {t} z =
    let w = processed z in
    let has : 1 ≤ slot t g = rw z.same w.have.0 in
    let long : length t.qubits ≡ length (gates_in b) = rw z.same w.inv.gates in
    (omega (arith, z.fresh.gate), has, record { tables = z.same; qubit = omega arith })

-- a division

below-append : (g : ℕ) (xs ys : List ℕ) → AllBelow g (xs ++ ys) → AllBelow g xs × AllBelow g ys
below-append g [] ys b = (tt, b)
below-append g (x ∷ xs) ys b = let (p, q) = below-append g xs ys b.1 in ((b.0, p), q)

module _ {b l : List ℕ} {g m : ℕ} {s w h : State} (z : Stage b l g true m s w h) where
  listed : AllBelow g (list_of b (field b g 0)) × AllBelow g (list_of b (field b g 1))
  listed =
      let (o, t, r) = divides b g (kind_at b g) z.division s in
      below-append g (list_of b (field b g 0)) (list_of b (field b g 1))
      (rw (is-gate z, r) at (reads-below (nodes_of (gates_in b)) g (nodes_of (gates_in b) g) (z.ready.ordered g)))

  named-inv : Inv (gates_in b) (one_name g s)
  unfolding each
  named-inv =
      let (o, t, r) = divides b g (kind_at b g) z.division s in
      rw (is-gate z, o, t) at
      (took (gates_in b) (visit_of (gates_in b)) g (fine z) s z.ready.inv z.fresh.gate z.fresh.none (z.ready.ordered g)).0

-- k is the list's number as the code read it
pub list-first : {b l : List ℕ} {g m k : ℕ} {s t : State} → Stage b l g true m s (one_name g s) t → k ≡ field b g 0
    → (3 * g < m) × (Ready b l t × (g < length (gates_in b)) × ListAt b l k × AllBelow g (list_of b k))
list-first {g = g} z e = (
  omega (arith, z.measure),
  (rw z.same (ready_with z.ready (named-inv z)), z.fresh.gate, rw e (z.ready.laid.dividend g z.fresh.gate z.division), rw e (listed z).0),
)

pub list-second : {b l : List ℕ} {g m k : ℕ} {s t : State} → Stage b l g true m s (visits (gates_in b) (list_of b (field b g 0)) (one_name g s)) t → k ≡ field b g 1
    → (3 * g < m) × (Ready b l t × (g < length (gates_in b)) × ListAt b l k × AllBelow g (list_of b k))
list-second {b} {g = g} {s = s} z e =
    let w = each-visited (gates_in b) (visit_of (gates_in b)) g (fine z) (list_of b (field b g 0)) (listed z).0 (one_name g s) (named-inv z) in (
      omega (arith, z.measure),
      (rw z.same (ready_with z.ready w.inv), z.fresh.gate, rw e (z.ready.laid.divisor g z.fresh.gate z.division), rw e (listed z).1),
    )

pub listed-first : {b l : List ℕ} {g m k : ℕ} {s t u : State} → Stage b l g true m s (one_name g s) t → k ≡ field b g 0 → u ≡ visits (gates_in b) (list_of b k) t
    → Stage b l g true m s (visits (gates_in b) (list_of b (field b g 0)) (one_name g s)) u
listed-first z ek e = then z (rw (ek, z.same) at e)

pub divided : {b l : List ℕ} {g m k : ℕ} {s t u : State} → Stage b l g true m s (visits (gates_in b) (list_of b (field b g 0)) (one_name g s)) t → k ≡ field b g 1
    → u ≡ visits (gates_in b) (list_of b k) t → Stage b l g true m s (process_of (gates_in b) g s) u
divided {b} {l} {g} {s = s} z ek e =
    then z (rw (ek, z.same) at e ∙ sym (division-way b l z.ready.laid g z.fresh.gate z.division s))

-- any other gate

module _ {b l : List ℕ} {g m : ℕ} {s w h : State} (z : Stage b l g false m s w h) where
  earlier : AllBelow g (fields_from b g 0 (arity (kind_at b g)))
  earlier =
      rw (is-gate z, operands_of b g (kind_at b g)) at
      (operands-below (nodes_of (gates_in b)) g (get_or (gates_in b) g ConstFalse) (z.ready.ordered g))

-- n is the arity and `act` what the gate does, as the code read them
pub operands-asked : {b l : List ℕ} {g m n : ℕ} {s h : State} → Stage b l g false m s s h → n ≡ arity (kind_at b g)
    → (3 * g < m) × (Ready b l s × (g < length (gates_in b)) × (n ≤ 3) × AllBelow g (fields_from b g 0 n))
operands-asked {b} {g = g} z e =
    (omega (arith, z.measure), (z.ready, z.fresh.gate, rw e (arity-three (kind_at b g)), rw e (earlier z)))

-- a gate's only operand is its first field
only-has : (b : List ℕ) (g n : ℕ) (v : State) → n ≡ 1 → AllHave v (fields_from b g 0 n) → 1 ≤ slot v (field b g 0)
unfolding fields_from
only-has b g n v e a = let h = rw e at a in h.0

only_below : (b : List ℕ) (g n : ℕ) → n ≡ 1 → AllBelow g (fields_from b g 0 n) → field b g 0 < g
unfolding fields_from
only_below b g n e a = let h = rw e at a in h.0

pub finish-asked : {b l : List ℕ} {g m : ℕ} {act : Act} {s t : State} → Stage b l g false m s (visits (gates_in b) (fields_from b g 0 (arity (kind_at b g))) s) t
    → act ≡ act_of (kind_at b g) → CanFinish act b g t
finish-asked {b} {l} {g} {s = s} z e =
    let v : State = visits (gates_in b) (fields_from b g 0 (arity (kind_at b g))) s in
    let w = each-visited (gates_in b) (visit_of (gates_in b)) g (fine z) (fields_from b g 0 (arity (kind_at b g))) (earlier z) s z.ready.inv in
    let none : slot v g ≡ 0 = w.later.above g (omega arith) ∙ z.fresh.none in
    let big = three-free (gates_in b) g v w.inv z.fresh.gate none in
    rw (e, z.same)
    (record {
      room =
          record {
            gate = within (gates_in b) g v w.inv z.fresh.gate none;
            origins = omega (arith, w.inv.origins);
            roles = omega (arith, w.inv.roles);
            small = omega (arith, z.ready.small);
          };
      whole = record-there z;
      gate = λ e. omega (arith, only_below b g (arity (kind_at b g)) (share-one (kind_at b g) e) (earlier z), w.inv.gates, z.fresh.gate);
      adder = λ e. only-has b g (arity (kind_at b g)) v (share-one (kind_at b g) e) w.have;
    })

pub visited : {b l : List ℕ} {g m n : ℕ} {s h t : State} → Stage b l g false m s s h → n ≡ arity (kind_at b g) → t ≡ visits (gates_in b) (fields_from b g 0 n) s
    → Stage b l g false m s (visits (gates_in b) (fields_from b g 0 (arity (kind_at b g))) s) t
visited z en e = then z (rw en at e)

pub finished : {b l : List ℕ} {g m : ℕ} {act : Act} {s t u : State} → Stage b l g false m s (visits (gates_in b) (fields_from b g 0 (arity (kind_at b g))) s) t
    → act ≡ act_of (kind_at b g) → u ≡ finish act (field b g 0) g t → Stage b l g false m s (process_of (gates_in b) g s) u
finished {b} {l} {g} {s = s} z ek e =
    then z (rw (ek, z.same) at e ∙ sym (other_way b l z.ready.laid g z.fresh.gate z.division s))

-- the loops: one that visits the gates of `all`, all below `at`, from the state s₀, has come to the state s with `rest` left

pub record Going (b l : List ℕ) (at : ℕ) (all : List ℕ) (s₀ : State) (rest : List ℕ) (s : State) : Type 0 where
  pub ready : Ready b l s
  pub inside : at < length (gates_in b)
  pub below : AllBelow at rest
  pub same : visits (gates_in b) rest s ≡ visits (gates_in b) all s₀

pub going_start : {b l : List ℕ} {at : ℕ} {s₀ : State} (all : List ℕ) → Ready b l s₀ → at < length (gates_in b) → AllBelow at all → Going b l at all s₀ all s₀
going_start all ready inside b = record { ready = ready; inside = inside; below = b; same = refl }

-- x is the gate as the code read it, and m the measure
pub loop-asked : {b l : List ℕ} {at m x y : ℕ} {all rest : List ℕ} {s₀ s : State} → Going b l at all s₀ (x ∷ rest) s → 3 * at ≡ m → y ≡ x
    → (3 * y + 2 < m) × (Ready b l s × (y < length (gates_in b)))
loop-asked w e f = (omega (arith, w.below.0), (w.ready, omega (arith, w.below.0, w.inside)))

pub going_on : {b l : List ℕ} {at x y : ℕ} {all rest : List ℕ} {s₀ s t : State} → Going b l at all s₀ (x ∷ rest) s → y ≡ x → t ≡ visit_of (gates_in b) y s → Going b l at all s₀ rest t
unfolding each
going_on {b} {x = x} {s = s} w f e =
    let v = visit-visited (gates_in b) w.ready.ordered x (omega (arith, w.inside, w.below.0)) s w.ready.inv in
    record {
      ready = rw (e, f) (ready_with w.ready v.inv);
      inside = w.inside;
      below = w.below.1;
      same = rw (e, f) w.same;
    }

pub going_end : {b l : List ℕ} {at : ℕ} {all : List ℕ} {s₀ s : State} → Going b l at all s₀ [] s → s ≡ visits (gates_in b) all s₀
unfolding each
going_end w = w.same

-- what is left of the operands, and of a list's bits

more : (n i : ℕ) → i < n → n - i ≡ suc (n - (i + 1))
more n i h = omega arith

-- one record of a stretch, and the rest of it
pub gates-more : (b : List ℕ) (i n m : ℕ) → n < m → gates_from b i n (m - n) ≡ field b n i ∷ gates_from b i (n + 1) (m - (n + 1))
unfolding gates_from range
gates-more b i n m h = rw (more m n h, add-one n)

pub gates-done : (b : List ℕ) (i n m : ℕ) → m ≤ n → gates_from b i n (m - n) ≡ []
unfolding gates_from range
gates-done b i n m h = rw (sub-eq-zero_of_le h)

pub fields-all : {b l : List ℕ} {at : ℕ} {s₀ : State} (n : ℕ) → Ready b l s₀ → at < length (gates_in b) → AllBelow at (fields_from b at 0 n)
    → Going b l at (fields_from b at 0 n) s₀ (fields_from b at 0 (n - 0)) s₀
fields-all {b} {at = at} n ready inside below = rw (sub-zero n) (going_start (fields_from b at 0 n) ready inside below)

pub bits-all : {b l : List ℕ} {at k : ℕ} {s₀ : State} → Ready b l s₀ → at < length (gates_in b) → ListAt b l k → AllBelow at (list_of b k)
    → Going b l at (list_of b k) s₀ (gates_from b 1 (get_or l k 0) (get_or l (k + 1) 0 - get_or l k 0)) s₀
bits-all {b} {k = k} ready inside here below = rw (← here.bits) (going_start (list_of b k) ready inside below)

module _ {b l : List ℕ} {at : ℕ} {all : List ℕ} {s₀ s : State} where
  pub fields-on : {i n : ℕ} → i < n → Going b l at all s₀ (fields_from b at i (n - i)) s
      → Going b l at all s₀ (field b at i ∷ fields_from b at (i + 1) (n - (i + 1))) s
  unfolding fields_from
  fields-on {i} {n} h w = rw (more n i h) at w

  pub fields-done : {i n : ℕ} → n ≤ i → Going b l at all s₀ (fields_from b at i (n - i)) s → s ≡ visits (gates_in b) all s₀
  unfolding fields_from
  fields-done h w = going_end (rw (sub-eq-zero_of_le h) at w)

  pub bits-on : {n m : ℕ} → n < m → Going b l at all s₀ (gates_from b 1 n (m - n)) s
      → Going b l at all s₀ (field b n 1 ∷ gates_from b 1 (n + 1) (m - (n + 1))) s
  bits-on {n} {m} h w = rw (gates-more b 1 n m h) at w

  pub bits-done : {n m : ℕ} → m ≤ n → Going b l at all s₀ (gates_from b 1 n (m - n)) s → s ≡ visits (gates_in b) all s₀
  bits-done {n} {m} h w = going_end (rw (gates-done b 1 n m h) at w)
