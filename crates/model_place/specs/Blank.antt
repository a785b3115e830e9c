-- What placing all rows asks of the tables, and the laws of its turns: the tables hold the log of the rows of the names so far.
-- Assumes nothing.
use Rattle.std.specs.Prelude.{◌≡◌, refl, Option, Some, None, ℤ, nat_abs}
use Rattle.std.proofs.Common.{sym, ap₂, ◌∙◌, subst, add-one}
use Rattle.std.proofs.Math.Path.{ap}
use mathlib.Core.List.{List, [], ◌∷◌, ◌++◌, append-nil}
use Prim.Native.Nat.{ℕ, zero, suc, ◌+◌, ◌-◌, ◌*◌, ◌^◌, ◌≤◌, ◌<◌}
use native.Mathlib.Omega.{arith}
use Rattle.std.proofs.Math.IntN.{pos}
use Rattle.std.proofs.Math.Nat.{sub-zero}
use Rattle.std.proofs.Math.ListN.{length, replicate, length-replicate}
use Rattle.store_pairs.specs.Store.{zip, none}
use Rattle.penalty.specs.Rows.{Slot, row_of}
use Rattle.penalty.specs.declared.Kind.TheVariants as row
use Rattle.energy.specs.Plain.{Row}
use Rattle.energy.specs.Circuit.{Circuit}
use Rattle.energy.specs.Model.{Entry, Model, empty, sizes, mass}
use Rattle.energy.specs.Mass.{few-row, mass-empty, offset-within}
use Rattle.energy.specs.Sized.{Wired}
use Rattle.energy.specs.Finished.{rows-wired}
use Rattle.circuit.specs.Meaning.{circuit_of}
use Rattle.numbering.specs.State.{State, names_of}
use Rattle.numbering.specs.Numbered.{rows_from, rows_of, named_of}
use Rattle.numbering.specs.Numbered as numbering
use Rattle.numbering.specs.Finished.{rows_split, numbering, rows_agree}
use Rattle.store.specs.declared.Totals.{Totals}
use Rattle.store.specs.Tables.{Tables, tables, model_of, hold}
use Rattle.store_place.specs.Wiring.{slots_of}
use Rattle.store_place.specs.Logged.{logged_all}
use Rattle.store_place.specs.Room.{Placing, filled_row, filled-or}
use Rattle.model_rows.specs.declared.Placed.{Placed as Found}
use Rattle.model_rows.specs.Laid.{Good}
use Rattle.model_rows.specs.Found.{found, placed_by, slots-wire, placed_one, placed-none}
use Rattle.model_rows.specs.Rowed.{fin}
use Rattle.model_place.specs.Few.{total, total-append, rows_few}
use Rattle.store.specs.Full.{full, step-full}
use Rattle.model_place.specs.Logs.{filled_of_row, logged_all-count, mass-logged_all, logged_all-append, wired-left, wired-right, Long, long-logged, one-row, rows-names}

-- "10G+3B pairs"
abbrev pub pairs_of : Circuit → ℕ
pairs_of c = 10 * length c.gates + 3 * length c.bads

-- tables of n qubits and k pairs, in which everything is 0
pub record Blank (n k : ℕ) (l : List ℤ) (h r ks : List ℕ) (ws : List ℤ) : Type 0 where
  pub linear : l ≡ replicate n (pos 0)
  pub present : h ≡ replicate n 0
  pub rows : r ≡ replicate n 0
  pub keys : ks ≡ replicate k 0
  pub weights : ws ≡ replicate k (pos 0)

-- a row, or none, can be placed
abbrev pub CanPlace : List ℤ → List ℕ → List ℕ → List ℕ → List ℤ → Totals → Option Found → Type 0
CanPlace l h r ks ws t (Some p) = Placing l h r ks ws t (slots_of p.wires) (row_of p.kind)
CanPlace l h r ks ws t None = (length ws ≡ length ks) × (t.count ≤ length ks)

-- the log of the names below q
abbrev pub log_to : Circuit → State → ℕ → Model
log_to c s q = logged_all (rows_from c s 2 (q - 2)) (empty (names_of c))

-- the tables hold it
pub record Logged (c : Circuit) (s : State) (q : ℕ) (t : Totals) (l : List ℤ) (h r ks : List ℕ) (ws : List ℤ) : Type 0 where
  pub low : 2 ≤ q
  pub high : q ≤ s.next
  pub keys : length ks ≡ pairs_of c
  pub weights : length ws ≡ pairs_of c
  pub is : tables t.offset l h r (replicate (names_of c) 0) ks ws t.count ≡ full (pairs_of c) (log_to c s q)

zip-blank : (k : ℕ) → zip (replicate k 0) (replicate k (pos 0)) ≡ replicate k none
zip-blank zero = refl
zip-blank (suc k) = ap (λ (t : List Entry). none ∷ t) (zip-blank k)

module _ (b : List ℕ) (bads constraints : ℕ) (s : State) (good : Good b bads constraints s) where
  abbrev c : Circuit
  c = circuit_of b

  abbrev n : ℕ
  n = names_of c

  pub names-small : n ≤ 3065
  names-small = omega (arith, good.gates-few, good.bads-few)

  pub wired : Wired n (rows_of c s)
  wired =
      let f = fin b bads constraints s good in
      rw (rows_agree c good.formed s f)
      (rows-wired n (named_of c s) (numbering c good.formed s f) (record { fits = f.at_most; names = omega (arith, names-small) }))

  split : (q : ℕ) → 2 ≤ q → q ≤ s.next → rows_of c s ≡ rows_from c s 2 (q - 2) ++ rows_from c s q (s.next - q)
  unfolding rows_of
  split q l h =
      let e : s.next - 2 ≡ (q - 2) + (s.next - q) = omega arith in
      let g : 2 + (q - 2) ≡ q = omega arith in
      ap (rows_from c s 2) e ∙ rows_split c good.formed s (fin b bads constraints s good) (q - 2) (s.next - q) 2
      ∙ ap (λ (k : ℕ). rows_from c s 2 (q - 2) ++ rows_from c s k (s.next - q)) g

  next_row : (q : ℕ) → q < s.next → rows_from c s q (s.next - q) ≡ numbering.row_of c s q ++ rows_from c s (suc q) (s.next - suc q)
  unfolding rows_from
  next_row q h = let e : s.next - q ≡ suc (s.next - suc q) = omega arith in ap (rows_from c s q) e

  rows-to : (q : ℕ) → 2 ≤ q → q < s.next → rows_from c s 2 (suc q - 2) ≡ rows_from c s 2 (q - 2) ++ numbering.row_of c s q
  unfolding rows_from
  rows-to q l h =
      let e : suc q - 2 ≡ (q - 2) + 1 = omega arith in
      let g : 2 + (q - 2) ≡ q = omega arith in
      ap (rows_from c s 2) e ∙ rows_split c good.formed s (fin b bads constraints s good) (q - 2) 1 2
      ∙ ap (λ (k : ℕ). rows_from c s 2 (q - 2) ++ rows_from c s k 1) g
      ∙ ap (λ (rs : List Row). rows_from c s 2 (q - 2) ++ rs) (append-nil (numbering.row_of c s q))

  three : (r : Row) → r.kind ≡ row.Or → filled_of_row r ≤ 3
  three r e = rw e filled-or

  all-few : total filled_of_row (rows_of c s) ≤ pairs_of c
  all-few = rows_few c s (fin b bads constraints s good) filled_of_row (λ r. filled_row r.kind) three good.formed

  -- there is room for the rows of the names up to q, and for those of q
  room-to : (q : ℕ) → 2 ≤ q → q < s.next → total filled_of_row (rows_from c s 2 (q - 2)) + total filled_of_row (numbering.row_of c s q) ≤ pairs_of c
  room-to q l h =
      omega (
        arith,
        all-few,
        ap (total filled_of_row) (split q l (omega arith)),
        total-append filled_of_row (rows_from c s 2 (q - 2)) (rows_from c s q (s.next - q)),
        ap (total filled_of_row) (next_row q h),
        total-append filled_of_row (numbering.row_of c s q) (rows_from c s (suc q) (s.next - suc q)),
      )

  pub count-to : (q : ℕ) → 2 ≤ q → q ≤ s.next → length (log_to c s q).pairs ≤ pairs_of c
  count-to q l h =
      omega (
        arith,
        logged_all-count (rows_from c s 2 (q - 2)) (empty n),
        all-few,
        ap (total filled_of_row) (split q l h),
        total-append filled_of_row (rows_from c s 2 (q - 2)) (rows_from c s q (s.next - q)),
      )

  -- no sum gets large
  pub mass-to : (q : ℕ) → q ≤ s.next → mass (log_to c s q) ≤ 2 ^ 20
  mass-to q h =
      omega (
        arith,
        mass-logged_all (rows_from c s 2 (q - 2)) (empty n),
        mass-empty n,
        rows-names c s (q - 2) 2,
        (fin b bads constraints s good).at_most,
        names-small,
      )

  pub long-to : (q : ℕ) → 2 ≤ q → q ≤ s.next → Long n (log_to c s q)
  long-to q l h = long-logged n (rows_from c s 2 (q - 2)) (omega (arith, names-small)) (wired-left n (rows_from c s 2 (q - 2)) (rows_from c s q (s.next - q)) (rw (← split q l h) wired))

  wired-at : (q : ℕ) → 2 ≤ q → q < s.next → Wired n (numbering.row_of c s q)
  wired-at q l h =
      wired-left n (numbering.row_of c s q) (rows_from c s (suc q) (s.next - suc q))
      (rw (← next_row q h) (wired-right n (rows_from c s 2 (q - 2)) (rows_from c s q (s.next - q)) (rw (← split q l (omega arith)) wired)))

  linear-mass : (m : Model) → sizes m.linear ≤ mass m
  unfolding mass
  linear-mass m = omega arith

  -- ---- a turn

  pub starts : {l : List ℤ} {h r ks : List ℕ} {ws : List ℤ} → Blank n (pairs_of c) l h r ks ws → Logged c s 2 (record { offset = pos 0; count = 0 }) l h r ks ws
  unfolding logged_all rows_from
  starts {l} {h} {r} {ks} {ws} z =
      record {
        low = omega arith;
        high = omega (arith, (fin b bads constraints s good).first, (fin b bads constraints s good).last);
        keys = ap length z.keys ∙ length-replicate {A = ℕ} (pairs_of c) 0;
        weights = ap length z.weights ∙ length-replicate {A = ℤ} (pairs_of c) (pos 0);
        is = begin z;
      }
    where
      begin : Blank n (pairs_of c) l h r ks ws → tables (pos 0) l h r (replicate n 0) ks ws 0 ≡ full (pairs_of c) (empty n)
      begin z i =
          record {
            offset = pos 0;
            linear = z.linear i;
            has_linear = z.present i;
            has_row = z.rows i;
            fixed = replicate n 0;
            entries = (ap₂ zip z.keys z.weights ∙ zip-blank (pairs_of c) ∙ ap (λ (k : ℕ). replicate k none) (sym (sub-zero (pairs_of c)))) i;
            count = 0;
          }

  module _ {q : ℕ} {t : Totals} {l : List ℤ} {h r ks : List ℕ} {ws : List ℤ} (inv : Logged c s q t l h r ks ws) (more : q < s.next) {p : Option Found} (e : p ≡ found (numbering.row_of c s q)) where
    abbrev m : Model
    m = log_to c s q

    count-is : t.count ≡ length m.pairs
    count-is = ap (λ (x : Tables). x.count) inv.is

    room : t.count + total filled_of_row (numbering.row_of c s q) ≤ length ks
    room =
        omega (
          arith,
          count-is,
          inv.keys,
          room-to q inv.low more,
          logged_all-count (rows_from c s 2 (q - 2)) (empty n),
        )

    linear-long : length l ≡ n
    linear-long = ap (λ (x : Tables). length x.linear) inv.is ∙ (long-to q inv.low inv.high).linear

    present-long : length h ≡ n
    present-long = ap (λ (x : Tables). length x.has_linear) inv.is ∙ (long-to q inv.low inv.high).has_linear

    rows_long : length r ≡ n
    rows_long = ap (λ (x : Tables). length x.has_row) inv.is ∙ (long-to q inv.low inv.high).has_row

    offset-small : nat_abs t.offset ≤ 2 ^ 40
    offset-small = omega (arith, ap (λ (x : Tables). nat_abs x.offset) inv.is, offset-within m, mass-to q inv.high)

    linear-small : sizes l ≤ 2 ^ 40
    linear-small = omega (arith, ap (λ (x : Tables). sizes x.linear) inv.is, linear-mass m, mass-to q inv.high)

    pub can-place : CanPlace l h r ks ws t p
    can-place = rw e (go (numbering.row_of c s q) (one-row c s q) (wired-at q inv.low more) room)
      where
        go : (rs : List Row) → length rs ≤ 1 → Wired n rs → t.count + total filled_of_row rs ≤ length ks → CanPlace l h r ks ws t (found rs)
        go [] k w f = (inv.weights ∙ sym inv.keys, omega arith)
        go (x ∷ []) k w f =
            record {
              present = present-long ∙ sym linear-long;
              rows = rows_long ∙ sym linear-long;
              even = inv.weights ∙ sym inv.keys;
              wired = subst (λ (at : Slot → ℕ). (i : Slot) → at i < length l) (sym (slots-wire x)) (λ i. rw linear-long (w.0 i));
              few = few-row x.kind;
              room = omega arith;
              offset = offset-small;
              small = linear-small;
            }
        go (x ∷ y ∷ rs) k w f = absurd (omega arith)

    placed : (rs : List Row) → length rs ≤ 1 → placed_by (found rs) m ≡ logged_all rs m
    placed [] k = placed-none m
    placed (x ∷ []) k = placed_one x m
    placed (x ∷ y ∷ rs) k = absurd (omega arith)

    after : placed_by p m ≡ log_to c s (suc q)
    after =
        ap (λ (f : Option Found). placed_by f m) e
        ∙ placed (numbering.row_of c s q) (one-row c s q)
        ∙ sym (logged_all-append (rows_from c s 2 (q - 2)) (numbering.row_of c s q) (empty n))
        ∙ ap (λ (rs : List Row). logged_all rs (empty n)) (sym (rows-to q inv.low more))

    pub turn : {u : Totals} {l' : List ℤ} {h' r' ks' : List ℕ} {ws' : List ℤ} → length ks' ≡ length ks → length ws' ≡ length ws
        → ((f : List ℕ) → tables u.offset l' h' r' f ks' ws' u.count ≡ hold (placed_by p (model_of (tables t.offset l h r f ks ws t.count))) (tables t.offset l h r f ks ws t.count))
        → Logged c s (q + 1) u l' h' r' ks' ws'
    turn {u} {l'} {h'} {r'} {ks'} {ws'} lk lw step =
        rw add-one
        (record {
          low = omega (arith, inv.low);
          high = omega arith;
          keys = lk ∙ inv.keys;
          weights = lw ∙ inv.weights;
          is =
              step-full (pairs_of c) m (placed_by p) inv.is (step (replicate n 0)) (count-to q inv.low inv.high)
              (omega (arith, ap (λ (x : Model). length x.pairs) after, count-to (suc q) (omega (arith, inv.low)) more))
              ∙ ap (full (pairs_of c)) after;
        })

-- at the end the rows of all names are in the log
pub all-logged : {c : Circuit} {s : State} {q : ℕ} {t : Totals} {l : List ℤ} {h r ks : List ℕ} {ws : List ℤ} → Logged c s q t l h r ks ws → s.next ≤ q → Logged c s s.next t l h r ks ws
all-logged {c} {s} {q} {t} {l} {h} {r} {ks} {ws} inv done =
    let e : q ≡ s.next = omega (arith, inv.high) in subst (λ (n : ℕ). Logged c s n t l h r ks ws) e inv
