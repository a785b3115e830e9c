-- Giving the bits of a value, one at a time, and the bits of a signed number.
-- Assumes nothing.
use mathlib.Core.Path.{◌≡◌, refl, sym, ap, ◌∙◌}
use mathlib.Core.Bool.{Bool, true, false}
use mathlib.Core.List.{List, [], ◌∷◌}
use Prim.Native.Nat.{ℕ, suc, ◌+◌, ◌-◌, ◌≤◌, ◌<◌}
use native.Mathlib.Omega.{arith}
use lib.Dec.{eqb}
use lib.IntN.{ℤ, pos}
use lib.ListN.{length, get_or, set, drop, drop_of_length-le}
use Rattle.laws.specs.Equal.{eq_z, eq_z→eq}
use Rattle.circuit.specs.File.{field}
use Rattle.units.specs.Name.{gate}
use Rattle.run_values.specs.declared.Stop.{Stop}
use Rattle.run_values.specs.declared.Stop.TheVariants.{NoQubit, NotUsedUp}
use Rattle.run_values.specs.Need.{Got, table, stopped, and_then, decide, bit}
use Rattle.circuit.specs.Meaning.{circuit_of}
use Rattle.run_rules.specs.declared.Part.{Part}
use native.Mathlib.Numerals.{add-one}
use lib.Seq.{drop-cons}
use Rattle.run_give.specs.Give.{low_bit, halved, give_bits, give_all}
use Rattle.run_rules.specs.Layout.{named}
use Rattle.run_rules.specs.Code.{part_of}
use Rattle.run_give.specs.Asked.{Slots, set_bit, GiveAsked, InputsAsked}

-- ---- the bits of an input

pub give-step : (qs : List ℕ) (k g : ℕ) (gs : List ℕ) (v : ℤ) (t : List ℕ) → give_bits qs k (g ∷ gs) v t ≡ and_then (set_bit qs g (low_bit v) t) (give_bits qs k gs (halved v))
unfolding give_bits
give-step qs k g gs v t = go (eqb (get_or qs g 0) 0)
  where
    go : (z : Bool) → decide z (λ t. stopped (NoQubit (gate g))) (λ t. give_bits qs k gs (halved v) (set t (get_or qs g 0 - 1) (bit (low_bit v)))) t
        ≡ and_then (decide z (λ t. stopped (NoQubit (gate g))) (λ t. table (set t (get_or qs g 0 - 1) (bit (low_bit v)))) t) (give_bits qs k gs (halved v))
    go true = refl
    go false = refl

pub named-on : (b : List ℕ) (n end : ℕ) → n < end → named b n (end - n) ≡ field b n 1 ∷ named b (n + 1) (end - (n + 1))
unfolding named
named-on b n end h = go (end - n) (end - (n + 1)) (n + 1) (omega arith) (omega arith)
  where
    go : (m l p : ℕ) → m ≡ suc l → p ≡ suc n → named b n m ≡ field b n 1 ∷ named b p l
    go m l p e f = rw (e, f)

pub named-done : (b : List ℕ) (n m : ℕ) → m ≡ 0 → named b n m ≡ []
unfolding named
named-done b n m e = rw e

-- the loop over the bits, at record n with l left of the value
pub record Giving (b qs : List ℕ) (k from bits : ℕ) (v : ℤ) (t₀ : List ℕ) (n : ℕ) (l : ℤ) (t : List ℕ) : Type 0 where
  pub past : from ≤ n
  pub within : n ≤ from + bits
  pub long : length t ≡ length t₀
  pub same : give_bits qs k (named b n (from + bits - n)) l t ≡ give_bits qs k (named b from bits) v t₀

pub giving-start : (b qs : List ℕ) (k from bits : ℕ) (v : ℤ) (t : List ℕ) → Giving b qs k from bits v t from v t
giving-start b qs k from bits v t = let e : from + bits - from ≡ bits = omega arith in record { past = omega arith; within = omega arith; long = refl; same = rw e }

module _ {b qs : List ℕ} {k from bits : ℕ} {v : ℤ} {t₀ : List ℕ} {n : ℕ} {l : ℤ} {t : List ℕ} (g : Giving b qs k from bits v t₀ n l t) where
  module _ (more : n < from + bits) where
    pub gate-asked : GiveAsked b qs (length t₀) from bits → {x : ℕ} → x ≡ field b n 1 → Slots qs (length t) × (x < length qs)
    gate-asked a ex =
        let e : from + (n - from) ≡ n = omega (arith, g.past) in
        let h : field b (from + (n - from)) 1 < length qs = a.gates (n - from) (omega (arith, g.past)) in
        (rw g.long a.slots, rw ex (rw e at h))

    turn : {y : Got} {x : ℕ} {z : Bool} → x ≡ field b n 1 → z ≡ low_bit l → y ≡ set_bit qs x z t
        → and_then y (give_bits qs k (named b (n + 1) (from + bits - (n + 1))) (halved l)) ≡ give_bits qs k (named b from bits) v t₀
    turn ex ez e =
        rw (e, ex, ez)
        (sym (give-step qs k (field b n 1) (named b (n + 1) (from + bits - (n + 1))) l t) ∙ ap (λ gs. give_bits qs k gs l t) (sym (named-on b n (from + bits) more)) ∙ g.same)

    pub give-on : {u : List ℕ} {x : ℕ} {z : Bool} → x ≡ field b n 1 → z ≡ low_bit l → table u ≡ set_bit qs x z t → length u ≡ length t → {m : ℤ} → m ≡ halved l
        → Giving b qs k from bits v t₀ (n + 1) m u
    give-on ex ez e long em = record { past = omega (arith, g.past); within = omega arith; long = long ∙ g.long; same = rw em (turn ex ez e) }

    pub give-stop : {y : Stop} {x : ℕ} {z : Bool} → x ≡ field b n 1 → z ≡ low_bit l → stopped y ≡ set_bit qs x z t → stopped y ≡ give_bits qs k (named b from bits) v t₀
    give-stop ex ez e = turn ex ez e

  module _ (all : from + bits ≤ n) where
    none_left : give_bits qs k [] l t ≡ give_bits qs k (named b from bits) v t₀
    none_left = ap (λ gs. give_bits qs k gs l t) (sym (named-done b n (from + bits - n) (omega arith))) ∙ g.same

    pub used-up : l ≡ pos 0 → table t ≡ give_bits qs k (named b from bits) v t₀
    unfolding give_bits
    used-up e = rw e at none_left

    not-zero : (x : Bool) → eq_z l (pos 0) ≡ x → (l ≡ pos 0 → ⊥) → eq_z l (pos 0) ≡ false
    not-zero true e n = absurd (n (eq_z→eq l (pos 0) (rw e tt)))
    not-zero false e n = e

    pub not-used-up : (l ≡ pos 0 → ⊥) → stopped (NotUsedUp k) ≡ give_bits qs k (named b from bits) v t₀
    unfolding give_bits
    not-used-up n = let h : eq_z l (pos 0) ≡ false = not-zero (eq_z l (pos 0)) refl n in rw h at none_left

-- ---- all inputs

-- the loop over the inputs, at input k
pub record GivingAll (b starts qs : List ℕ) (n : ℕ) (vs : List ℤ) (t₀ : List ℕ) (k : ℕ) (t : List ℕ) : Type 0 where
  pub asked : InputsAsked b starts qs n vs
  pub within : k ≤ length vs
  pub long : length t ≡ length t₀
  pub same : give_all qs k (drop k (circuit_of b).inputs) (drop k vs) t ≡ give_all qs 0 (circuit_of b).inputs vs t₀

pub giving-all-start : {b starts qs : List ℕ} {n : ℕ} {vs : List ℤ} {t₀ : List ℕ} → InputsAsked b starts qs n vs → GivingAll b starts qs n vs t₀ 0 t₀
giving-all-start a = record { asked = a; within = omega arith; long = refl; same = refl }

-- the bits of input k as the code finds them
pub input-asked : {b starts qs : List ℕ} {n : ℕ} {vs : List ℤ} (a : InputsAsked b starts qs n vs) {k : ℕ} → k < length vs → {p : Part} → p ≡ part_of starts k
    → GiveAsked b qs n p.from p.bits
input-asked {b} {starts} {qs} {n} a {k} h e =
    let i : k < length (circuit_of b).inputs = omega (arith, a.count) in
    let r = a.laid.rise k (omega (arith, a.laid.few)) in
    rw e (record {
      slots = a.slots;
      there = omega (arith, a.laid.there (k + 1) (omega (arith, a.laid.few)), r);
      gates = λ j l. a.gates k j i (omega (arith, r));
    })

module _ {b starts qs : List ℕ} {n : ℕ} {vs : List ℤ} {t₀ : List ℕ} {k : ℕ} {t : List ℕ} (g : GivingAll b starts qs n vs t₀ k t) (more : k < length vs) where
  here : k < length (circuit_of b).inputs
  here = omega (arith, g.asked.count)

  all-turn : {y : Got} {p : Part} {v : ℤ} → p ≡ part_of starts k → v ≡ get_or vs k (pos 0) → y ≡ give_bits qs k (named b p.from p.bits) v t
      → and_then y (give_all qs (suc k) (drop (suc k) (circuit_of b).inputs) (drop (suc k) vs)) ≡ give_all qs 0 (circuit_of b).inputs vs t₀
  unfolding give_all
  all-turn ep ev e =
      rw (e, ep, ev, ← g.asked.laid.bits k here)
      (rw (drop-cons (circuit_of b).inputs k (record { nid = 0; bits = [] }) here, drop-cons vs k (pos 0) more) at g.same)

  pub all-on : {u : List ℕ} {p : Part} {v : ℤ} → p ≡ part_of starts k → v ≡ get_or vs k (pos 0) → table u ≡ give_bits qs k (named b p.from p.bits) v t → length u ≡ length t
      → GivingAll b starts qs n vs t₀ (k + 1) u
  all-on ep ev e l = record { asked = g.asked; within = omega arith; long = l ∙ g.long; same = rw (add-one k) (all-turn ep ev e) }

  pub all-stop : {y : Stop} {p : Part} {v : ℤ} → p ≡ part_of starts k → v ≡ get_or vs k (pos 0) → stopped y ≡ give_bits qs k (named b p.from p.bits) v t
      → stopped y ≡ give_all qs 0 (circuit_of b).inputs vs t₀
  all-stop ep ev e = all-turn ep ev e

pub all_end : {b starts qs : List ℕ} {n : ℕ} {vs : List ℤ} {t₀ : List ℕ} {k : ℕ} {t : List ℕ} → GivingAll b starts qs n vs t₀ k t → length vs ≤ k
    → table t ≡ give_all qs 0 (circuit_of b).inputs vs t₀
unfolding give_all
all_end {b} {k = k} g h = rw (drop_of_length-le (circuit_of b).inputs {i = k} (omega (arith, g.asked.count))) at g.same
