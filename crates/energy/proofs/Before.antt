-- Theorems over the definitions of specs/Before.antt, where their subject is told. An edit of such a definition is refused here.
-- Assumes nothing.
use Rattle.std.specs.Prelude.{◌≡◌, refl, Bool, true, false, ◌||◌, List, [], ◌∷◌, map}
use Rattle.std.proofs.Math.Path.{sym, ap}
use Rattle.std.proofs.Common.{◌∙◌, ap₂, arith, add-zero}
use Rattle.std.proofs.Math.Bool.{cond, or_assoc, or-false}
use Prim.Native.Nat.{ℕ, zero, suc, ◌+◌, ◌<◌}
use Rattle.penalty.specs.declared.Kind.TheVariants as row
use Rattle.penalty.specs.Rule.{result_by, carry_by, obeys-split}
use Rattle.energy.specs.Plain.{Setting, wire, Obey, Free, same₃, OneZero}
use Rattle.energy.proofs.Plain.{one-zero, run-obeys}
use Rattle.energy.specs.Circuit.{Node, fixed, free, op, carry_of, Choice, node_by, carry_at, value, value-step, Before, IsAdder, IsFree}
use Rattle.energy.specs.Numbering.{Operands, In, AllIn, name, name_by, row_by, gate_rows, joins, joined, Named, name_in, Numbering, rows, top, obey-left, obey-right}
use Rattle.energy.proofs.Numbering.{obey-gate}
use Rattle.energy.specs.Before.{Chosen, ExactlyOne, own-chosen, own_run, some, start}

-- ---- a setting that obeys the rows has the circuit's values at the names

module _ (d : Named) (m : Numbering d) (e : Choice) (σ : Setting) (ch : Chosen d e σ) (o : Obey σ (rows d)) where
  -- the gate a is done: its name has the circuit's value
  abbrev Done : ℕ → Type 0
  Done a = σ (name_in d a) ≡ value d.nodes e a

  obeyed : (g : ℕ) → In g d.reached → Obey σ (row_by d.nodes d.base g (d.nodes g))
  obeyed =
      obey-gate d.nodes d.base σ d.reached (obey-left σ (gate_rows d.nodes d.base d.reached) _ o)

  carry-step : (a : ℕ) (n : Node) → IsAdder n → Obey σ (row_by d.nodes d.base a n) → Operands d.reached n → Before d.nodes a n
      → ((b : ℕ) → b < a → In b d.reached → Done b) → σ (d.base a + 1) ≡ carry_at (value d.nodes e) n
  unfolding wire
  carry-step a (fixed b) ad ob ops bf ih = absurd ad
  carry-step a (free src) ad ob ops bf ih = absurd ad
  carry-step a (op k x y w) ad ob ops bf ih =
      ap (λ (i : ℕ). σ (d.base a + i)) (sym (ap (λ (b : Bool). cond b 1 0) ad))
      ∙ (obeys-split k _ ob.0).on_carry ad
      ∙ same₃ (carry_by k) (ih x bf.0 ops.0) (ih y bf.1 ops.1) (ih w bf.2 ops.2)
  carry-step a (carry_of b) ad ob ops bf ih = absurd ad

  node-step : (g : ℕ) → In g d.reached → (n : Node) → (IsFree n → IsFree (d.nodes g)) → Obey σ (row_by d.nodes d.base g n) → Operands d.reached n → Before d.nodes g n
      → ((b : ℕ) → b < g → In b d.reached → Done b) → σ (name_by d.base g n) ≡ node_by d.nodes e (value d.nodes e) g n
  unfolding wire
  node-step g i (fixed true) q ob ops bf ih = ch.at_high
  node-step g i (fixed false) q ob ops bf ih = ch.at_low
  node-step g i (free src) q ob ops bf ih = ch.at-free g i (q tt)
  node-step g i (op k x y w) q ob ops bf ih =
      (obeys-split k _ ob.0).on_result
      ∙ same₃ (result_by k) (ih x bf.0 ops.0) (ih y bf.1 ops.1) (ih w bf.2 ops.2)
  node-step g i (carry_of a) q ob ops bf ih =
      carry-step a (d.nodes a) bf.1 (obeyed a ops) (m.closed a ops) (m.ordered a) (λ b l j. ih b (omega arith) j)

  follow : (k g : ℕ) → g < k → In g d.reached → Done g
  unfolding name
  follow zero g l i = absurd (omega arith)
  follow (suc k) g l i =
      node-step g i (d.nodes g) (λ f. f) (obeyed g i) (m.closed g i) (m.ordered g) (λ b h j. follow k b (omega arith) j)
      ∙ sym (value-step d.nodes m.ordered e g)

  -- each reached gate's qubit has the gate's value in the circuit's own run
  pub gate-value : (g : ℕ) → In g d.reached → σ (name_in d g) ≡ value d.nodes e g
  gate-value g i = follow (suc g) g (omega arith) i

-- ---- the joined qubit says whether some bad state is true

joined-some : (σ : Setting) (q next : ℕ) (ps : List ℕ) → Obey σ (joins q next ps) → σ (joined q next ps) ≡ (σ q || some σ ps)
unfolding wire
joined-some σ q next [] o = sym (or-false (σ q))
joined-some σ q next (p ∷ ps) o =
    joined-some σ next (suc next) ps o.1
    ∙ ap (λ (b : Bool). b || some σ ps) (ap σ (sym (add-zero next)) ∙ (obeys-split row.Or _ o.0).on_result)
    ∙ or_assoc (σ q) (σ p) (some σ ps)

some-names : (σ : Setting) (v : ℕ → Bool) (nm : ℕ → ℕ) (gs hs : List ℕ) → AllIn gs hs
    → ((g : ℕ) → In g hs → σ (nm g) ≡ v g) → some σ (map nm gs) ≡ some v gs
some-names σ v nm [] hs a h = refl
some-names σ v nm (g ∷ gs) hs a h = ap₂ ◌||◌ (h g a.0) (some-names σ v nm gs hs a.1 h)

-- ---- the run of a choice

module _ (d : Named) (m : Numbering d) (e : Choice) where
  -- the joined qubit is true exactly where some bad state is
  pub top-value : (σ : Setting) → Chosen d e σ → Obey σ (rows d) → σ (top d) ≡ some (value d.nodes e) (d.bad ∷ d.bads)
  top-value σ ch o =
      joined-some σ (name_in d d.bad) d.next (map (name_in d) d.bads) (obey-right σ (gate_rows d.nodes d.base d.reached) _ o)
      ∙ ap₂ ◌||◌ (gate-value d m e σ ch o d.bad m.bad-in)
      (some-names σ (value d.nodes e) (name_in d) d.bads d.reached m.bads-in (gate-value d m e σ ch o))

  -- and obeys every row
  pub own-obeys : Obey (own_run d e) (rows d)
  unfolding own_run
  own-obeys = run-obeys 2 (rows d) d.count m.sorted (start d e)

  -- a setting that makes the choice agrees with it on every free name of the model
  chosen-free : (σ : Setting) → Chosen d e σ → (q : ℕ) → q < d.count → Free (rows d) q → σ q ≡ start d e q
  unfolding start
  chosen-free σ ch zero h f = ch.at_low
  chosen-free σ ch (suc zero) h f = ch.at_high
  chosen-free σ ch (suc (suc q)) h f =
      let (g, i, n, b) = m.covered (suc (suc q)) (omega arith) h f in
      ap σ (sym b) ∙ ch.at-free g i n ∙ ap e.bits (sym (m.frees g i n).2 ∙ ap d.origin b)

-- ---- before fixing

-- Theorem: the plain energy of a numbered circuit has that, for each choice.
pub exactly-one : (d : Named) → Numbering d → (e : Choice) → ExactlyOne d e
unfolding own_run
exactly-one d m e =
    record {
      own = own_run d e;
      makes = own-chosen d m e;
      is-run = gate-value d m e (own_run d e) (own-chosen d m e) (own-obeys d m e);
      is_some = top-value d m e (own_run d e) (own-chosen d m e) (own-obeys d m e);
      is_zero = one.zero-at-run;
      others = λ σ ch. one.others σ (chosen-free d m e σ ch);
    }
  where
    one : OneZero (rows d) d.count (start d e)
    one = one-zero 2 (rows d) d.count m.sorted (start d e)
