-- Demand 3, before fixing: each choice of the inputs, the division bits and the two constants has exactly one setting of the other qubits with
-- energy 0, the circuit's own run, and every other setting has at least 2.
-- The theorems that an edit of a definition breaks are in proofs/Before.antt.
-- Assumes nothing.
use Rattle.std.specs.Prelude.{◌≡◌, refl, ◌⊎◌, Bool, false, ◌||◌, List, [], ◌∷◌}
use Rattle.std.proofs.Math.Path.{ap}
use Rattle.std.proofs.Common.{◌∙◌, arith}
use Prim.Native.Nat.{ℕ, zero, suc, ◌≤◌, ◌<◌}
use Rattle.energy.specs.Plain.{Setting, Free, run, plain, run-free, free-below}
use Rattle.energy.specs.Circuit.{Choice, value, IsFree}
use Rattle.energy.specs.Numbering.{In, Named, name_in, Numbering, rows, top}

-- ---- a setting that obeys the rows has the circuit's values at the names

-- a setting makes a choice
pub record Chosen (d : Named) (e : Choice) (σ : Setting) : Type 0 where
  pub at_low : σ 0 ≡ e.low
  pub at_high : σ 1 ≡ e.high
  pub at-free : (g : ℕ) → In g d.reached → IsFree (d.nodes g) → σ (d.base g) ≡ e.bits g

-- ---- the joined qubit says whether some bad state is true

-- some gate of a list is true
abbrev pub some : (ℕ → Bool) → List ℕ → Bool
some v [] = false
some v (g ∷ gs) = v g || some v gs

-- ---- the run of a choice

-- the choice, at the names of the free qubits
unfoldable pub start : Named → Choice → Setting
start d e zero = e.low
start d e (suc zero) = e.high
start d e (suc (suc q)) = e.bits (d.origin (suc (suc q)))

start-free : (d : Named) (e : Choice) (q : ℕ) → 2 ≤ q → start d e q ≡ e.bits (d.origin q)
unfolding start
start-free d e zero h = absurd (omega arith)
start-free d e (suc zero) h = absurd (omega arith)
start-free d e (suc (suc q)) h = refl

-- each row in its turn, from the choice
unfoldable pub own_run : Named → Choice → Setting
own_run d e = run (rows d) (start d e)

module _ (d : Named) (m : Numbering d) (e : Choice) where
  zero-one-free : (q : ℕ) → q < 2 → Free (rows d) q
  zero-one-free = free-below 2 (rows d) d.count m.sorted

  -- the run makes the choice that it starts from
  pub own-chosen : Chosen d e (own_run d e)
  unfolding own_run start
  own-chosen =
      record {
        at_low = run-free (rows d) (start d e) 0 (zero-one-free 0 (omega arith));
        at_high = run-free (rows d) (start d e) 1 (zero-one-free 1 (omega arith));
        at-free = λ g i f.
            run-free (rows d) (start d e) (d.base g) (m.frees g i f).3
            ∙ start-free d e (d.base g) (m.frees g i f).0
            ∙ ap e.bits (m.frees g i f).2;
      }

-- ---- before fixing

-- each choice has one setting of energy 0, and every other has at least 2
pub record ExactlyOne (d : Named) (e : Choice) : Type 0 where
  -- a setting that makes the choice
  pub own : Setting
  pub makes : Chosen d e own
  -- it is the circuit's own run
  pub is-run : (g : ℕ) → In g d.reached → own (name_in d g) ≡ value d.nodes e g
  pub is_some : own (top d) ≡ some (value d.nodes e) (d.bad ∷ d.bads)
  -- its energy is 0, and every other setting that makes the choice has at least 2
  pub is_zero : plain own (rows d) ≡ 0
  pub others : (σ : Setting) → Chosen d e σ → ((q : ℕ) → q < d.count → σ q ≡ own q) ⊎ (2 ≤ plain σ (rows d))
