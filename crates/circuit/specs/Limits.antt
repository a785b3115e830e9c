-- What the limits of check 2 say.
-- Assumes nothing.
use Rattle.std.specs.Prelude.{ℕ, ◌≤◌, ◌≡◌, false, List, refl, None}
use Rattle.std.proofs.Common.{ltb-false}
use Rattle.circuit.specs.declared.Counts.{Counts}
use Rattle.circuit.specs.File.{count_of}
use Rattle.circuit.specs.Form.{first_broken}
use Rattle.circuit.specs.Passing.{neither}
use Rattle.circuit.specs.Starts.{Regular}
use Rattle.circuit.specs.Check.{counts_of, too_many}

pub record Few (k : Counts) : Type 0 where
  pub gates : k.gates ≤ 1000
  pub list_bits : k.list_bits ≤ 4096
  pub bads : k.bad_states ≤ 64
  pub constraints : k.constraints ≤ 256
  pub input_bits : k.input_bits ≤ 1000

pub few : (k : Counts) → too_many k ≡ false → Few k
few k e =
    let t3 = neither _ _ e in
    let t2 = neither _ _ t3.0 in
    let t1 = neither _ _ t2.0 in
    let t0 = neither _ _ t1.0 in
    record {
      gates = ltb-false 1000 k.gates t0.0;
      list_bits = ltb-false 4096 k.list_bits t0.1;
      bads = ltb-false 64 k.bad_states t1.1;
      constraints = ltb-false 256 k.constraints t2.1;
      input_bits = ltb-false 1000 k.input_bits t3.1;
    }

-- what checks 2 and 3 give
pub regular : (c : List ℕ) → too_many (counts_of c) ≡ false → first_broken c ≡ None → Regular c
unfolding counts_of
regular c e f =
    let h : Few (counts_of c) = few (counts_of c) e in
    record { form = f; gates = h.gates; list_bits = h.list_bits; bads = h.bads; constraints = h.constraints; input_bits = h.input_bits }

pub gates-of : (c : List ℕ) → (counts_of c).gates ≡ count_of c 0 13
unfolding counts_of
gates-of c = refl

pub bads-of : (c : List ℕ) → (counts_of c).bad_states ≡ count_of c 21 21
unfolding counts_of
bads-of c = refl
