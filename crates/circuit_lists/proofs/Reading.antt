-- Where the readers of `parts` read. Assumes nothing.
use Prim.Native.Nat.{ℕ, ◌+◌, ◌≤◌, ◌<◌}
use mathlib.Core.Path.{◌≡◌, sym, ap, ◌∙◌}
use mathlib.Core.List.{List}
use native.Mathlib.Omega.{arith}
use lib.ListN.{length, get_or}
use Rattle.circuit.specs.declared.Counts.{Counts}
use Rattle.circuit.specs.File.{records, count_of, field, nid_at}
use Rattle.circuit.specs.Meaning.{bad_at, circuit_of}
use Rattle.circuit.specs.Check.{counts_of}
use Rattle.circuit.specs.Ordered.{all-stand}
use Rattle.circuit.specs.Starts.{Regular, few-records, start_of, starts_of}
use Rattle.circuit.specs.Parts.{bad_of, input_of_circuit, bad-stands, starts-entry, InputStands, input-stands}

counts-parts : (c : List ℕ) (n : Counts) → n ≡ counts_of c → (n.gates ≡ count_of c 0 13) × (n.list_bits ≡ count_of c 20 20) × (n.bad_states ≡ count_of c 21 21) × (n.constraints ≡ count_of c 22 22)
unfolding counts_of
counts-parts c n e =
    (ap (λ (k : Counts). k.gates) e, ap (λ (k : Counts). k.list_bits) e, ap (λ (k : Counts). k.bad_states) e, ap (λ (k : Counts). k.constraints) e)

module _ {c : List ℕ} (h : Regular c) {n : Counts} (e : n ≡ counts_of c) {k : ℕ} where
  pub bad-inside : k < n.bad_states → (n.gates + n.list_bits + k < records c) × (records c ≤ 6416)
  bad-inside l = (omega (arith, counts-parts c n e, all-stand c h.form), few-records c h)

  pub bad-read : k < n.bad_states → bad_at c (n.gates + n.list_bits + k) ≡ bad_of (circuit_of c) k
  bad-read l =
      let p = counts-parts c n e in
      let same : n.gates + n.list_bits + k ≡ count_of c 0 13 + count_of c 20 20 + k = omega (arith, p.0, p.1) in
      ap (bad_at c) same ∙ sym (bad-stands c h k (omega (arith, p.2)))

module _ {c : List ℕ} (h : Regular c) {starts : List ℕ} (e : starts ≡ starts_of c 23) {k : ℕ} (l : k < length (circuit_of c).inputs) where
  pub input-inside : (k < 64) × (get_or starts k 0 < records c) × (records c ≤ 6416)
  input-inside =
      let s : InputStands c h k = input-stands c h k l in
      let at : get_or starts k 0 ≡ start_of c 23 k = ap (λ (x : List ℕ). get_or x k 0) e ∙ starts-entry c h 23 k (omega (arith, s.small)) in
      (s.small, omega (arith, s.some, s.within), few-records c h)

  start-at : get_or starts k 0 ≡ start_of c 23 k
  start-at =
      let s : InputStands c h k = input-stands c h k l in
      ap (λ (x : List ℕ). get_or x k 0) e ∙ starts-entry c h 23 k (omega (arith, s.small))

  pub nid-read : nid_at c (get_or starts k 0) ≡ (input_of_circuit (circuit_of c) k).nid
  nid-read = ap (nid_at c) start-at ∙ sym (input-stands c h k l).nid

  pub bit-inside : {j : ℕ} → j < length (input_of_circuit (circuit_of c) k).bits → get_or starts k 0 + j < records c
  bit-inside u =
      let s : InputStands c h k = input-stands c h k l in
      omega (arith, s.len, s.within, s.some, start-at)

  pub bit-read : {j : ℕ} → j < length (input_of_circuit (circuit_of c) k).bits → field c (get_or starts k 0 + j) 1 ≡ get_or (input_of_circuit (circuit_of c) k).bits j 0
  bit-read {j} u = ap (λ (x : ℕ). field c (x + j) 1) start-at ∙ sym ((input-stands c h k l).bit j u)
