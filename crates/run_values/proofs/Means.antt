-- What the code reads means what 01 says: the rule that it makes is the name's law, its operands are the law's, and it settles a qubit as the law does.
-- Assumes nothing.
use mathlib.Core.Path.{◌≡◌, refl, sym, ap, ap₂, ◌∙◌}
use mathlib.Core.Bool.{Bool, true, false, cond}
use mathlib.Core.List.{List, ◌++◌, map}
use Rattle.std.specs.Prelude.{Ok, Err}
use Prim.Native.Nat.{ℕ, zero, suc, ◌+◌, ◌*◌, ◌-◌, ◌/◌, ◌%◌, ◌≤◌, ◌<◌}
use native.Mathlib.Omega.{arith}
use native.Mathlib.Nat.{add-zero}
use lib.Dec.{eqb}
use borrow.Author.Tests.{ne_eqb, lt-ltb}
use lib.ListN.{length, get_or, get_or-map}
use Rattle.circuit.specs.declared.GateKind.{GateKind}
use Rattle.circuit.specs.declared.GateKind.TheVariants as kind
use Rattle.circuit.specs.File.{field, kind_at, byte1}
use Rattle.circuit.specs.Meaning.{list_of, gate_of, gate_at, circuit_of}
use Rattle.energy.specs.Circuit.{Bad, ConstFalse}
use Rattle.units.specs.declared.Qubit.{Qubit}
use Rattle.units.specs.Name.{qubit}
use Rattle.numbering.specs.State.{State, origin, role, qubit_of}
use Rattle.numbering.specs.Numbered.{bad_gates}
use Rattle.run_rules.specs.declared.Rule.{Rule}
use Rattle.run_rules.specs.declared.Rule.TheVariants as rule
use Rattle.run_rules.specs.declared.Act.{Act}
use Rattle.run_rules.specs.declared.Act.TheVariants as act
use Rattle.run_values.specs.declared.Stop.TheVariants.{ZeroDivisor}
use Rattle.run_rules.specs.Rules.{Law, result_law, carry_law, aux_law, join_law, law_of, operands}
use Rattle.run_values.specs.Need.{stopped, decide, put, bit_of, number, divided, settle}
use Rattle.run_rules.specs.Layout.{named, is_division, Laid, Formed}
use Rattle.run_rules.specs.Code.{name_in, meant, result_rule, adder_rule, few_of, act_of, reading_of, rule_by, join_rule, rule_at, RuleAsked, part_of, PartAsked, ListsAsked, operands_by, operands_of, bits_at, read}
use Rattle.run_values.specs.Code.{divided_by, value_in, settled, PartsAsked}

-- the qubits of list k
abbrev pub listed : List ℕ → List ℕ → ℕ → List ℕ
listed b qs k = map (name_in qs) (list_of b k)

-- the lists of a rule are numbered below 64
abbrev pub Numbered : Act → Type 0
Numbered act.Plain = Unit {0}
Numbered (act.Quotient i n d) = (n < 64) × (d < 64)
Numbered (act.Remainder i n d) = (n < 64) × (d < 64)
Numbered act.Nothing = Unit {0}

module _ (b qs : List ℕ) (g : ℕ) where
  abbrev x : Qubit
  x = qubit (name_in qs (field b g 0))

  abbrev y : Qubit
  y = qubit (name_in qs (field b g 1))

  abbrev z : Qubit
  z = qubit (name_in qs (field b g 2))

  result-means : (k : GateKind) → meant (listed b qs) (result_rule k (byte1 b g) (field b g 0) (field b g 1) x y z) ≡ result_law (name_in qs) (gate_of b k g)
  result-means kind.ConstFalse = refl
  result-means kind.ConstTrue = refl
  result-means kind.InputBit = refl
  result-means kind.Not = refl
  result-means kind.And = refl
  result-means kind.Nand = refl
  result-means kind.Or = refl
  result-means kind.Matriarch1 = refl
  result-means kind.CarryHalfAdder = refl
  result-means kind.ResultHalfAdder = refl
  result-means kind.CarryFullAdder = refl
  result-means kind.ResultFullAdder = refl
  result-means kind.Quotient = refl
  result-means kind.Remainder = refl

  carry-means : (k : GateKind) → meant (listed b qs) (adder_rule k (rule.CarryHalfAdder x y) (rule.CarryFullAdder x y z)) ≡ carry_law (name_in qs) (gate_of b k g)
  carry-means kind.ConstFalse = refl
  carry-means kind.ConstTrue = refl
  carry-means kind.InputBit = refl
  carry-means kind.Not = refl
  carry-means kind.And = refl
  carry-means kind.Nand = refl
  carry-means kind.Or = refl
  carry-means kind.Matriarch1 = refl
  carry-means kind.CarryHalfAdder = refl
  carry-means kind.ResultHalfAdder = refl
  carry-means kind.CarryFullAdder = refl
  carry-means kind.ResultFullAdder = refl
  carry-means kind.Quotient = refl
  carry-means kind.Remainder = refl

  aux-means : (k : GateKind) → meant (listed b qs) (adder_rule k (rule.AuxHalfAdder x y) (rule.AuxFullAdder x y z)) ≡ aux_law (name_in qs) (gate_of b k g)
  aux-means kind.ConstFalse = refl
  aux-means kind.ConstTrue = refl
  aux-means kind.InputBit = refl
  aux-means kind.Not = refl
  aux-means kind.And = refl
  aux-means kind.Nand = refl
  aux-means kind.Or = refl
  aux-means kind.Matriarch1 = refl
  aux-means kind.CarryHalfAdder = refl
  aux-means kind.ResultHalfAdder = refl
  aux-means kind.CarryFullAdder = refl
  aux-means kind.ResultFullAdder = refl
  aux-means kind.Quotient = refl
  aux-means kind.Remainder = refl

  result-numbered : (k : GateKind) → (is_division k ≡ true → (field b g 0 < 64) × (field b g 1 < 64)) → Numbered (act_of (result_rule k (byte1 b g) (field b g 0) (field b g 1) x y z))
  unfolding is_division
  result-numbered kind.ConstFalse h = tt
  result-numbered kind.ConstTrue h = tt
  result-numbered kind.InputBit h = tt
  result-numbered kind.Not h = tt
  result-numbered kind.And h = tt
  result-numbered kind.Nand h = tt
  result-numbered kind.Or h = tt
  result-numbered kind.Matriarch1 h = tt
  result-numbered kind.CarryHalfAdder h = tt
  result-numbered kind.ResultHalfAdder h = tt
  result-numbered kind.CarryFullAdder h = tt
  result-numbered kind.ResultFullAdder h = tt
  result-numbered kind.Quotient h = h refl
  result-numbered kind.Remainder h = h refl

  adder-numbered : (k : GateKind) (h f : Rule) → Numbered (act_of h) → Numbered (act_of f) → Numbered (act_of (adder_rule k h f))
  adder-numbered kind.ConstFalse h f p q = tt
  adder-numbered kind.ConstTrue h f p q = tt
  adder-numbered kind.InputBit h f p q = tt
  adder-numbered kind.Not h f p q = tt
  adder-numbered kind.And h f p q = tt
  adder-numbered kind.Nand h f p q = tt
  adder-numbered kind.Or h f p q = tt
  adder-numbered kind.Matriarch1 h f p q = tt
  adder-numbered kind.CarryHalfAdder h f p q = tt
  adder-numbered kind.ResultHalfAdder h f p q = p
  adder-numbered kind.CarryFullAdder h f p q = tt
  adder-numbered kind.ResultFullAdder h f p q = q
  adder-numbered kind.Quotient h f p q = tt
  adder-numbered kind.Remainder h f p q = tt

-- ---- the rule of a name

module _ (b starts : List ℕ) (bad_from : ℕ) (laid : Laid b starts bad_from) where
  pub bad-gate : (i : ℕ) → i < length (circuit_of b).bads → get_or (bad_gates (circuit_of b)) i 0 ≡ field b (bad_from + i) 0
  bad-gate i h =
      get_or-map (λ (d : Bad). d.gate) (circuit_of b).bads i (record { gate = 0; nid = 0 }) ∙ ap (λ (d : Bad). d.gate) (laid.bads i h)

  module _ (s : State) (formed : Formed (circuit_of b) s) (q : ℕ) (named : q < s.next) where
    abbrev made : Rule
    made = rule_at b s.qubits s.origins s.roles bad_from (qubit q)

    gate-is : 1 ≤ role s q → role s q ≤ 3 → get_or (circuit_of b).gates (origin s q) ConstFalse ≡ gate_of b (kind_at b (origin s q)) (origin s q)
    unfolding gate_at
    gate-is l h = laid.gates (origin s q) (formed.of-gate q named l h)

    join-means : role s q ≡ 4 → meant (listed b s.qubits) (join_rule b s.qubits bad_from (qubit q) (origin s q)) ≡ join_law (circuit_of b) s q (origin s q)
    join-means e =
        let h : origin s q < length (circuit_of b).bads = formed.of-join q named e in
        ap₂ Law.Or (pick (eqb (origin s q) 1) (ap (name_in s.qubits) (ap (λ (n : ℕ). field b n 0) (sym (add-zero bad_from)) ∙ sym (bad-gate 0 (omega arith)))))
        (ap (name_in s.qubits) (sym (bad-gate (origin s q) h)))
      where
        pick : (t : Bool) {a d : ℕ} → a ≡ d → (cond t (qubit a) (qubit (q - 1))).0 ≡ cond t d (q - 1)
        pick true e = e
        pick false e = refl

    -- the rule that the code makes is the name's
    pub rule-means : meant (listed b s.qubits) made ≡ law_of (circuit_of b) s q
    unfolding rule_at law_of
    rule-means = go (role s q) refl
      where
        go : (r : ℕ) → role s q ≡ r
            → meant (listed b s.qubits) (cond (eqb r 4) (join_rule b s.qubits bad_from (qubit q) (origin s q)) (cond (eqb r 0) rule.Invalid (cond (lib.Dec.ltb 4 r) rule.Invalid (rule_by (reading_of b s.qubits (origin s q)) r))))
            ≡ cond (eqb r 1) (result_law (qubit_of s) (get_or (circuit_of b).gates (origin s q) ConstFalse))
            (cond (eqb r 2) (carry_law (qubit_of s) (get_or (circuit_of b).gates (origin s q) ConstFalse))
            (cond (eqb r 3) (aux_law (qubit_of s) (get_or (circuit_of b).gates (origin s q) ConstFalse))
            (cond (eqb r 4) (join_law (circuit_of b) s q (origin s q)) Law.Invalid)))
        go zero e = refl
        go (suc zero) e = rw (gate-is (omega arith) (omega arith)) (result-means b s.qubits (origin s q) (kind_at b (origin s q)))
        go (suc (suc zero)) e = rw (gate-is (omega arith) (omega arith)) (carry-means b s.qubits (origin s q) (kind_at b (origin s q)))
        go (suc (suc (suc zero))) e = rw (gate-is (omega arith) (omega arith)) (aux-means b s.qubits (origin s q) (kind_at b (origin s q)))
        go (suc (suc (suc (suc zero)))) e = join-means e
        go (suc (suc (suc (suc (suc r))))) e =
            let R : ℕ = suc (suc (suc (suc (suc r)))) in
            rw (ne_eqb R 4 (λ e. omega arith), ne_eqb R 0 (λ e. omega arith), lt-ltb 4 R (omega arith), ne_eqb R 1 (λ e. omega arith), ne_eqb R 2 (λ e. omega arith), ne_eqb R 3 (λ e. omega arith))

    pub rule-numbered : Numbered (act_of made)
    unfolding rule_at
    rule-numbered = go (role s q) refl
      where
        go : (r : ℕ) → role s q ≡ r
            → Numbered (act_of (cond (eqb r 4) (join_rule b s.qubits bad_from (qubit q) (origin s q)) (cond (eqb r 0) rule.Invalid (cond (lib.Dec.ltb 4 r) rule.Invalid (rule_by (reading_of b s.qubits (origin s q)) r)))))
        go zero e = tt
        go (suc zero) e = result-numbered b s.qubits (origin s q) (kind_at b (origin s q)) (laid.divisions (origin s q) (formed.of-gate q named (omega arith) (omega arith)))
        go (suc (suc zero)) e = adder-numbered b s.qubits (origin s q) (kind_at b (origin s q)) _ _ tt tt
        go (suc (suc (suc zero))) e = adder-numbered b s.qubits (origin s q) (kind_at b (origin s q)) _ _ tt tt
        go (suc (suc (suc (suc zero)))) e = tt
        go (suc (suc (suc (suc (suc r))))) e =
            let R : ℕ = suc (suc (suc (suc (suc r)))) in
            rw (ne_eqb R 4 (λ e. omega arith), ne_eqb R 0 (λ e. omega arith), lt-ltb 4 R (omega arith)) tt

    pub rule-asked : RuleAsked b bad_from s.origins s.roles q
    rule-asked =
        record {
          has-origin = omega (arith, formed.origins);
          has-role = omega (arith, formed.roles);
          new = λ e. omega (arith, formed.new q e);
          of-gate = λ l h. omega (arith, laid.gates-there, formed.of-gate q named l h);
          of-join = λ e. omega (arith, laid.bads-there, formed.of-join q named e);
        }

-- ---- what it reads and does

module _ (b starts : List ℕ) (bad_from : ℕ) (laid : Laid b starts bad_from) where
  part-asked : (k : ℕ) → k < 64 → PartAsked starts k
  part-asked k h = record { there = omega (arith, laid.starts-there); rises = laid.lists-rise k h }

  pub lists-asked : (a : Act) → Numbered a → ListsAsked starts a
  lists-asked act.Plain n = tt
  lists-asked (act.Quotient i n d) p = (part-asked n p.0, part-asked d p.1)
  lists-asked (act.Remainder i n d) p = (part-asked n p.0, part-asked d p.1)
  lists-asked act.Nothing n = tt

  module _ (qs : List ℕ) where
    list-is : (k : ℕ) → k < 64 → bits_at b qs (part_of starts k) ≡ listed b qs k
    list-is k h = ap (map (name_in qs)) (sym (laid.lists k h))

    -- its operands are the law's
    pub read-means : (r : Rule) → Numbered (act_of r) → read b qs (operands_of starts r) ≡ operands (meant (listed b qs) r)
    unfolding read named
    read-means (rule.Not x) n = refl
    read-means (rule.And x y) n = refl
    read-means (rule.Nand x y) n = refl
    read-means (rule.Matriarch1 x y) n = refl
    read-means (rule.Or x y) n = refl
    read-means (rule.AuxHalfAdder x y) n = refl
    read-means (rule.AuxFullAdder x y z) n = refl
    read-means (rule.CarryHalfAdder x y) n = refl
    read-means (rule.CarryFullAdder x y z) n = refl
    read-means (rule.ResultHalfAdder x y) n = refl
    read-means (rule.ResultFullAdder x y z) n = refl
    read-means (rule.Quotient i k l) n = ap₂ ◌++◌ (list-is k n.0) (list-is l n.1)
    read-means (rule.Remainder i k l) n = ap₂ ◌++◌ (list-is k n.0) (list-is l n.1)
    read-means rule.Invalid n = refl

    divided-means : (rest : Bool) (f : ℕ → ℕ → ℕ) → ((n d : ℕ) → cond rest (n % d) (n / d) ≡ f n d) → (i n d q : ℕ) (t : List ℕ)
        → settled (divided_by rest i n d (qubit q)) q t ≡ divided f i n d q t
    divided-means rest f e i n d q t = go (eqb d 0)
      where
        go : (z : Bool) → settled (cond z (Err (ZeroDivisor (qubit q))) (Ok (bit_of i (cond rest (n % d) (n / d))))) q t
            ≡ decide z (λ t. stopped (ZeroDivisor (qubit q))) (λ t. put q (bit_of i (f n d)) t) t
        go true = refl
        go false = ap (λ (m : ℕ). put q (bit_of i m) t) (e n d)

    -- and it settles a qubit as the law does
    pub settle-means : (r : Rule) → Numbered (act_of r) → (q : ℕ) (t : List ℕ)
        → settled (value_in r (operands_of starts r) b qs t (qubit q)) q t ≡ settle (meant (listed b qs) r) q t
    unfolding value_in settle
    settle-means (rule.Not x) n q t = refl
    settle-means (rule.And x y) n q t = refl
    settle-means (rule.Nand x y) n q t = refl
    settle-means (rule.Matriarch1 x y) n q t = refl
    settle-means (rule.Or x y) n q t = refl
    settle-means (rule.AuxHalfAdder x y) n q t = refl
    settle-means (rule.AuxFullAdder x y z) n q t = refl
    settle-means (rule.CarryHalfAdder x y) n q t = refl
    settle-means (rule.CarryFullAdder x y z) n q t = refl
    settle-means (rule.ResultHalfAdder x y) n q t = refl
    settle-means (rule.ResultFullAdder x y z) n q t = refl
    settle-means (rule.Quotient i k l) n q t =
        ap₂ (λ (x y : List ℕ). settled (divided_by false i (number t x) (number t y) (qubit q)) q t) (list-is k n.0) (list-is l n.1)
        ∙ divided-means false (λ a b. a / b) (λ n d. refl) i (number t (listed b qs k)) (number t (listed b qs l)) q t
    settle-means (rule.Remainder i k l) n q t =
        ap₂ (λ (x y : List ℕ). settled (divided_by true i (number t x) (number t y) (qubit q)) q t) (list-is k n.0) (list-is l n.1)
        ∙ divided-means true (λ a b. a % b) (λ n d. refl) i (number t (listed b qs k)) (number t (listed b qs l)) q t
    settle-means rule.Invalid n q t = refl

  -- what reading them asks
  part-there : (k : ℕ) → k < 64 → (16 * ((part_of starts k).from + (part_of starts k).bits) ≤ length b) × ((part_of starts k).bits ≤ 64)
  part-there k h = (omega (arith, laid.lists-there (k + 1) (omega arith), laid.lists-there k (omega arith), laid.lists-rise k h), omega (arith, laid.lists-short k h))

  few-small : (r : Rule) → (few_of r).n ≤ 3
  few-small (rule.Not x) = omega arith
  few-small (rule.And x y) = omega arith
  few-small (rule.Nand x y) = omega arith
  few-small (rule.Matriarch1 x y) = omega arith
  few-small (rule.Or x y) = omega arith
  few-small (rule.AuxHalfAdder x y) = omega arith
  few-small (rule.AuxFullAdder x y z) = omega arith
  few-small (rule.CarryHalfAdder x y) = omega arith
  few-small (rule.CarryFullAdder x y z) = omega arith
  few-small (rule.ResultHalfAdder x y) = omega arith
  few-small (rule.ResultFullAdder x y z) = omega arith
  few-small (rule.Quotient i k l) = omega arith
  few-small (rule.Remainder i k l) = omega arith
  few-small rule.Invalid = omega arith

  pub parts-asked : (r : Rule) → Numbered (act_of r) → PartsAsked (length b) (operands_of starts r) × ((operands_of starts r).few.n ≤ 3)
  parts-asked r n = go (act_of r) n
    where
      go : (a : Act) → Numbered a → PartsAsked (length b) (operands_by starts (few_of r) a) × ((operands_by starts (few_of r) a).few.n ≤ 3)
      go act.Plain n = (record { first = omega arith; second = omega arith; short = omega arith; short-too = omega arith }, few-small r)
      go (act.Quotient i k l) n = (record { first = (part-there k n.0).0; second = (part-there l n.1).0; short = (part-there k n.0).1; short-too = (part-there l n.1).1 }, few-small r)
      go (act.Remainder i k l) n = (record { first = (part-there k n.0).0; second = (part-there l n.1).0; short = (part-there k n.0).1; short-too = (part-there l n.1).1 }, few-small r)
      go act.Nothing n = (record { first = omega arith; second = omega arith; short = omega arith; short-too = omega arith }, few-small r)
