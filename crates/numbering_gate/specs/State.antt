-- The tables that the numbering fills, as one value. Assumes nothing: these are definitions.
use Rattle.std.specs.Prelude.{◌≡◌, List, ℕ, ◌-◌, length, get_or}
use Rattle.std.proofs.Common.{refl, ◌∙◌}
use Rattle.numbering_gate.specs.declared.Naming.{Naming}

-- `qubits`, by gate: 0 where it has no qubit, else the qubit's name + 1.
-- `origins` and `roles`, by name: the gate that took it, and as what: 1 result or value, 2 carry, 3 aux; or the join step, from 1, with 4. So 0 0 is unused.
-- `next` is the next free name.
pub record State : Type 0 where
  pub qubits : List ℕ
  pub origins : List ℕ
  pub roles : List ℕ
  pub next : ℕ

abbrev pub mk : List ℕ → List ℕ → List ℕ → ℕ → State
mk q o r n = record { qubits = q; origins = o; roles = r; next = n }

-- gate g's entry, and its qubit
abbrev pub slot : State → ℕ → ℕ
slot s g = get_or s.qubits g 0

abbrev pub qubit_of : State → ℕ → ℕ
qubit_of s g = slot s g - 1

-- the entries of the name q
abbrev pub origin : State → ℕ → ℕ
origin s q = get_or s.origins q 0

abbrev pub role : State → ℕ → ℕ
role s q = get_or s.roles q 0

-- ---- the tables as the code has them

abbrev pub state_of : Naming → State
state_of n = mk n.qubits.now n.origins.now n.roles.now n.next.0

-- what a function leaves is in the tables that it was lent, each as long as before
pub record SameTables (before after : Naming) : Type 0 where
  pub qubits : after.qubits.ghost_name ≡ before.qubits.ghost_name
  pub origins : after.origins.ghost_name ≡ before.origins.ghost_name
  pub roles : after.roles.ghost_name ≡ before.roles.ghost_name
  pub qubits_long : length after.qubits.now ≡ length before.qubits.now
  pub origins_long : length after.origins.now ≡ length before.origins.now
  pub roles_long : length after.roles.now ≡ length before.roles.now

pub same-start : {a : Naming} → SameTables a a
same-start = record { qubits = refl; origins = refl; roles = refl; qubits_long = refl; origins_long = refl; roles_long = refl }

pub same-then : {a b c : Naming} → SameTables a b → SameTables b c → SameTables a c
same-then s t =
    record {
      qubits = t.qubits ∙ s.qubits;
      origins = t.origins ∙ s.origins;
      roles = t.roles ∙ s.roles;
      qubits_long = t.qubits_long ∙ s.qubits_long;
      origins_long = t.origins_long ∙ s.origins_long;
      roles_long = t.roles_long ∙ s.roles_long;
    }
