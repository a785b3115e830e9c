-- Gate circuits, and the circuit's own run: what the gates' rules say of each gate's value. Nothing here knows a qubit or an energy.
-- A gate is read as one of four nodes: a constant, a free bit (an input or a division bit), a row's result, an adder's carry. The laws go by the nodes.
-- Assumes nothing.
use Rattle.std.specs.Prelude.{◌≡◌, refl, Bool, true, false, cond, List, [], ◌∷◌, ◌++◌, get_or}
use Rattle.std.proofs.Common.{sym, ◌∙◌, arith}
use Prim.Native.Nat.{ℕ, zero, suc, ◌<◌}
use Rattle.penalty.specs.declared.Kind.{Kind}
use Rattle.penalty.specs.declared.Kind.TheVariants as row
use Rattle.penalty.specs.Rule.{is_adder, result_by, carry_by}
use Rattle.energy.specs.Plain.{same₃}

-- ---- circuits, as 01's table of kinds has them

pub data Gate : Type 0 where
  ConstFalse ConstTrue InputBit : Gate
  Not : ℕ → Gate
  And Nand Or : ℕ → ℕ → Gate
  -- cond, right
  Matriarch1 : ℕ → ℕ → Gate
  -- its adder
  CarryHalfAdder CarryFullAdder : ℕ → Gate
  ResultHalfAdder : ℕ → ℕ → Gate
  ResultFullAdder : ℕ → ℕ → ℕ → Gate
  -- index, the gates of the dividend, the gates of the divisor, lowest bit first
  Quotient Remainder : ℕ → List ℕ → List ℕ → Gate

pub record Bad : Type 0 where
  pub gate : ℕ
  pub nid : ℕ

pub record Constraint : Type 0 where
  pub gate : ℕ
  pub value : Bool

pub record Input : Type 0 where
  pub nid : ℕ
  pub bits : List ℕ

-- A circuit. Gates are named by their place in the list; bad states, constraints and inputs stand in file order.
pub record Circuit : Type 0 where
  pub gates : List Gate
  pub bads : List Bad
  pub constraints : List Constraint
  pub inputs : List Input

-- where a free bit comes from: the input, or a bit of a quotient or a remainder of two lists of gates
pub data Source : Type 0 where
  input : Source
  quotient remainder : ℕ → List ℕ → List ℕ → Source

pub data Node : Type 0 where
  fixed : Bool → Node
  free : Source → Node
  op : Kind → ℕ → ℕ → ℕ → Node
  carry_of : ℕ → Node

-- An operand that a kind does not have is the first operand once more: no rule and no row reads it.
abbrev pub node : Gate → Node
node ConstFalse = fixed false
node ConstTrue = fixed true
node InputBit = free input
node (Not a) = op row.Not a a a
node (And a b) = op row.And a b a
node (Nand a b) = op row.Nand a b a
node (Or a b) = op row.Or a b a
node (Matriarch1 a b) = op row.Matriarch1 a b a
node (CarryHalfAdder a) = carry_of a
node (CarryFullAdder a) = carry_of a
node (ResultHalfAdder a b) = op row.Half a b a
node (ResultFullAdder a b c) = op row.Full a b c
node (Quotient i n d) = free (quotient i n d)
node (Remainder i n d) = free (remainder i n d)

-- a circuit, as a function from gate numbers; past its end stands a constant
abbrev pub Nodes : Type 0
Nodes = ℕ → Node

abbrev pub nodes_of : List Gate → Nodes
nodes_of gs g = node (get_or gs g ConstFalse)

-- operands come earlier, and a carry's adder is an adder
abbrev pub IsAdder : Node → Type 0
IsAdder (fixed b) = ⊥
IsAdder (free src) = ⊥
IsAdder (op k a b d) = is_adder k ≡ true
IsAdder (carry_of a) = ⊥

abbrev pub IsFree : Node → Type 0
IsFree (fixed b) = ⊥
IsFree (free src) = Unit
IsFree (op k a b d) = ⊥
IsFree (carry_of a) = ⊥

-- the gates that a division reads: dividend, then divisor
abbrev pub lists : Source → List ℕ
lists input = []
lists (quotient i n d) = n ++ d
lists (remainder i n d) = n ++ d

abbrev pub AllBelow : ℕ → List ℕ → Type 0
AllBelow g [] = Unit
AllBelow g (a ∷ ls) = (a < g) × AllBelow g ls

abbrev pub Before : Nodes → ℕ → Node → Type 0
Before N g (fixed b) = Unit
Before N g (free src) = AllBelow g (lists src)
Before N g (op k a b d) = (a < g) × (b < g) × (d < g)
Before N g (carry_of a) = (a < g) × IsAdder (N a)

-- ---- the circuit's own run, from the constants and the free bits

pub record Choice : Type 0 where
  pub low : Bool
  pub high : Bool
  pub bits : ℕ → Bool

abbrev pub carry_at : (ℕ → Bool) → Node → Bool
carry_at v (fixed b) = false
carry_at v (free src) = false
carry_at v (op k a b d) = carry_by k (v a) (v b) (v d)
carry_at v (carry_of a) = false

-- a gate's value, from the values of the earlier gates
abbrev pub node_by : Nodes → Choice → (ℕ → Bool) → ℕ → Node → Bool
node_by N e v g (fixed b) = cond b e.high e.low
node_by N e v g (free src) = e.bits g
node_by N e v g (op k a b d) = result_by k (v a) (v b) (v d)
node_by N e v g (carry_of a) = carry_at v (N a)

unfoldable pub up_to : Nodes → Choice → ℕ → ℕ → Bool
up_to N e zero g = false
up_to N e (suc k) g = node_by N e (up_to N e k) g (N g)

abbrev pub value : Nodes → Choice → ℕ → Bool
value N e g = up_to N e (suc g) g

module _ (N : Nodes) (ord : (g : ℕ) → Before N g (N g)) (e : Choice) where
  carry_by-same : (v u : ℕ → Bool) (g : ℕ) → ((a : ℕ) → a < g → v a ≡ u a) → (n : Node) → Before N g n → carry_at v n ≡ carry_at u n
  carry_by-same v u g h (fixed b) t = refl
  carry_by-same v u g h (free src) t = refl
  carry_by-same v u g h (op k x y w) t = same₃ (carry_by k) (h x t.0) (h y t.1) (h w t.2)
  carry_by-same v u g h (carry_of b) t = refl

  -- a gate's value depends on the earlier gates alone
  node_by-same : (v u : ℕ → Bool) (g : ℕ) → ((a : ℕ) → a < g → v a ≡ u a) → (n : Node) → Before N g n → node_by N e v g n ≡ node_by N e u g n
  node_by-same v u g h (fixed b) t = refl
  node_by-same v u g h (free src) t = refl
  node_by-same v u g h (op k x y w) t = same₃ (result_by k) (h x t.0) (h y t.1) (h w t.2)
  node_by-same v u g h (carry_of a) t = carry_by-same v u a (λ b l. h b (omega arith)) (N a) (ord a)

  -- the depth does not matter once it is past the gate
  stable : (k m g : ℕ) → g < k → g < m → up_to N e k g ≡ up_to N e m g
  unfolding up_to
  stable zero m g h l = absurd (omega arith)
  stable (suc k) zero g h l = absurd (omega arith)
  stable (suc k) (suc m) g h l =
      node_by-same (up_to N e k) (up_to N e m) g (λ a b. stable k m a (omega arith) (omega arith)) (N g) (ord g)

  -- The run is a run: each gate has its rule's value at the values of its operands.
  pub value-step : (g : ℕ) → value N e g ≡ node_by N e (value N e) g (N g)
  unfolding up_to
  value-step g = node_by-same (up_to N e g) (value N e) g (λ a l. stable g (suc a) a l (omega arith)) (N g) (ord g)

  -- And it is the only one.
  pub value-only : (v : ℕ → Bool) → ((g : ℕ) → v g ≡ node_by N e v g (N g)) → (g : ℕ) → v g ≡ value N e g
  value-only v step g = go (suc g) g (omega arith)
    where
      go : (k g : ℕ) → g < k → v g ≡ value N e g
      go zero g l = absurd (omega arith)
      go (suc k) g l =
          step g ∙ node_by-same v (value N e) g (λ a h. go k a (omega arith)) (N g) (ord g) ∙ sym (value-step g)
