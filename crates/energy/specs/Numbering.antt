-- A numbering of a circuit's reached gates by qubits: the data that a numbering makes, the rows that it places, and the laws that the theorem asks of it.
-- The theorems that an edit of a definition breaks are in proofs/Numbering.antt.
-- Assumes nothing.
use Rattle.std.specs.Prelude.{◌≡◌, refl, ◌⊎◌, cond, List, [], ◌∷◌, ◌++◌, map, ℕ, suc, ◌+◌, ◌≤◌, ◌<◌}
use Rattle.std.proofs.Common.{inl, inr}
use Rattle.penalty.specs.declared.Kind.TheVariants as row
use Rattle.energy.specs.Plain.{Setting, Row, more, Obey, Sorted, Free}
use Rattle.energy.specs.Circuit.{Nodes, Node, fixed, free, op, carry_of, lists, Before, IsFree}

-- ---- names

-- The name of a gate's value, from the first name that the gate takes: 0 and 1 for the constants, an adder's carry and result after its aux.
abbrev pub name_by : (ℕ → ℕ) → ℕ → Node → ℕ
name_by base g (fixed b) = cond b 1 0
name_by base g (free src) = base g
name_by base g (op k a b d) = base g + more k
name_by base g (carry_of a) = base a + 1

unfoldable pub name : Nodes → (ℕ → ℕ) → ℕ → ℕ
name N base g = name_by base g (N g)

-- the row of a gate: a constant, a free bit and a carry have none
abbrev pub row_by : Nodes → (ℕ → ℕ) → ℕ → Node → List Row
row_by N base g (fixed b) = []
row_by N base g (free src) = []
row_by N base g (op k a b d) =
    record { kind = k; x = name N base a; y = name N base b; w = name N base d; out = base g } ∷ []
row_by N base g (carry_of a) = []

abbrev pub gate_rows : Nodes → (ℕ → ℕ) → List ℕ → List Row
gate_rows N base [] = []
gate_rows N base (g ∷ gs) = row_by N base g (N g) ++ gate_rows N base gs

-- the bad states' joins: the first with the second, that result with the third, and so on, each under a new name
abbrev pub joins : ℕ → ℕ → List ℕ → List Row
joins q next [] = []
joins q next (p ∷ ps) = record { kind = row.Or; x = q; y = p; w = q; out = next } ∷ joins next (suc next) ps

abbrev pub joined : ℕ → ℕ → List ℕ → ℕ
joined q next [] = q
joined q next (p ∷ ps) = joined next (suc next) ps

abbrev pub In : ℕ → List ℕ → Type 0
In g [] = ⊥
In g (h ∷ hs) = (g ≡ h) ⊎ In g hs

pub in_left : (g : ℕ) (hs ts : List ℕ) → In g hs → In g (hs ++ ts)
in_left g [] ts i = absurd i
in_left g (h ∷ hs) ts (inl e) = inl e
in_left g (h ∷ hs) ts (inr i) = inr (in_left g hs ts i)

pub in-last : (g : ℕ) (hs : List ℕ) → In g (hs ++ (g ∷ []))
in-last g [] = inl refl
in-last g (h ∷ hs) = inr (in-last g hs)

pub in-snoc : (g l : ℕ) (hs : List ℕ) → In g (hs ++ (l ∷ [])) → In g hs ⊎ (g ≡ l)
in-snoc g l [] (inl e) = inr e
in-snoc g l [] (inr i) = absurd i
in-snoc g l (h ∷ hs) (inl e) = inl (inl e)
in-snoc g l (h ∷ hs) (inr i) = go (in-snoc g l hs i)
  where
    go : In g hs ⊎ (g ≡ l) → In g (h ∷ hs) ⊎ (g ≡ l)
    go (inl i) = inl (inr i)
    go (inr e) = inr e

abbrev pub AllIn : List ℕ → List ℕ → Type 0
AllIn [] hs = Unit
AllIn (g ∷ gs) hs = In g hs × AllIn gs hs

abbrev pub Operands : List ℕ → Node → Type 0
Operands gs (fixed b) = Unit
Operands gs (free src) = Unit
Operands gs (op k a b d) = In a gs × In b gs × In d gs
Operands gs (carry_of a) = In a gs

-- the gates that a node reads and no row does
abbrev pub reads : Node → List ℕ
reads (fixed b) = []
reads (free src) = lists src
reads (op k a b d) = []
reads (carry_of a) = []

-- A numbered circuit: the data that a numbering makes, and no proof.
pub record Named : Type 0 where
  -- the circuit, with the bad states bad ∷ bads
  pub nodes : Nodes
  pub bad : ℕ
  pub bads : List ℕ
  -- the reached gates, in the order in which their rows were added
  pub reached : List ℕ
  -- the first name that a reached gate took
  pub base : ℕ → ℕ
  -- the first join's name, and the number of all names
  pub next : ℕ
  pub count : ℕ
  -- the gate that a free qubit belongs to
  pub origin : ℕ → ℕ

abbrev pub name_in : Named → ℕ → ℕ
name_in d g = name d.nodes d.base g

-- all rows, in the order in which they are added: those of the gates, then the joins
abbrev pub rows : Named → List Row
rows d = gate_rows d.nodes d.base d.reached ++ joins (name_in d d.bad) d.next (map (name_in d) d.bads)

-- the joined qubit
abbrev pub top : Named → ℕ
top d = joined (name_in d d.bad) d.next (map (name_in d) d.bads)

-- What the numbering has to prove of that. How it came by it does not matter.
pub record Numbering (d : Named) : Type 0 where
  pub ordered : (g : ℕ) → Before d.nodes g (d.nodes g)
  pub closed : (g : ℕ) → In g d.reached → Operands d.reached (d.nodes g)
  -- what a division reads is reached too; the theorem does without that
  pub divisions : (g : ℕ) → In g d.reached → AllIn (reads (d.nodes g)) d.reached
  pub bad-in : In d.bad d.reached
  pub bads-in : AllIn d.bads d.reached
  pub sorted : Sorted 2 (rows d) d.count
  -- a free gate has a name that no row takes, and that leads back to it
  pub frees : (g : ℕ) → In g d.reached → IsFree (d.nodes g)
      → (2 ≤ d.base g) × (d.base g < d.count) × (d.origin (d.base g) ≡ g) × Free (rows d) (d.base g)
  -- and there are no other names
  pub covered : (q : ℕ) → 2 ≤ q → q < d.count → Free (rows d) q
      → (g : ℕ) × In g d.reached × IsFree (d.nodes g) × (d.base g ≡ q)

-- ---- the run of the rows is the run of the circuit

pub obey-left : (σ : Setting) (rs ts : List Row) → Obey σ (rs ++ ts) → Obey σ rs
obey-left σ [] ts o = tt
obey-left σ (r ∷ rs) ts o = (o.0, obey-left σ rs ts o.1)

pub obey-right : (σ : Setting) (rs ts : List Row) → Obey σ (rs ++ ts) → Obey σ ts
obey-right σ [] ts o = o
obey-right σ (r ∷ rs) ts o = obey-right σ rs ts o.1
