-- 01, "Making qubits": what a gate does with names, as functions on the tables. Assumes nothing: these are definitions.
use Rattle.std.specs.Prelude.{Bool, true, false, cond, ℕ, ◌+◌, ◌-◌, set}
use Rattle.penalty.specs.Rule.{is_adder}
use Rattle.energy.specs.Circuit.{Node, fixed, free, op, carry_of}
use Rattle.numbering_gate.specs.State.{State, mk, slot}

-- gate g's entry becomes q
abbrev pub mark : ℕ → ℕ → State → State
mark g q s = mk (set s.qubits g q) s.origins s.roles s.next

-- the next free name goes to a gate, or a join step, in a role
abbrev pub give : ℕ → ℕ → State → State
give from r s = mk s.qubits (set s.origins s.next from) (set s.roles s.next r) (s.next + 1)

-- gate g has the name given last
abbrev pub keep : ℕ → State → State
keep g s = mark g s.next s

unfoldable pub one_name : ℕ → State → State
one_name g s = keep g (give g 1 s)

-- "An adder takes aux, carry, result in that order."
unfoldable pub three_names : ℕ → State → State
three_names g s = keep g (give g 1 (give g 2 (give g 3 s)))

-- one of two ways on: of functions, so that the other is not computed
abbrev pub choose : Bool → (State → State) → (State → State) → State → State
choose true f h s = f s
choose false f h s = h s

-- What a gate does with names. The constants have qubits 0 and 1. "A carry gate visits its adder and shares the carry qubit": the one before the result.
unfoldable pub take : ℕ → Node → State → State
take g (fixed b) s = mark g (cond b 2 1) s
take g (free src) s = one_name g s
take g (op k a b d) s = choose (is_adder k) (three_names g) (one_name g) s
take g (carry_of a) s = mark g (slot s a - 1) s
