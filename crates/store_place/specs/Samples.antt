-- The definitions at small models, computed: penalties with equal qubits, a sum that returns to 0 and stays, and the rows that are left.
-- Assumes nothing.
use Rattle.std.specs.Prelude.{true, [], ◌∷◌, ◌≡◌, refl, ℕ, pos, negsuc}
use Rattle.penalty.specs.declared.Kind.TheVariants.{And}
use Rattle.penalty.specs.Rows.{Slot, in₁, in₂, in₃, res, aux, car, rows, row_of}
use Rattle.energy.specs.Model.{Model, empty, add, add_linear, give, without, fix, counted, variables}
use Rattle.store_pairs.specs.Store.{canonical}
use Rattle.store_place.specs.Logged.{log_pair, logged, settled}

-- operands x and y, result z
abbrev wired : ℕ → ℕ → ℕ → Slot → ℕ
wired x y z in₁ = x
wired x y z in₂ = y
wired x y z in₃ = x
wired x y z res = z
wired x y z aux = z
wired x y z car = z

-- And of qubit 2 with itself, as qubit 3: the pair 2 2 joins the linear entry, and the two pairs 2 3 are two entries of the log
twice : Model
unfolding row_of rows logged log_pair add_linear
twice = logged (wired 2 2 3) (row_of And) (empty 4)

log : twice.pairs ≡ (131075, negsuc 7) ∷ (131075, negsuc 7) ∷ []
unfolding twice
log = refl

-- "And(0,0) as bad state: linear 2 has -6, offset 6, one variable", in halves, once qubit 3 is fixed
finished : Model
unfolding twice canonical add fix give without add_linear
finished = fix 3 true (settled twice)

linear : finished.linear ≡ pos 0 ∷ pos 0 ∷ negsuc 11 ∷ pos 0 ∷ []
unfolding finished
linear = refl

offset : finished.offset ≡ pos 12
unfolding finished
offset = refl

one : variables finished ≡ 1
unfolding finished counted
one = refl
