use Rattle.std.proofs.Common.{◌≡◌, List, ℕ, ◌<◌, arith, length}
use Rattle.circuit.specs.Meaning.{circuit_of}
use Rattle.circuit.specs.Starts.{starts_of}
use Rattle.text.specs.Ready.{Readable}
use Rattle.text.specs.Paste.{room-first}
use Rattle.text.specs.Left.{left-start, left_as, left-print, left_end, left-room}
use Rattle.text_print.proofs.Parts.{inputs-all, inputs-next, inputs-none, Place, place}
use Rattle.text_print.proofs.section.put_inputs.Goals as goal

-- where the bits of the input stand
stands : {c qs fs : List ℕ} (r : Readable c qs fs) {st : List ℕ} {n : ℕ} → st ≡ starts_of c 23 → n ≡ length (circuit_of c).inputs → (k : ℕ) → k < n → Place r st k
stands r {st} e f k h = place r st e k (omega arith)

pub loop-k-init : goal.loop-k-init
loop-k-init c = left_as (inputs-all _ _ _) left-start

pub offset_bounds-s-k : goal.offset_bounds-s-k
offset_bounds-s-k c = record { fits = omega (arith, (stands c.requires.0 c.requires.1 c.requires.2 _ c.loop-k-test.true).small) }

pub bounds-s-k : goal.bounds-s-k
bounds-s-k c = omega (arith, (stands c.requires.0 c.requires.1 c.requires.2 _ c.loop-k-test.true).small)

pub offset_bounds-s-k-in-loop-k : goal.offset_bounds-s-k-in-loop-k
offset_bounds-s-k-in-loop-k c = record { fits = omega (arith, (stands c.requires.0 c.requires.1 c.requires.2 _ c.loop-k-test.true).small) }

pub bounds-s-k-in-loop-k : goal.bounds-s-k-in-loop-k
bounds-s-k-in-loop-k c = omega (arith, (stands c.requires.0 c.requires.1 c.requires.2 _ c.loop-k-test.true).small)

pub overflow_sub-bits : goal.overflow_sub-bits
overflow_sub-bits c = omega (arith, (stands c.requires.0 c.requires.1 c.requires.2 _ c.loop-k-test.true).some)

pub put_input-next-requires : goal.put_input-next-requires
put_input-next-requires c = (c.requires.0, c.requires.1, omega (arith, c.requires.2, c.loop-k-test.true), (stands c.requires.0 c.requires.1 c.requires.2 _ c.loop-k-test.true).size, room-first _ (left-room c.requires.3 (left_as (inputs-next _ _ _ c.loop-k.k (omega (arith, c.requires.2, c.loop-k-test.true))) c.loop-k.invariant)))

pub loop-k-preserved : goal.loop-k-preserved
loop-k-preserved c = left-print (left_as (inputs-next _ _ _ c.loop-k.k (omega (arith, c.requires.2, c.loop-k-test.true))) c.loop-k.invariant) c.put_input-next.ensures

pub returns : goal.returns
returns c = left_end (left_as (inputs-none _ _ _ _ (omega (arith, c.requires.2, c.loop-k-test.false))) c.loop-k.invariant)
