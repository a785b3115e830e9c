-- `fix_at` meets its contract: the joined qubit, a constraint, and the two constants (`Fixing`).
use Rattle.std.proofs.Common.{◌≡◌, sym, ap, ◌∙◌, ℕ, ◌+◌, ◌-◌, ◌<◌, arith, get_or}
use Rattle.model_fixes.specs.Fixing.{fixes_by, nothing, at_first, at-constraint, at_true, at-false}
use Rattle.model_fixes.proofs.fix_at.Goals as goal

pub returns-then-k-eq0 : goal.returns-then-k-eq0
returns-then-k-eq0 c = at_first c.requires.0 c.joined-qubit.result.0 c.joined-qubit.ensures ∙ ap (λ (i : ℕ). get_or (fixes_by c.args.numbered.circuit.now c.args.numbered.qubits.now c.args.numbered.next.0) i nothing) (sym c.if-k-eq0.true)

pub overflow_add-at : goal.overflow_add-at
overflow_add-at c = let h : c.args.k - 1 < c.args.numbered.count = omega (arith, c.if-k-count.true, c.if-k-eq0.false) in omega (arith, (c.requires.0.has (c.args.k - 1) h).whole)

pub named_by-qubit-requires : goal.named_by-qubit-requires
named_by-qubit-requires c = c.requires.0.has (c.args.k - 1) (omega (arith, c.if-k-count.true, c.if-k-eq0.false))

pub byte1_at-on-requires : goal.byte1_at-on-requires
byte1_at-on-requires c = (c.requires.0.has (c.args.k - 1) (omega (arith, c.if-k-count.true, c.if-k-eq0.false))).whole

pub returns-then-k-count : goal.returns-then-k-count
returns-then-k-count c =
    let h : c.args.k - 1 < c.args.numbered.count = omega (arith, c.if-k-count.true, c.if-k-eq0.false) in
    let e : c.args.k - 1 + 1 ≡ c.args.k = omega (arith, c.if-k-eq0.false) in
    at-constraint c.requires.0 (c.args.k - 1) c.named_by-qubit.result.0 c.byte1_at-on.result h c.named_by-qubit.ensures c.byte1_at-on.ensures
    ∙ ap (λ (i : ℕ). get_or (fixes_by c.args.numbered.circuit.now c.args.numbered.qubits.now c.args.numbered.next.0) i nothing) e

pub returns-then-k-count-2 : goal.returns-then-k-count-2
returns-then-k-count-2 c = at_true c.requires.0 c.args.k c.if-k-count-2.true

pub returns : goal.returns
returns c = at-false c.requires.0 c.args.k (omega (arith, c.if-k-count-2.false, c.if-k-count.false, c.requires.1))
