-- `decimals::read_digits` meets its contract.
use Rattle.std.proofs.Common.{rules, ◌≡◌, ◌*◌, sym, ap, ◌∙◌, List, ◌∷◌, ℕ, ◌+◌, ◌<◌, add-one, arith, length, drop, get_or, drop_of_length-le, drop-cons}
use Rattle.decimals.specs.Value.{digits_up_to}
use Rattle.decimals.specs.Upto.{up_to, up-to-start, up-to-none, up-to-end, up-to-digit, up-to-below, up-to-above, up-to-large}
use Rattle.decimals.proofs.read_digits.Goals as goal

-- the byte that comes next
coming : (s : List ℕ) (i : ℕ) → i < length s → drop i s ≡ get_or s i 0 ∷ drop (i + 1) s
coming s i h = rw (add-one i, drop-cons s i 0)

-- what all bytes come to, by the next one
next : (s : List ℕ) (m n i : ℕ) → i < length s → digits_up_to m s ≡ up_to m n (drop i s) → digits_up_to m s ≡ up_to m n (get_or s i 0 ∷ drop (i + 1) s)
next s m n i h e = e ∙ ap (up_to m n) (coming s i h)

pub returns-then-is_empty : goal.returns-then-is_empty
returns-then-is_empty c = let e : length c.args.s.now ≡ 0 = search rules in sym (up-to-none _ _ e)

pub loop-b-init : goal.loop-b-init
loop-b-init c = let h : 0 < length c.args.s.now = search rules in (omega arith, up-to-start _ _ h)

pub returns-in_err-checked_sub : goal.returns-in_err-checked_sub
returns-in_err-checked_sub c = c.from_residual.ensures ∙ sym (next _ _ _ _ c.loop-b-test.true c.loop-b.invariant.1 ∙ up-to-below _ _ _ _ (omega (arith, c.in_err-checked_sub.ensures)))

pub returns-then-d-gt9 : goal.returns-then-d-gt9
returns-then-d-gt9 c = sym (next _ _ _ _ c.loop-b-test.true c.loop-b.invariant.1 ∙ up-to-above _ _ _ _ (omega (arith, c.if-d-gt9.true, c.from-d.ensures, c.in_ok-checked_sub.ensures.0, c.in_ok-checked_sub.ensures.1)))

pub returns-then-n-most : goal.returns-then-n-most
returns-then-n-most c = sym (next _ _ _ _ c.loop-b-test.true c.loop-b.invariant.1 ∙ up-to-digit _ _ _ _ c.in_ok-checked_sub.ensures.0 (omega (arith, c.if-d-gt9.false, c.from-d.ensures, c.in_ok-checked_sub.ensures.1)) ∙ up-to-large _ _ _ (omega (arith, c.from-d.ensures, c.in_ok-checked_sub.ensures.1, c.if-n-most.true, c.if-d-gt9.false, c.requires)))

pub loop-b-preserved : goal.loop-b-preserved
loop-b-preserved c =
    (omega (arith, c.if-n-most.false, c.if-d-gt9.false, c.requires), next _ _ _ _ c.loop-b-test.true c.loop-b.invariant.1 ∙ up-to-digit _ _ _ _ c.in_ok-checked_sub.ensures.0 (omega (arith, c.if-d-gt9.false, c.from-d.ensures, c.in_ok-checked_sub.ensures.1)) ∙ ap (λ (d : ℕ). up_to c.args.most (c.loop-b.n * 10 + d) (drop (c.loop-b.b-index + 1) c.args.s.now)) (sym (c.from-d.ensures ∙ c.in_ok-checked_sub.ensures.1)))

pub returns : goal.returns
returns c = sym (c.loop-b.invariant.1 ∙ ap (up_to _ _) (drop_of_length-le _ c.loop-b-test.false) ∙ up-to-end _ _ c.loop-b.invariant.0)
