-- `decimals::read_negative` meets its contract: 0 less a number up to 2^63 is an i64.
use Rattle.std.proofs.Common.{◌≡◌, Option, Some, None, SomeIff, sym, ap, ◌∙◌, subst, ℕ, zero, suc, ◌^◌, ◌≤◌, arith, ℤ, pos, neg_ℤ, ◌-ℤ◌, w64, SFits}
use lib.IntN.{+ℤ_idl}
use Rattle.decimals.specs.Upto.{told-bound, negative-is, negative-none}
use Rattle.decimals.proofs.read_negative.Goals as goal

less : (n : ℕ) → pos 0 -ℤ pos n ≡ neg_ℤ (pos n)
less n = +ℤ_idl (neg_ℤ (pos n))

fits : (n : ℕ) → n ≤ 2 ^ 63 → SFits w64 (neg_ℤ (pos n))
fits zero h = record { sfits = omega arith }
fits (suc n) h = record { sfits = omega arith }

-- what fits is answered
sure : {P : Type 0} {v : ℤ} (r : Option ℤ) → SomeIff r P v → P → r ≡ Some v
sure None h p = absurd (h p)
sure (Some x) h p = ap Some h.1

pub returns-in_err-n : goal.returns-in_err-n
returns-in_err-n c = c.from_residual.ensures ∙ negative-none _ (sym c.in_err-n.ensures)

pub returns : goal.returns
returns c =
    let n = c.in_ok-n.n in
    sure _ c.checked_sub_unsigned.ensures (subst (SFits w64) (sym (less n)) (fits n (told-bound (2 ^ 63) _ _ (sym c.in_ok-n.ensures))))
    ∙ ap Some (less n)
    ∙ negative-is _ _ (sym c.in_ok-n.ensures)
