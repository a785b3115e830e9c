-- `decimals::read_digits`: the number so far and the bytes left come to what all bytes come to.
use Rattle.std.proofs.Common.{◌≡◌, ◌≤◌, drop}
use Rattle.decimals.specs.Value.{digits_up_to}
use Rattle.decimals.specs.Upto.{up_to}
use Rattle.decimals.proofs.read_digits.Given as goal

abbrev pub invariant-loop-b : goal.invariant-loop-b
invariant-loop-b l = (l.n ≤ l.most) × (digits_up_to l.most l.s ≡ up_to l.most l.n (drop l.b-index l.s))
