-- `write::put_sign` meets its contract: a number that is not below 0 has no sign.
use Rattle.std.proofs.Common.{◌≡◌, refl, [], ℕ, ℤ, pos, negsuc, arith, w64, SFits, ◌≤ℤ◌}
use Rattle.laws.specs.Machine.{lt-false}
use Rattle.text.specs.Paste.{nothing, printed-as}
use Rattle.text.specs.Signed.{sign}
use Rattle.text.proofs.write.put_sign.Goals as goal

none : {k : ℕ} (z : ℤ) → pos k ≤ℤ z → sign z ≡ []
none (pos n) h = refl
none (negsuc n) h = absurd h.le

bound : SFits w64 (pos 0)
bound = record { sfits = omega arith }

pub returns-else-z-lt0 : goal.returns-else-z-lt0
returns-else-z-lt0 c = printed-as (none c.args.z (lt-false w64 c.ranges.z bound c.if-z-lt0.false)) (nothing _ _)
