-- Every coefficient of the table is small: by one more test that antt computes.
-- Assumes nothing.
use Rattle.std.specs.Prelude.{List, [], ◌∷◌, Bool, ◌&&◌, ℕ, zero, suc, T, leb, get_or, ℤ, pos, nat_abs}
use Rattle.std.proofs.Common.{leb→le}
use Rattle.std.proofs.Math.Facts.{and_yes}
use Rattle.laws.specs.Half.{evenb, evenb→even}
use Rattle.penalty.specs.declared.Kind.{Kind}
use Rattle.penalty.specs.Rows.{rows, row_of}
use Rattle.penalty.specs.Every.{every_kind, kind_at}
use Rattle.penalty.specs.Small.{Small, each, small}

each_at : (cs : List ℤ) → T (each cs) → (i : ℕ) → T (small (get_or cs i (pos 0)))
each_at [] t i = tt
each_at (c ∷ cs) t zero = (and_yes (small c) (each cs) t).0
each_at (c ∷ cs) t (suc i) = each_at cs (and_yes (small c) (each cs) t).1 i

all_small : Kind → Bool
unfolding rows
all_small kind = small (row_of kind).offset && (each (row_of kind).linear && each (row_of kind).pairs)

tested : T (every_kind all_small)
unfolding all_small row_of
tested = tt

means : (c : ℤ) → T (small c) → Small c
means c t = let both = and_yes (leb (nat_abs c) 6) (evenb c) t in record { size = leb→le (nat_abs c) 6 both.0; even = evenb→even c both.1 }

module _ (kind : Kind) where
  parts : T (small (row_of kind).offset) × T (each (row_of kind).linear && each (row_of kind).pairs)
  unfolding all_small
  parts = and_yes (small (row_of kind).offset) (each (row_of kind).linear && each (row_of kind).pairs) (kind_at all_small tested kind)

  pub offset-small : Small (row_of kind).offset
  offset-small = means (row_of kind).offset parts.0

  pub linear-small : (i : ℕ) → Small (get_or (row_of kind).linear i (pos 0))
  linear-small i = means _ (each_at (row_of kind).linear (and_yes (each (row_of kind).linear) (each (row_of kind).pairs) parts.1).0 i)

  pub pairs_small : (i : ℕ) → Small (get_or (row_of kind).pairs i (pos 0))
  pairs_small i = means _ (each_at (row_of kind).pairs (and_yes (each (row_of kind).linear) (each (row_of kind).pairs) parts.1).1 i)
