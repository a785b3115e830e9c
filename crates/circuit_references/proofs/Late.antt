-- A division's lists by their largest gates, and operands field by field: what `earlier::late_gate` answers. Assumes nothing.
use Rattle.std.specs.Prelude.{None}
use Prim.Native.Nat.{ℕ, ◌≤◌, ◌<◌, ◌+◌}
use mathlib.Core.Path.{◌≡◌}
use mathlib.Core.Bool.{true, false, not, ◌&&◌, ◌||◌, or-false}
use mathlib.Core.List.{List}
use native.Mathlib.Omega.{arith}
use borrow.Author.Tests.{le-leb, lt-leb, eqb-true}
use lib.Dec.{leb, ltb, eqb}
use Rattle.circuit.specs.File.{kind_byte, field}
use Rattle.circuit.specs.Count.{by-test}
use Rattle.circuit.specs.Meaning.{list_of}
use Rattle.circuit.specs.Form.{first_broken, used_fields}
use Rattle.circuit.specs.Passing.{neither}
use Rattle.circuit.specs.Earlier.{named_by, not_below}
use Rattle.circuit.specs.Partner.{wrong_adder, empty_list}
use Rattle.circuit.specs.Tops.{tops_of, top_at, top-at, below_top, below-append, below-fields, empty-top}

module _ (c : List ℕ) (n : ℕ) {kind : ℕ} (k : kind ≡ kind_byte c n) where
  pub late-lists : first_broken c ≡ None → {tops : List ℕ} → tops ≡ tops_of c → {x y first second : ℕ} → x ≡ field c n 0 → y ≡ field c n 1 → 12 ≤ kind → first ≡ top_at tops x → second ≡ top_at tops y → (ltb n first || ltb n second) ≡ not_below n (named_by c n)
  unfolding named_by
  late-lists form t {x} {y} i j l f s =
      rw (le-leb 12 (kind_byte c n) (omega arith), below-append n (list_of c (field c n 0)) (list_of c (field c n 1)), below_top, below_top, f, s, t, i, j, top-at c form (field c n 0), top-at c form (field c n 1))

  pub late-fields : {x y z used : ℕ} → x ≡ field c n 0 → y ≡ field c n 1 → z ≡ field c n 2 → kind < 12 → used ≡ used_fields kind → (ltb 0 used && leb n x || ltb 1 used && leb n y || ltb 2 used && leb n z) ≡ not_below n (named_by c n)
  unfolding named_by
  late-fields i j o l u =
      rw (lt-leb 12 (kind_byte c n) (omega arith), below-fields n (used_fields (kind_byte c n)) (field c n 0) (field c n 1) (field c n 2), u, k, i, j, o)

  -- a carry's adder
  pub adder-by : {x adder : ℕ} → x ≡ field c n 0 → adder ≡ kind_byte c x → (eqb kind 8 || eqb kind 10) ≡ true → not (eqb adder (kind + 1)) ≡ (wrong_adder c n || empty_list c n)
  adder-by i a e =
      by-test (eqb kind 8)
      (λ f.
      let same : kind ≡ 8 = eqb-true kind 8 f in
      rw (a, i, ← k, same, or-false, or-false))
      (λ f.
      let same : kind ≡ 10 = eqb-true kind 10 (rw f at e) in
      rw (a, i, ← k, same, or-false))

  -- a division's lists
  pub lists-by : first_broken c ≡ None → {tops : List ℕ} → tops ≡ tops_of c → {x y first second : ℕ} → x ≡ field c n 0 → y ≡ field c n 1 → (eqb kind 8 || eqb kind 10) ≡ false → first ≡ top_at tops x → second ≡ top_at tops y → ((eqb kind 12 || eqb kind 13) && (eqb first 0 || eqb second 0)) ≡ (wrong_adder c n || empty_list c n)
  lists-by form t i j e f s =
      let no : (eqb kind 8 ≡ false) × (eqb kind 10 ≡ false) = neither (eqb kind 8) (eqb kind 10) e in
      rw (← k, no.0, no.1, empty-top, empty-top, f, s, t, i, j, top-at c form (field c n 0), top-at c form (field c n 1))
