-- Theorems over the definitions of specs/Once.antt, where their subject is told. An edit of such a definition is refused here.
-- Assumes nothing.
use Rattle.std.specs.Prelude.{◌≡◌, ◌≢◌, Bool, eqb, pos, ◌+ℤ◌, length, set}
use Rattle.std.proofs.Math.Path.{refl, ap}
use Rattle.std.proofs.Common.{sym, ◌∙◌, ap₂, inl, inr, arith, get_or-set_same, get_or-set_other, set-set, eq-eqb, ne_eqb}
use Rattle.std.proofs.Math.Bool.{true, false, cond}
use mathlib.Core.List.{List, [], ◌∷◌, ◌++◌, append_assoc, append-nil}
use Prim.Native.Nat.{ℕ, zero, suc, ◌<◌}
use Rattle.std.proofs.Math.Decide.{ℕ_discrete}
use Rattle.std.proofs.Math.IntN.{ℤ, +ℤ_idr}
use Rattle.std.proofs.Math.ListN.{get_or}
use Rattle.std.proofs.lemmas.List.{set_comm}
use Rattle.laws.specs.Solve.{solve, v, ◌⊕◌}
use Rattle.energy.specs.Model.{Entry, Model, Sized, Inside, low, high, is_zero, add_offset, join_linear, add_linear, gated, touches, neighbour, give, without, clear, fix}
use Rattle.energy.proofs.Sized.{sized-give, sized-fix}
use Rattle.energy.specs.Stored.{gated-add, gated-zero, by_zero}
use Rattle.energy.specs.Fixing.{mark, add_linear-pairs, Fixes, fix_all, Within, SameAt, OneValue}
use Rattle.energy.proofs.Fixing.{fix-fixed}
use Rattle.energy.specs.Once.{Agree, Agrees, bare, bound, enter, enter_all, enter_all-pairs, free, keep, once, sift, sift-fixed, sift_all, sift_by, sized-sift, with_pairs}

-- ---- additions commute

-- models are equal by their parts
by_parts : {a b : Model} → a.offset ≡ b.offset → a.linear ≡ b.linear → a.has_linear ≡ b.has_linear → a.has_row ≡ b.has_row → a.fixed ≡ b.fixed → a.pairs ≡ b.pairs → a ≡ b
by_parts o l h r f p i = record { offset = o i; linear = l i; has_linear = h i; has_row = r i; fixed = f i; pairs = p i }

gain-comm : (l : List ℤ) (p q : ℕ) (c d : ℤ)
    → set (set l q (get_or l q (pos 0) +ℤ d)) p (get_or (set l q (get_or l q (pos 0) +ℤ d)) p (pos 0) +ℤ c)
    ≡ set (set l p (get_or l p (pos 0) +ℤ c)) q (get_or (set l p (get_or l p (pos 0) +ℤ c)) q (pos 0) +ℤ d)
gain-comm [] p q c d = refl
gain-comm (x ∷ l) zero zero c d = ap (λ (y : ℤ). y ∷ l) (solve (x ∷ c ∷ d ∷ []) ((v 0 ⊕ v 2) ⊕ v 1) ((v 0 ⊕ v 1) ⊕ v 2) refl)
gain-comm (x ∷ l) zero (suc q) c d = refl
gain-comm (x ∷ l) (suc p) zero c d = refl
gain-comm (x ∷ l) (suc p) (suc q) c d = ap (λ (t : List ℤ). x ∷ t) (gain-comm l p q c d)

mark-comm : (l : List ℕ) (p q a : ℕ) → set (set l q a) p a ≡ set (set l p a) q a
mark-comm [] p q a = refl
mark-comm (x ∷ l) zero zero a = refl
mark-comm (x ∷ l) zero (suc q) a = refl
mark-comm (x ∷ l) (suc p) zero a = refl
mark-comm (x ∷ l) (suc p) (suc q) a = ap (λ (t : List ℕ). x ∷ t) (mark-comm l p q a)

join_linear-comm : (p q : ℕ) (c d : ℤ) (m : Model) → join_linear p c (join_linear q d m) ≡ join_linear q d (join_linear p c m)
join_linear-comm p q c d m = by_parts refl (gain-comm m.linear p q c d) (mark-comm m.has_linear p q 1) refl refl refl

-- what commutes with making an entry commutes with adding to it
through : (f : Model → Model) (p : ℕ) (c : ℤ) (m : Model) → f (join_linear p c m) ≡ join_linear p c (f m) → f (add_linear p c m) ≡ add_linear p c (f m)
unfolding add_linear
through f p c m h = go (is_zero c)
  where
    go : (t : Bool) → f (cond t m (join_linear p c m)) ≡ cond t (f m) (join_linear p c (f m))
    go true = refl
    go false = h

add_linear-comm : (p q : ℕ) (c d : ℤ) (m : Model) → add_linear p c (add_linear q d m) ≡ add_linear q d (add_linear p c m)
add_linear-comm p q c d m = through (add_linear p c) q d m (sym (through (join_linear q d) p c m (join_linear-comm q p d c m)))

module _ (q : ℕ) (b : Bool) where
  -- and with what the neighbours of q gain
  give-through : (f : Model → Model) → ((p : ℕ) (c : ℤ) (m : Model) → f (add_linear p c m) ≡ add_linear p c (f m))
      → (s : List Entry) (m : Model) → give q b s (f m) ≡ f (give q b s m)
  unfolding give
  give-through f h [] m = refl
  give-through f h (e ∷ s) m = ap (give q b s) (go (touches q e.0)) ∙ give-through f h s _
    where
      p : ℕ
      p = neighbour q e.0

      c : ℤ
      c = gated b e.1

      go : (t : Bool) → cond t (add_linear p c (f m)) (f m) ≡ f (cond t (add_linear p c m) m)
      go true = sym (h p c m)
      go false = refl

  give-append : (s t : List Entry) (m : Model) → give q b (s ++ t) m ≡ give q b t (give q b s m)
  unfolding give
  give-append [] t m = refl
  give-append (e ∷ s) t m = give-append s t _

  without-append : (s t : List Entry) → without q (s ++ t) ≡ without q s ++ without q t
  unfolding without
  without-append [] t = refl
  without-append (e ∷ s) t = go (touches q e.0) (without-append s t)
    where
      go : (x : Bool) → without q (s ++ t) ≡ without q s ++ without q t
          → cond x (without q (s ++ t)) (e ∷ without q (s ++ t)) ≡ cond x (without q s) (e ∷ without q s) ++ without q t
      go true h = h
      go false h = ap (λ (u : List Entry). e ∷ u) h

  -- taking out the entries of q, and an addition to another's entry
  clear-other : (p : ℕ) (c : ℤ) (m : Model) → p ≢ q → clear q b (add_linear p c m) ≡ add_linear p c (clear q b m)
  clear-other p c m ne =
      through (clear q b) p c m
      (by_parts
      (ap (λ (x : ℤ). m.offset +ℤ gated b x) (get_or-set_other m.linear p q (get_or m.linear p (pos 0) +ℤ c) (pos 0) (λ e. ne (sym e))))
      (set_comm m.linear p q (get_or m.linear p (pos 0) +ℤ c) (pos 0) ne
      ∙ ap (λ (x : ℤ). set (set m.linear q (pos 0)) p (x +ℤ c)) (sym (get_or-set_other m.linear q p (pos 0) (pos 0) ne)))
      (set_comm m.has_linear p q 1 0 ne)
      refl
      refl
      refl)

  -- and an addition to its own, which the offset then has too
  clear_self : (c : ℤ) (m : Model) → q < length m.linear → clear q b (add_linear q c m) ≡ add_offset (gated b c) (clear q b m)
  unfolding add_linear
  clear_self c m h = by_zero c (λ t. clear q b (cond t m (join_linear q c m)) ≡ add_offset (gated b c) (clear q b m)) nothing some
    where
      l : ℤ
      l = get_or m.linear q (pos 0)

      nothing : c ≡ pos 0 → clear q b m ≡ add_offset (gated b c) (clear q b m)
      nothing e =
          by_parts
          (sym (+ℤ_idr (m.offset +ℤ gated b l)) ∙ ap (λ (x : ℤ). m.offset +ℤ gated b l +ℤ x) (sym (gated-zero b) ∙ ap (gated b) (sym e)))
          refl
          refl
          refl
          refl
          refl

      some : clear q b (join_linear q c m) ≡ add_offset (gated b c) (clear q b m)
      some =
          by_parts
          (ap (λ (x : ℤ). m.offset +ℤ gated b x) (get_or-set_same m.linear q (l +ℤ c) (pos 0) h)
          ∙ ap (λ (x : ℤ). m.offset +ℤ x) (gated-add b l c)
          ∙ solve (m.offset ∷ gated b l ∷ gated b c ∷ []) (v 0 ⊕ (v 1 ⊕ v 2)) ((v 0 ⊕ v 1) ⊕ v 2) refl)
          (set-set m.linear q (l +ℤ c) (pos 0))
          (set-set m.has_linear q 1 0)
          refl
          refl
          refl

  -- ---- fixing q, and what a pair's turn does

  -- an addition to another's linear entry
  fix-other : (p : ℕ) (c : ℤ) (m : Model) → p ≢ q → fix q b (add_linear p c m) ≡ add_linear p c (fix q b m)
  unfolding fix
  fix-other p c m ne =
      ap (λ (s : List Entry). clear q b (give q b s (add_linear p c m))) (add_linear-pairs p c m)
      ∙ ap (clear q b) (give-through (add_linear p c) (λ x d z. add_linear-comm p x c d z) m.pairs m)
      ∙ clear-other p c (give q b m.pairs m) ne

  -- an addition to its own
  fix-self : (n : ℕ) (c : ℤ) (m : Model) → Sized n m → q < n → fix q b (add_linear q c m) ≡ add_offset (gated b c) (fix q b m)
  unfolding fix
  fix-self n c m z h =
      ap (λ (s : List Entry). clear q b (give q b s (add_linear q c m))) (add_linear-pairs q c m)
      ∙ ap (clear q b) (give-through (add_linear q c) (λ x d z. add_linear-comm q x c d z) m.pairs m)
      ∙ clear_self c (give q b m.pairs m) (omega (arith, (sized-give n q b m.pairs m z).linear))

  -- an addition to the offset
  fix-offset : (c : ℤ) (m : Model) → fix q b (add_offset c m) ≡ add_offset c (fix q b m)
  unfolding fix
  fix-offset c m =
      ap (clear q b) (give-through (add_offset c) (λ p d z. through (add_offset c) p d z refl) m.pairs m)
      ∙ by_parts (solve (M.offset ∷ c ∷ gated b (get_or M.linear q (pos 0)) ∷ []) ((v 0 ⊕ v 1) ⊕ v 2) ((v 0 ⊕ v 2) ⊕ v 1) refl) refl refl refl refl refl
    where
      M : Model
      M = give q b m.pairs m

  -- one pair more
  module _ (e : Entry) (m : Model) where
    abbrev M : Model
    M = give q b m.pairs m

    abbrev p : ℕ
    p = neighbour q e.0

    abbrev c : ℤ
    c = gated b e.1

    fix-more : fix q b (keep e m) ≡ clear q b (cond (touches q e.0) (add_linear p c (keep e M)) (keep e M))
    unfolding fix give
    fix-more =
        ap (clear q b)
        (give-append m.pairs (e ∷ []) (keep e m)
        ∙ ap (give q b (e ∷ [])) (give-through (keep e) (λ p d z. through (keep e) p d z refl) m.pairs m))

    clear-more : clear q b (keep e M) ≡ with_pairs (without q M.pairs ++ cond (touches q e.0) [] (e ∷ [])) (clear q b M)
    unfolding without
    clear-more = ap (λ (s : List Entry). with_pairs s (clear q b M)) (without-append M.pairs (e ∷ []))

    -- which does not have q
    fix-keep : touches q e.0 ≡ false → fix q b (keep e m) ≡ keep e (fix q b m)
    unfolding fix
    fix-keep t =
        fix-more
        ∙ ap (λ (x : Bool). clear q b (cond x (add_linear p c (keep e M)) (keep e M))) t
        ∙ clear-more
        ∙ ap (λ (x : Bool). with_pairs (without q M.pairs ++ cond x [] (e ∷ [])) (clear q b M)) t

    -- which has it
    fix-give : touches q e.0 ≡ true → p ≢ q → fix q b (keep e m) ≡ add_linear p c (fix q b m)
    unfolding fix
    fix-give t ne =
        fix-more
        ∙ ap (λ (x : Bool). clear q b (cond x (add_linear p c (keep e M)) (keep e M))) t
        ∙ clear-other p c (keep e M) ne
        ∙ ap (add_linear p c)
        (clear-more
        ∙ ap (λ (x : Bool). with_pairs (without q M.pairs ++ cond x [] (e ∷ [])) (clear q b M)) t
        ∙ ap (λ (s : List Entry). with_pairs s (clear q b M)) (append-nil (without q M.pairs)))

-- ---- fixing commutes with a pair's turn, where the table does not have the other value

low-bound : (b : Bool) (y : ℕ) (e : Entry) (m : Model) → sift_by (mark b) y e m ≡ bound b (high e.0) y e m
low-bound true y e m = refl
low-bound false y e m = refl

high-bound : (b : Bool) (x : ℕ) (e : Entry) (m : Model) → sift_by x (mark b) e m ≡ bound b (low e.0) x e m
high-bound true x e m = refl
high-bound false x e m = ap (λ (c : ℤ). cond (eqb x 0) (add_linear (low e.0) (pos 0) m) (add_offset c m)) (gated-zero (eqb x 2))

module _ (n q : ℕ) (b : Bool) (h : q < n) (e : Entry) (rises : low e.0 < high e.0) (m : Model) (z : Sized n m) where
  abbrev w : ℤ
  w = e.1

  -- one end is q, the other is r
  module _ (r y : ℕ) (other : neighbour q e.0 ≡ r) (touched : touches q e.0 ≡ true) (ne : r ≢ q) where
    binds : fix q b (free q y e m) ≡ bound b r y e (fix q b m)
    binds = go (eqb y 0) (eqb y 2)
      where
        go : (t u : Bool) → fix q b (cond t (keep e m) (add_linear q (gated u w) m)) ≡ cond t (add_linear r (gated b w) (fix q b m)) (add_offset (gated b (gated u w)) (fix q b m))
        go true u = fix-give q b e m touched (λ k. ne (sym other ∙ k)) ∙ ap (λ (p : ℕ). add_linear p (gated b w) (fix q b m)) other
        go false u = fix-self q b n (gated u w) m z h

    bound-before : fix q b (bound b r y e m) ≡ bound b r y e (fix q b m)
    bound-before = go (eqb y 0) (eqb y 2)
      where
        go : (t u : Bool)
            → fix q b (cond t (add_linear r (gated b w) m) (add_offset (gated b (gated u w)) m)) ≡ cond t (add_linear r (gated b w) (fix q b m)) (add_offset (gated b (gated u w)) (fix q b m))
        go true u = fix-other q b r (gated b w) m ne
        go false u = fix-offset q b (gated b (gated u w)) m

  -- the lower end is q
  at_low : low e.0 ≡ q → (k y : ℕ) → Agree k b → fix q b (sift_by k y e m) ≡ sift_by (mark b) y e (fix q b m)
  at_low l k y a = go a ∙ sym (low-bound b y e (fix q b m))
    where
      ne : high e.0 ≢ q
      ne k = omega arith

      other : neighbour q e.0 ≡ high e.0
      other = rw (eq-eqb (low e.0) q l)

      touched : touches q e.0 ≡ true
      touched = rw (eq-eqb (low e.0) q l)

      go : Agree k b → fix q b (sift_by k y e m) ≡ bound b (high e.0) y e (fix q b m)
      go (inl k0) = ap (λ (x : ℕ). fix q b (sift_by x y e m)) k0 ∙ ap (λ (p : ℕ). fix q b (free p y e m)) l ∙ binds (high e.0) y other touched ne
      go (inr kb) = ap (λ (x : ℕ). fix q b (sift_by x y e m)) kb ∙ ap (fix q b) (low-bound b y e m) ∙ bound-before (high e.0) y other touched ne

  -- the higher end is q
  at_high : high e.0 ≡ q → (x k : ℕ) → Agree k b → fix q b (sift_by x k e m) ≡ sift_by x (mark b) e (fix q b m)
  at_high l x k a = go a ∙ sym (high-bound b x e (fix q b m))
    where
      ne : low e.0 ≢ q
      ne k = omega arith

      other : neighbour q e.0 ≡ low e.0
      other = rw (ne_eqb (low e.0) q ne)

      touched : touches q e.0 ≡ true
      touched = rw (ne_eqb (low e.0) q ne, eq-eqb (high e.0) q l)

      go : Agree k b → fix q b (sift_by x k e m) ≡ bound b (low e.0) x e (fix q b m)
      go (inl k0) = ap (λ (y : ℕ). fix q b (sift_by x y e m)) k0 ∙ ap (λ (p : ℕ). fix q b (free p x e m)) l ∙ binds (low e.0) x other touched ne
      go (inr kb) = ap (λ (y : ℕ). fix q b (sift_by x y e m)) kb ∙ ap (fix q b) (high-bound b x e m) ∙ bound-before (low e.0) x other touched ne

  -- neither end is q
  at_none : low e.0 ≢ q → high e.0 ≢ q → (x y : ℕ) → fix q b (sift_by x y e m) ≡ sift_by x y e (fix q b m)
  at_none nl nh x y = go (eqb x 0) (eqb y 0) (eqb x 2) (eqb y 2)
    where
      apart : touches q e.0 ≡ false
      apart = rw (ne_eqb (low e.0) q nl, ne_eqb (high e.0) q nh)

      go : (s t a c : Bool)
          → fix q b (cond s (cond t (keep e m) (add_linear (low e.0) (gated c w) m)) (cond t (add_linear (high e.0) (gated a w) m) (add_offset (gated a (gated c w)) m)))
          ≡ cond s (cond t (keep e (fix q b m)) (add_linear (low e.0) (gated c w) (fix q b m))) (cond t (add_linear (high e.0) (gated a w) (fix q b m)) (add_offset (gated a (gated c w)) (fix q b m)))
      go true true a c = fix-keep q b e m apart
      go true false a c = fix-other q b (low e.0) (gated c w) m nl
      go false true a c = fix-other q b (high e.0) (gated a w) m nh
      go false false a c = fix-offset q b (gated a (gated c w)) m

  -- fixing q after the pair's turn, or before it
  fix-sift : Agree (get_or m.fixed q 0) b → fix q b (sift e m) ≡ sift e (fix q b m)
  unfolding sift
  fix-sift a = go (ℕ_discrete (low e.0) q) (ℕ_discrete (high e.0) q) ∙ ap (λ (f : List ℕ). sift_by (get_or f (low e.0) 0) (get_or f (high e.0) 0) e (fix q b m)) (sym (fix-fixed q b m))
    where
      F : List ℕ
      F = m.fixed

      x : ℕ
      x = get_or F (low e.0) 0

      y : ℕ
      y = get_or F (high e.0) 0

      now-fixed : (p : ℕ) → p ≡ q → mark b ≡ get_or (set F q (mark b)) p 0
      now-fixed p k = rw k (sym (get_or-set_same F q (mark b) 0 (omega (arith, z.fixed))))

      as_before : (p : ℕ) → p ≢ q → get_or F p 0 ≡ get_or (set F q (mark b)) p 0
      as_before p k = sym (get_or-set_other F q p (mark b) 0 k)

      go : Dec (low e.0 ≡ q) → Dec (high e.0 ≡ q)
          → fix q b (sift_by x y e m) ≡ sift_by (get_or (set F q (mark b)) (low e.0) 0) (get_or (set F q (mark b)) (high e.0) 0) e (fix q b m)
      go (yes l) (yes r) = absurd (omega arith)
      go (yes l) (no r) = at_low l x y (rw l a) ∙ ap₂ (λ (s t : ℕ). sift_by s t e (fix q b m)) (now-fixed (low e.0) l) (as_before (high e.0) r)
      go (no l) (yes r) = at_high r x y (rw r a) ∙ ap₂ (λ (s t : ℕ). sift_by s t e (fix q b m)) (as_before (low e.0) l) (now-fixed (high e.0) r)
      go (no l) (no r) = at_none l r x y ∙ ap₂ (λ (s t : ℕ). sift_by s t e (fix q b m)) (as_before (low e.0) l) (as_before (high e.0) r)

-- ---- fixing in turn commutes with the pass

fix-sift_all : (n q : ℕ) (b : Bool) → q < n → (s : List Entry) (m : Model) → Inside n s → Sized n m → Agree (get_or m.fixed q 0) b
    → fix q b (sift_all s m) ≡ sift_all s (fix q b m)
unfolding sift_all
fix-sift_all n q b h [] m i z a = refl
fix-sift_all n q b h (e ∷ s) m i z a =
    fix-sift_all n q b h s (sift e m) i.2 (sized-sift n e m i.0 i.1 z) (rw (sift-fixed e m) a)
    ∙ ap (sift_all s) (fix-sift n q b h e i.0 m z a)

agrees-next : (l : List ℕ) (q : ℕ) (b : Bool) (fs : Fixes) → q < length l → SameAt q b fs → Agrees l fs → Agrees (set l q (mark b)) fs
agrees-next l q b [] h s a = tt
agrees-next l q b (f ∷ fs) h s a = (go (ℕ_discrete f.0 q), agrees-next l q b fs h s.1 a.1)
  where
    go : Dec (f.0 ≡ q) → Agree (get_or (set l q (mark b)) f.0 0) f.1
    go (yes e) = inr (rw e (get_or-set_same l q (mark b) 0 h) ∙ ap mark (sym (s.0 e)))
    go (no k) = rw (get_or-set_other l q f.0 (mark b) 0 k) a.0

fix_all-sift_all : (n : ℕ) (fs : Fixes) (s : List Entry) (m : Model) → Inside n s → Sized n m → Within n fs → OneValue fs → Agrees m.fixed fs
    → fix_all fs (sift_all s m) ≡ sift_all s (fix_all fs m)
unfolding fix_all
fix_all-sift_all n [] s m i z h o a = refl
fix_all-sift_all n (f ∷ fs) s m i z h o a =
    ap (fix_all fs) (fix-sift_all n f.0 f.1 h.0 s m i z a.0)
    ∙ fix_all-sift_all n fs s (fix f.0 f.1 m) i (sized-fix n f.0 f.1 m z) h.1 o.1
    (rw (fix-fixed f.0 f.1 m) (agrees-next m.fixed f.0 f.1 fs (omega (arith, h.0, z.fixed)) o.0 a.1))

-- ---- both ends of the pass

-- where nothing is fixed, it keeps every pair
sift-unfixed : (s : List Entry) (m : Model) → ((q : ℕ) → get_or m.fixed q 0 ≡ 0) → sift_all s m ≡ with_pairs (m.pairs ++ s) m
unfolding sift_all sift
sift-unfixed [] m u = ap (λ (s : List Entry). with_pairs s m) (sym (append-nil m.pairs))
sift-unfixed (e ∷ s) m u =
    ap (sift_all s) (ap₂ (λ (x y : ℕ). sift_by x y e m) (u (low e.0)) (u (high e.0)))
    ∙ sift-unfixed s (keep e m) u
    ∙ ap (λ (s : List Entry). with_pairs s m) (append_assoc m.pairs (e ∷ []) s)

agrees-unfixed : (l : List ℕ) (fs : Fixes) → ((q : ℕ) → get_or l q 0 ≡ 0) → Agrees l fs
agrees-unfixed l [] u = tt
agrees-unfixed l (f ∷ fs) u = (inl (u f.0), agrees-unfixed l fs u)

-- without pairs, fixing is entering the value
fix_all-bare : (fs : Fixes) (m : Model) → fix_all fs (bare m) ≡ bare (enter_all fs m)
unfolding fix_all enter_all fix give without
fix_all-bare [] m = refl
fix_all-bare (f ∷ fs) m = fix_all-bare fs (enter f.0 f.1 m)

sized-bare : (n : ℕ) (m : Model) → Sized n m → Sized n (bare m)
sized-bare n m z = record { linear = z.linear; has_linear = z.has_linear; has_row = z.has_row; fixed = z.fixed; inside = tt; names = z.names }

-- ---- Theorem: on a model in which nothing is fixed, fixes that agree come to the same one after the other and all at once.
pub once-fix_all : (n : ℕ) (fs : Fixes) (m : Model) → Sized n m → Within n fs → OneValue fs → ((q : ℕ) → get_or m.fixed q 0 ≡ 0) → fix_all fs m ≡ once fs m
once-fix_all n fs m z h o u =
    ap (fix_all fs) (sym (sift-unfixed m.pairs (bare m) u))
    ∙ fix_all-sift_all n fs m.pairs (bare m) z.inside (sized-bare n m z) h o (agrees-unfixed m.fixed fs u)
    ∙ ap (sift_all m.pairs) (fix_all-bare fs m)
    ∙ ap (λ (s : List Entry). sift_all s (bare (enter_all fs m))) (sym (enter_all-pairs fs m))
