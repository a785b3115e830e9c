-- Refusal 9: "a qubit is to be fixed to two values", given at a qubit: that of the first fix, in fixing order, that contradicts an earlier one.
-- The theorems that an edit of a definition breaks are in proofs/Clash.antt.
-- Assumes nothing.
use Rattle.std.specs.Prelude.{◌≡◌, refl, ◌⊎◌, Bool, true, false, not, ◌&&◌, ◌||◌, cond, List, [], ◌∷◌, ◌++◌, ℕ, ◌<◌, eqb, length, get_or, set}
use Rattle.std.proofs.Common.{sym, ◌∙◌, ap, inl, inr, arith, length-set, get_or-set_same, get_or-set_other, eq-eqb, ne_eqb}
use Rattle.std.specs.Bool.{beq}
use Rattle.std.proofs.Math.Decide.{ℕ_discrete}
use Rattle.laws.specs.Test.{by_eqb, by-beq, ne-not, not-self}
use Rattle.energy.specs.Fixing.{mark, Fixes, Within, SameAt, OneValue, Says}

-- no clash, or the place of the refusal
pub data Clash : Type 0 where
  none : Clash
  at : ℕ → Clash

-- some of these fixes says b of q
abbrev pub says : Fixes → ℕ → Bool → Bool
says [] q b = false
says (f ∷ fs) q b = eqb f.0 q && beq f.1 b || says fs q b

-- the first of the fixes that contradicts one of those before it, of which some are done already
unfoldable pub clash_after : Fixes → Fixes → Clash
clash_after done [] = none
clash_after done (f ∷ fs) = cond (says done f.0 (not f.1)) (at f.0) (clash_after (f ∷ done) fs)

-- the clash of all fixes
abbrev pub clash : Fixes → Clash
clash fs = clash_after [] fs

-- ---- what the tests say

-- by cases on whether the fixes say b of q
pub by-says : (fs : Fixes) (q : ℕ) (b : Bool) (P : Bool → Type 0) → (Says fs q b → P true) → ((Says fs q b → ⊥) → P false) → P (says fs q b)
by-says [] q b P y n = n (λ i. i)
by-says (f ∷ fs) q b P y n =
    by_eqb f.0 q (λ t. P (t && beq f.1 b || says fs q b))
    (λ e.
    by-beq f.1 b (λ t. P (t || says fs q b))
    (λ k. y (inl (e, k)))
    (λ k. by-says fs q b P (λ s. y (inr s)) (λ s. n (neither s (λ i. k i.1)))))
    (λ e. by-says fs q b P (λ s. y (inr s)) (λ s. n (neither s (λ i. e i.0))))
  where
    neither : (Says fs q b → ⊥) → ((f.0 ≡ q) × (f.1 ≡ b) → ⊥) → Says (f ∷ fs) q b → ⊥
    neither s k (inl i) = k i
    neither s k (inr i) = s i

-- none of these fixes contradicts one that is done
abbrev pub Agree : Fixes → Fixes → Type 0
Agree done [] = Unit {0}
Agree done (f ∷ fs) = (Says done f.0 (not f.1) → ⊥) × Agree done fs

agree-fewer : (f : ℕ × Bool) (done fs : Fixes) → Agree (f ∷ done) fs → Agree done fs
agree-fewer f done [] a = tt
agree-fewer f done (g ∷ fs) a = (λ s. a.0 (inr s), agree-fewer f done fs a.1)

agree_same : (f : ℕ × Bool) (done fs : Fixes) → Agree (f ∷ done) fs → SameAt f.0 f.1 fs
agree_same f done [] a = tt
agree_same f done (g ∷ fs) a = (go, agree_same f done fs a.1)
  where
    go : g.0 ≡ f.0 → g.1 ≡ f.1
    go e = by-beq g.1 f.1 (λ t. g.1 ≡ f.1) (λ k. k) (λ k. absurd (a.0 (inl (sym e, ne-not f.1 g.1 (λ h. k (sym h))))))

same-agree : (f : ℕ × Bool) (done fs : Fixes) → SameAt f.0 f.1 fs → Agree done fs → Agree (f ∷ done) fs
same-agree f done [] s a = tt
same-agree f done (g ∷ fs) s a = (go, same-agree f done fs s.1 a.1)
  where
    go : Says (f ∷ done) g.0 (not g.1) → ⊥
    go (inl i) = not-self g.1 (s.0 (sym i.0) ∙ i.1)
    go (inr i) = a.0 i

agree-none : (fs : Fixes) → Agree [] fs
agree-none [] = tt
agree-none (f ∷ fs) = (λ i. i, agree-none fs)

-- ---- there is no clash exactly when no qubit is fixed to two values

none_of : (done fs : Fixes) → clash_after done fs ≡ none → Agree done fs × OneValue fs
unfolding clash_after
none_of done [] e = (tt, tt)
none_of done (f ∷ fs) e =
    by-says done f.0 (not f.1) (λ t. cond t (at f.0) (clash_after (f ∷ done) fs) ≡ none → Agree done (f ∷ fs) × OneValue (f ∷ fs))
    (λ s e. let z : ◌≡◌ {A = ℕ} 0 1 = cc in absurd (omega arith))
    (λ s e. let (a, o) = none_of (f ∷ done) fs e in ((s, agree-fewer f done fs a), (agree_same f done fs a, o)))
    e

to_none : (done fs : Fixes) → Agree done fs → OneValue fs → clash_after done fs ≡ none
unfolding clash_after
to_none done [] a o = refl
to_none done (f ∷ fs) a o =
    by-says done f.0 (not f.1) (λ t. cond t (at f.0) (clash_after (f ∷ done) fs) ≡ none)
    (λ s. absurd (a.0 s))
    (λ s. to_none (f ∷ done) fs (same-agree f done fs o.0 a.1) o.1)

-- Theorem: where there is no clash, no qubit is fixed to two values,
pub clash-none : (fs : Fixes) → clash fs ≡ none → OneValue fs
clash-none fs e = (none_of [] fs e).1

-- and the other way round.
pub one-value-clash : (fs : Fixes) → OneValue fs → clash fs ≡ none
one-value-clash fs o = to_none [] fs (agree-none fs) o

-- ---- the place is the first fix that contradicts an earlier one

-- q is the qubit of the first fix that contradicts an earlier one
pub record First (fs : Fixes) (q : ℕ) : Type 0 where
  pub earlier : Fixes
  pub value : Bool
  pub later : Fixes
  pub is : fs ≡ earlier ++ (q, value) ∷ later
  -- the earlier ones agree among themselves, and one of them says the other value
  pub agree : OneValue earlier
  pub against : Says earlier q (not value)

record FirstAfter (done fs : Fixes) (q : ℕ) : Type 0 where
  earlier : Fixes
  value : Bool
  later : Fixes
  is : fs ≡ earlier ++ (q, value) ∷ later
  agree : Agree done earlier × OneValue earlier
  against : Says earlier q (not value) ⊎ Says done q (not value)

at_of : (done fs : Fixes) (q : ℕ) → clash_after done fs ≡ at q → FirstAfter done fs q
unfolding clash_after
at_of done [] q e = let z : ◌≡◌ {A = ℕ} 0 1 = cc in absurd (omega arith)
at_of done (f ∷ fs) q e =
    by-says done f.0 (not f.1) (λ t. cond t (at f.0) (clash_after (f ∷ done) fs) ≡ at q → FirstAfter done (f ∷ fs) q)
    (λ s e.
    let k : f.0 ≡ q = cc in
    record { earlier = []; value = f.1; later = fs; is = ap (λ (p : ℕ). (p, f.1) ∷ fs) k; agree = (tt, tt); against = inr (rw k at s) })
    (λ s e. further s (at_of (f ∷ done) fs q e))
    e
  where
    further : (Says done f.0 (not f.1) → ⊥) → FirstAfter (f ∷ done) fs q → FirstAfter done (f ∷ fs) q
    further s r =
        record {
          earlier = f ∷ r.earlier;
          value = r.value;
          later = r.later;
          is = ap (λ (l : Fixes). f ∷ l) r.is;
          agree = ((s, agree-fewer f done r.earlier r.agree.0), (agree_same f done r.earlier r.agree.0, r.agree.1));
          against = go r.against;
        }
      where
        go : Says r.earlier q (not r.value) ⊎ Says (f ∷ done) q (not r.value) → Says (f ∷ r.earlier) q (not r.value) ⊎ Says done q (not r.value)
        go (inl i) = inl (inr i)
        go (inr (inl i)) = inl (inl i)
        go (inr (inr i)) = inr i

-- Theorem: the clash is at that qubit.
pub clash-first : (fs : Fixes) (q : ℕ) → clash fs ≡ at q → First fs q
clash-first fs q e =
    record { earlier = r.earlier; value = r.value; later = r.later; is = r.is; agree = r.agree.1; against = go r.against }
  where
    r : FirstAfter [] fs q
    r = at_of [] fs q e

    go : Says r.earlier q (not r.value) ⊎ ⊥ → Says r.earlier q (not r.value)
    go (inl i) = i
    go (inr i) = absurd i

-- ---- the same test on the table of fixed values, as the build has it

-- the table has the other value at the qubit; else the value is entered
unfoldable pub clash_in : List ℕ → Fixes → Clash
clash_in l [] = none
clash_in l (f ∷ fs) = cond (eqb (get_or l f.0 0) (mark (not f.1))) (at f.0) (clash_in (set l f.0 (mark f.1)) fs)

-- the table holds what the fixes that are done say
abbrev Holds : List ℕ → Fixes → Type 0
Holds l done = (q : ℕ) → q < length l → (b : Bool) → says done q b ≡ eqb (get_or l q 0) (mark b)

holds-next : (l : List ℕ) (done : Fixes) (f : ℕ × Bool) → f.0 < length l → Holds l done → says done f.0 (not f.1) ≡ false
    → Holds (set l f.0 (mark f.1)) (f ∷ done)
holds-next l done f w h n p k c = go (ℕ_discrete p f.0)
  where
    marks : (b c : Bool) → says done f.0 (not b) ≡ false → (beq b c || says done f.0 c) ≡ eqb (mark b) (mark c)
    marks true true e = refl
    marks true false e = e
    marks false true e = e
    marks false false e = refl

    go : Dec (p ≡ f.0) → says (f ∷ done) p c ≡ eqb (get_or (set l f.0 (mark f.1)) p 0) (mark c)
    go (yes e) = rw (e, eq-eqb f.0 f.0 refl, get_or-set_same l f.0 (mark f.1) 0 w) (marks f.1 c n)
    go (no d) =
        rw (ne_eqb f.0 p (λ e. d (sym e)), get_or-set_other l f.0 p (mark f.1) 0 d)
        (h p (omega (arith, length-set l f.0 (mark f.1))) c)

table-after : (l : List ℕ) (done fs : Fixes) → Within (length l) fs → Holds l done → clash_in l fs ≡ clash_after done fs
unfolding clash_in clash_after
table-after l done [] w h = refl
table-after l done (f ∷ fs) w h =
    rw (sym (h f.0 w.0 (not f.1)))
    (go (says done f.0 (not f.1)) refl (λ k. table-after (set l f.0 (mark f.1)) (f ∷ done) fs (rw (length-set l f.0 (mark f.1)) w.1) k))
  where
    go : (t : Bool) → says done f.0 (not f.1) ≡ t
        → (Holds (set l f.0 (mark f.1)) (f ∷ done) → clash_in (set l f.0 (mark f.1)) fs ≡ clash_after (f ∷ done) fs)
        → cond t (at f.0) (clash_in (set l f.0 (mark f.1)) fs) ≡ cond t (at f.0) (clash_after (f ∷ done) fs)
    go true e rest = refl
    go false e rest = rest (holds-next l done f w.0 h e)

-- Theorem: a table in which nothing is fixed finds the same clash.
pub clash-table : (l : List ℕ) (fs : Fixes) → Within (length l) fs → ((q : ℕ) → get_or l q 0 ≡ 0) → clash_in l fs ≡ clash fs
clash-table l fs w z = table-after l [] fs w holds
  where
    marked : (b : Bool) → false ≡ eqb 0 (mark b)
    marked true = refl
    marked false = refl

    holds : Holds l []
    holds q k b = rw (z q) (marked b)
