-- Counting, and rising functions: where a function rises over the records, those of one value stand together.
-- Assumes nothing.
use Prim.Native.Nat.{ℕ, zero, suc, ◌+◌, ◌-◌, ◌≤◌, ◌<◌}
use Rattle.std.specs.Prelude.{◌≡◌, Bool, true, false, not, ◌&&◌, List, [], ◌∷◌, ◌++◌, map, leb, eqb, length, get_or}
use Rattle.std.proofs.Math.Path.{refl, sym, ap, fun_ext}
use Rattle.std.proofs.Common.{◌∙◌, append-nil, add-one, suc-add, add-zero, zero-add, le_of_eq}
use native.Mathlib.Omega.{arith}
use Rattle.std.proofs.Math.Nat.{add-suc}
use Rattle.std.proofs.Math.Decide.{dec_le}
use borrow.Author.Tests.{ltb-true, ltb-false, lt-ltb, le-ltb, le-leb, lt-leb, eq-eqb, ne_eqb}
use Rattle.std.proofs.Math.Dec.{ltb}
use Rattle.circuit.specs.File.{either, cons_if, those}

pub by-test {ℓ} : {A : Type ℓ} (t : Bool) → (t ≡ true → A) → (t ≡ false → A) → A
by-test true f g = f refl
by-test false f g = g refl

-- how many numbers below n pass the test
unfoldable pub count_before : (ℕ → Bool) → ℕ → ℕ
count_before p zero = 0
count_before p (suc n) = either (p n) (suc (count_before p n)) (count_before p n)

-- n, n + 1, .., m of them
unfoldable pub range : ℕ → ℕ → List ℕ
range n zero = []
range n (suc m) = n ∷ range (suc n) m

module _ (p : ℕ → Bool) where
  count-more : (b : Bool) (x : ℕ) (n : ℕ) (l : List ℕ) → either b (suc x) x + length l ≡ x + length (cons_if b n l)
  count-more true x n l = omega arith
  count-more false x n l = refl

  count-from : (m n : ℕ) → count_before p n + length (those p n m) ≡ count_before p (n + m)
  unfolding those count_before
  count-from zero n = rw (add-zero, add-zero)
  count-from (suc m) n =
      let e : suc n + m ≡ n + suc m = omega arith in
      sym (count-more (p n) (count_before p n) n (those p (suc n) m)) ∙ count-from m (suc n) ∙ ap (count_before p) e

  -- to count those that pass is to count those before the end
  pub length-those : (N : ℕ) → length (those p 0 N) ≡ count_before p N
  unfolding count_before
  length-those N = sym (zero-add (length (those p 0 N))) ∙ count-from N 0 ∙ ap (count_before p) (zero-add N)

  -- a turn of a loop that counts
  pub count-step : (n : ℕ) → count_before p (n + 1) ≡ either (p n) (count_before p n + 1) (count_before p n)
  unfolding count_before
  count-step n = rw (add-one, add-one)

  pub counted-more : {x n : ℕ} → x ≡ count_before p n → p n ≡ true → x + 1 ≡ count_before p (n + 1)
  counted-more {x} {n} e h = rw (count-step n, h, e)

  pub counted_same : {x n : ℕ} → x ≡ count_before p n → p n ≡ false → x ≡ count_before p (n + 1)
  counted_same {x} {n} e h = rw (count-step n, h, e)

  count-bound : (b : Bool) (x n : ℕ) → x ≤ n → either b (suc x) x ≤ suc n
  count-bound true x n h = omega arith
  count-bound false x n h = omega arith

  pub count-le : (N : ℕ) → count_before p N ≤ N
  unfolding count_before
  count-le zero = omega arith
  count-le (suc N) = count-bound (p N) (count_before p N) N (count-le N)

  pub count-all : (N : ℕ) → ((m : ℕ) → m < N → p m ≡ true) → count_before p N ≡ N
  unfolding count_before
  count-all zero h = refl
  count-all (suc N) h = rw (h N (omega arith), count-all N (λ m l. h m (omega arith)))

  pub count_none : (N : ℕ) → ((m : ℕ) → m < N → p m ≡ false) → count_before p N ≡ 0
  unfolding count_before
  count_none zero h = refl
  count_none (suc N) h = rw (h N (omega arith), count_none N (λ m l. h m (omega arith)))

  -- ---- those of a stretch

  pub none_of : (m n : ℕ) → ((k : ℕ) → n ≤ k → k < n + m → p k ≡ false) → those p n m ≡ []
  unfolding those
  none_of zero n h = refl
  none_of (suc m) n h = rw (h n (omega arith) (omega arith)) (none_of m (suc n) (λ k l u. h k (omega arith) (omega arith)))

  pub all_of : (m n : ℕ) → ((k : ℕ) → n ≤ k → k < n + m → p k ≡ true) → those p n m ≡ range n m
  unfolding those range
  all_of zero n h = refl
  all_of (suc m) n h = rw (h n (omega arith) (omega arith), all_of m (suc n) (λ k l u. h k (omega arith) (omega arith)))

  cons-append : (b : Bool) (n : ℕ) (l r : List ℕ) → cons_if b n (l ++ r) ≡ cons_if b n l ++ r
  cons-append true n l r = refl
  cons-append false n l r = refl

  split : (a b n : ℕ) → those p n (a + b) ≡ those p n a ++ those p (n + a) b
  unfolding those
  split zero b n = rw (zero-add, add-zero)
  split (suc a) b n = rw (suc-add, split a b (suc n), add-suc, suc-add) (cons-append (p n) n (those p (suc n) a) (those p (suc (n + a)) b))

  -- those of the records are the numbers from a to b, where these pass and no others do
  pub between : (a b N : ℕ) → a ≤ b → b ≤ N → ((n : ℕ) → n < N → p n ≡ (leb a n && ltb n b)) → those p 0 N ≡ range a (b - a)
  between a b N l u h =
      let e : N ≡ a + ((b - a) + (N - b)) = omega arith in
      let low : those p 0 a ≡ [] = none_of a 0 (λ k i j. h k (omega arith) ∙ rw (lt-leb a k (omega arith))) in
      let mid : those p a (b - a) ≡ range a (b - a) = all_of (b - a) a (λ k i j. h k (omega arith) ∙ rw (le-leb a k i, lt-ltb k b (omega arith))) in
      let high : those p (a + (b - a)) (N - b) ≡ [] = none_of (N - b) (a + (b - a)) (λ k i j. h k (omega arith) ∙ rw (le-leb a k (omega arith), le-ltb k b (omega arith))) in
      ap (those p 0) e ∙ split a ((b - a) + (N - b)) 0 ∙ rw (low, zero-add, split (b - a) (N - b) a, mid, high) (append-nil (range a (b - a)))

-- more pass a weaker test
module _ (p q : ℕ → Bool) where
  weaker : (b d : Bool) (x y : ℕ) → (b ≡ true → d ≡ true) → x ≤ y → either b (suc x) x ≤ either d (suc y) y
  weaker true true x y h l = omega arith
  weaker true false x y h l = let z : ◌≡◌ true false = sym (h refl) in let w : ◌≡◌ {A = ℕ} 0 1 = cc in absurd (omega arith)
  weaker false true x y h l = omega arith
  weaker false false x y h l = l

  pub count-weaker : (N : ℕ) → ((n : ℕ) → n < N → p n ≡ true → q n ≡ true) → count_before p N ≤ count_before q N
  unfolding count_before
  count-weaker zero h = omega arith
  count-weaker (suc N) h = weaker (p N) (q N) (count_before p N) (count_before q N) (h N (omega arith)) (count-weaker N (λ n l. h n (omega arith)))

  pub count_same : (N : ℕ) → ((n : ℕ) → n < N → p n ≡ q n) → count_before p N ≡ count_before q N
  unfolding count_before
  count_same zero h = refl
  count_same (suc N) h = rw (h N (omega arith), count_same N (λ n l. h n (omega arith)))

-- ---- rising functions

-- o rises, or stays, over the numbers below N
abbrev pub Rising : (ℕ → ℕ) → ℕ → Type 0
Rising o N = (m n : ℕ) → m < n → n < N → o m ≤ o n

-- how many numbers below N have a value below s
abbrev pub under : (ℕ → ℕ) → ℕ → ℕ → ℕ
under o N s = count_before (λ (n : ℕ). ltb (o n) s) N

pub rising_le : (o : ℕ → ℕ) (N : ℕ) → Rising o N → (m n : ℕ) → m ≤ n → n < N → o m ≤ o n
rising_le o N h m n l u = go (dec_le (suc m) n)
  where
    go : Dec (suc m ≤ n) → o m ≤ o n
    go (yes d) = h m n d u
    go (no d) = le_of_eq (ap o (omega arith))

module _ (o : ℕ → ℕ) (s : ℕ) where
  last_under : (N : ℕ) → Rising o (suc N) → ltb (o N) s ≡ true → (n : ℕ) → n < suc N → ltb (o n) s ≡ true
  last_under N h e n l = lt-ltb (o n) s (omega (arith, ltb-true (o N) s e, rising_le o (suc N) h n N (omega arith) (omega arith)))

  inside : (N : ℕ) → Rising o (suc N) → ltb (o N) s ≡ true → (n : ℕ) → n < suc N → ltb (o n) s ≡ ltb n (under o (suc N) s)
  unfolding count_before
  inside N h e n l =
      rw (last_under N h e n l, e, count-all (λ (m : ℕ). ltb (o m) s) N (λ m i. last_under N h e m (omega arith)), lt-ltb n (suc N) l)

  outside : (N : ℕ) → ltb (o N) s ≡ false → (n : ℕ) → n < suc N → (n < N → ltb (o n) s ≡ ltb n (under o N s)) → ltb (o n) s ≡ ltb n (under o (suc N) s)
  unfolding count_before
  outside N e n l ih = rw e (go (dec_le (suc n) N))
    where
      go : Dec (suc n ≤ N) → ltb (o n) s ≡ ltb n (under o N s)
      go (yes d) = ih d
      go (no d) =
          let here : n ≡ N = omega arith in
          let low : under o N s ≤ n = omega (arith, count-le (λ (m : ℕ). ltb (o m) s) N) in
          ap (λ (m : ℕ). ltb (o m) s) here ∙ e ∙ sym (le-ltb n (under o N s) low)

  -- the values below s stand in front
  pub boundary : (N : ℕ) → Rising o N → (n : ℕ) → n < N → ltb (o n) s ≡ ltb n (under o N s)
  boundary zero h n l = absurd (omega arith)
  boundary (suc N) h n l =
      by-test (ltb (o N) s)
      (λ e. inside N h e n l)
      (λ e. outside N e n l (λ k. boundary N (λ i j a b. h i j a (omega arith)) n k))

  eqb-by : (x : ℕ) → eqb x s ≡ (not (ltb x s) && ltb x (suc s))
  eqb-by x =
      by-test (ltb x s)
      (λ e. rw (e, ne_eqb x s (λ z. omega (arith, ltb-true x s e))))
      (λ e. by-test (ltb x (suc s)) (λ f. rw (e, f, eq-eqb x s (omega (arith, ltb-false x s e, ltb-true x (suc s) f)))) (λ f. rw (e, f, ne_eqb x s (λ z. omega (arith, ltb-false x (suc s) f)))))

  not-ltb : (n b : ℕ) → not (ltb n b) ≡ leb b n
  not-ltb n b = by-test (ltb n b) (λ e. rw (e, lt-leb b n (ltb-true n b e))) (λ e. rw (e, le-leb b n (ltb-false n b e)))

-- those of value s stand together
pub together : (o : ℕ → ℕ) (s N : ℕ) → Rising o N → those (λ (n : ℕ). eqb (o n) s) 0 N ≡ range (under o N s) (under o N (suc s) - under o N s)
together o s N h =
    between (λ (n : ℕ). eqb (o n) s) (under o N s) (under o N (suc s)) N
    (count-weaker (λ (n : ℕ). ltb (o n) s) (λ (n : ℕ). ltb (o n) (suc s)) N (λ n l e. lt-ltb (o n) (suc s) (omega (arith, ltb-true (o n) s e))))
    (count-le (λ (n : ℕ). ltb (o n) (suc s)) N)
    (λ n l. eqb-by o s (o n) ∙ rw (boundary o s N h n l, not-ltb o s n (under o N s), boundary o (suc s) N h n l))

pub under-mono : (o : ℕ → ℕ) (N s : ℕ) → under o N s ≤ under o N (suc s)
under-mono o N s =
    count-weaker (λ (n : ℕ). ltb (o n) s) (λ (n : ℕ). ltb (o n) (suc s)) N (λ n l e. lt-ltb (o n) (suc s) (omega (arith, ltb-true (o n) s e)))

-- ---- ranges, and the k-th of a list

pub length-range : (m n : ℕ) → length (range n m) ≡ m
unfolding range
length-range zero n = refl
length-range (suc m) n = ap suc (length-range m (suc n))

pub get_or-range : (m n k d : ℕ) → k < m → get_or (range n m) k d ≡ n + k
unfolding range
get_or-range zero n k d l = absurd (omega arith)
get_or-range (suc m) n zero d l = sym (add-zero n)
get_or-range (suc m) n (suc k) d l = get_or-range m (suc n) k d (omega arith) ∙ omega arith

pub get_d_of : {A B : Type 0} (f : A → B) (l : List A) (k : ℕ) (d : A) (b : B) → k < length l → get_or (map f l) k b ≡ f (get_or l k d)
get_d_of f [] k d b h = absurd (omega arith)
get_d_of f (x ∷ l) zero d b h = refl
get_d_of f (x ∷ l) (suc k) d b h = get_d_of f l k d b (omega arith)

pub those-same : (p q : ℕ → Bool) (n m : ℕ) → ((k : ℕ) → p k ≡ q k) → those p n m ≡ those q n m
those-same p q n m h = ap (λ (f : ℕ → Bool). those f n m) (fun_ext h)

pub those-agree : (p q : ℕ → Bool) (m n : ℕ) → ((k : ℕ) → n ≤ k → k < n + m → p k ≡ q k) → those p n m ≡ those q n m
unfolding those
those-agree p q zero n h = refl
those-agree p q (suc m) n h = rw (h n (omega arith) (omega arith), those-agree p q m (suc n) (λ k i j. h k (omega arith) (omega arith)))
