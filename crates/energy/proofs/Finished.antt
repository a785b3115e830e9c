-- Theorems over the definitions of specs/Finished.antt, where their subject is told. An edit of such a definition is refused here.
-- Assumes nothing.
use Rattle.std.specs.Prelude.{◌≡◌, refl, ◌⊎◌, ◌↔◌, Bool, true, false, List, [], ◌∷◌, ◌++◌, map, ℕ, suc, ◌+◌, ◌≤◌, ◌<◌, pos, nat_abs, get_or}
use Rattle.std.proofs.Common.{sym, ◌∙◌, ap, inl, inr, arith}
use Rattle.std.proofs.Math.Path.{fun_ext}
use Rattle.units.specs.declared.Form.{Form}
use Rattle.units.specs.declared.Form.TheVariants.{Binary, Ising}
use Rattle.penalty.specs.Rows.{res, aux, car}
use Rattle.energy.specs.Plain.{Setting, Row, wire, Obey, plain, plain-obey, sorted-le}
use Rattle.energy.specs.Circuit.{Nodes, Node, fixed, free, op, carry_of, Constraint, Choice, value, Before, IsAdder, IsFree}
use Rattle.energy.specs.Numbering.{In, Operands, name_by, name, row_by, gate_rows, joins, joined, Named, name_in, Numbering, rows, top}
use Rattle.energy.specs.Model.{Sized, ising, binary_energy, ising_energy, energy_in}
use Rattle.energy.specs.Sized.{Wired}
use Rattle.energy.specs.Before.{Chosen, ExactlyOne}
use Rattle.energy.proofs.Before.{gate-value, top-value, exactly-one}
use Rattle.energy.specs.Fixing.{Within, complete, Meets, OneValue, complete-meets, complete-same, fixed_at, placed-fixed}
use Rattle.energy.proofs.Fixing.{sized-fix_all, fix_all-energy, fixed-table}
use Rattle.energy.proofs.Fours.{built-fours}
use Rattle.energy.specs.Ising.{ising-fixed}
use Rattle.energy.proofs.Ising.{ising-energy}
use Rattle.energy.specs.Finished.{AtLeastTwo, Demand3, Hit, Known, Met, OwnRunOnly, Reaches, Room, finished, fixes, forced, in_form, model, model-energy, proper, rows-wired, sized-model}

-- ---- what fixing says of the circuit's values, and back

forced-consts : (σ : Setting) (nm : ℕ → ℕ) (cs : List Constraint) → Meets σ (forced nm cs) → (σ 1 ≡ true) × (σ 0 ≡ false)
forced-consts σ nm [] t = (t.0, t.1.0)
forced-consts σ nm (c ∷ cs) t = forced-consts σ nm cs t.1

forced-met : (σ : Setting) (v : ℕ → Bool) (nm : ℕ → ℕ) (gs : List ℕ) → ((g : ℕ) → In g gs → σ (nm g) ≡ v g)
    → (cs : List Constraint) → Known gs cs → Meets σ (forced nm cs) → Met v cs
forced-met σ v nm gs h [] k t = tt
forced-met σ v nm gs h (c ∷ cs) k t = (sym (h c.gate k.0) ∙ t.0, forced-met σ v nm gs h cs k.1 t.1)

met-forced : (σ : Setting) (v : ℕ → Bool) (nm : ℕ → ℕ) (gs : List ℕ) → ((g : ℕ) → In g gs → σ (nm g) ≡ v g)
    → (cs : List Constraint) → Known gs cs → Met v cs → σ 1 ≡ true → σ 0 ≡ false → Meets σ (forced nm cs)
met-forced σ v nm gs h [] k t one none = (one, (none, tt))
met-forced σ v nm gs h (c ∷ cs) k t one none = (h c.gate k.0 ∙ t.0, met-forced σ v nm gs h cs k.1 t.1 one none)

no-energy : (k : ℕ) → pos (k + k) ≡ pos 0 → k ≡ 0
no-energy k e = let h : k + k ≡ 0 = ap nat_abs e in omega arith

-- ---- every name is below the tables' size

wired-left : (n : ℕ) (rs ts : List Row) → Wired n (rs ++ ts) → Wired n rs
wired-left n [] ts w = tt
wired-left n (r ∷ rs) ts w = (w.0, wired-left n rs ts w.1)

wired-right : (n : ℕ) (rs ts : List Row) → Wired n (rs ++ ts) → Wired n ts
wired-right n [] ts w = w
wired-right n (r ∷ rs) ts w = wired-right n rs ts w.1

wired-gate : (n : ℕ) (N : Nodes) (base : ℕ → ℕ) (gs : List ℕ) → Wired n (gate_rows N base gs) → (g : ℕ) → In g gs → Wired n (row_by N base g (N g))
wired-gate n N base [] w g i = absurd i
wired-gate n N base (h ∷ gs) w g (inl e) =
    rw e (wired-left n (row_by N base h (N h)) (gate_rows N base gs) w)
wired-gate n N base (h ∷ gs) w g (inr i) = wired-gate n N base gs (wired-right n (row_by N base h (N h)) (gate_rows N base gs) w) g i

joined-below : (n q next : ℕ) (ps : List ℕ) → q < n → Wired n (joins q next ps) → joined q next ps < n
unfolding wire
joined-below n q next [] h w = h
joined-below n q next (p ∷ ps) h w = joined-below n next (suc next) ps (w.0 aux) w.1

module _ (n : ℕ) (d : Named) (num : Numbering d) (room : Room n d) where
  two : 2 ≤ n
  two = omega (arith, sorted-le 2 (rows d) d.count num.sorted, room.fits)

  gate-row : (g : ℕ) → In g d.reached → Wired n (row_by d.nodes d.base g (d.nodes g))
  gate-row = wired-gate n d.nodes d.base d.reached (wired-left n (gate_rows d.nodes d.base d.reached) _ (rows-wired n d num room))

  carry-below : (a : ℕ) (nd : Node) → IsAdder nd → Wired n (row_by d.nodes d.base a nd) → d.base a + 1 < n
  unfolding wire
  carry-below a (fixed b) ad w = absurd ad
  carry-below a (free src) ad w = absurd ad
  carry-below a (op k x y z) ad w = rw ad at (w.0 car)
  carry-below a (carry_of b) ad w = absurd ad

  node-below : (g : ℕ) → In g d.reached → (nd : Node) → (IsFree nd → IsFree (d.nodes g)) → Wired n (row_by d.nodes d.base g nd)
      → Operands d.reached nd → Before d.nodes g nd → name_by d.base g nd < n
  unfolding wire
  node-below g i (fixed true) q w ops bf = omega (arith, two)
  node-below g i (fixed false) q w ops bf = omega (arith, two)
  node-below g i (free src) q w ops bf = omega (arith, (num.frees g i (q tt)).1, room.fits)
  node-below g i (op k x y z) q w ops bf = w.0 res
  node-below g i (carry_of a) q w ops bf = carry-below a (d.nodes a) bf.1 (gate-row a ops)

  -- the name of a reached gate
  pub name_below : (g : ℕ) → In g d.reached → name_in d g < n
  unfolding name
  name_below g i = node-below g i (d.nodes g) (λ f. f) (gate-row g i) (num.closed g i) (num.ordered g)

  -- the joined qubit
  pub top_below : top d < n
  top_below =
      joined-below n (name_in d d.bad) d.next (map (name_in d) d.bads) (name_below d.bad num.bad-in)
      (wired-right n (gate_rows d.nodes d.base d.reached) _ (rows-wired n d num room))

  -- every qubit that is fixed
  pub fixes-within : (cs : List Constraint) → Known d.reached cs → Within n (fixes d cs)
  fixes-within cs k = (top_below, go cs k)
    where
      go : (cs : List Constraint) → Known d.reached cs → Within n (forced (name_in d) cs)
      go [] k = (omega (arith, two), (omega (arith, two), tt))
      go (c ∷ cs) k = (name_below c.gate k.0, go cs k.1)

  -- fixing keeps it
  pub sized-finished : (cs : List Constraint) → Sized n (finished n d cs)
  sized-finished cs = sized-fix_all n (fixes d cs) (model n d) (sized-model n d num room)

  module _ (cs : List Constraint) (known : Known d.reached cs) where
    -- Theorem, after fixing: a setting has the energy of that setting completed by the fixed values.
    pub after-fixing : (σ : Setting) → binary_energy σ (finished n d cs) ≡ binary_energy (complete (fixes d cs) σ) (model n d)
    after-fixing σ = fix_all-energy n (fixes d cs) σ (model n d) (sized-model n d num room) (fixes-within cs known)

    -- which is its plain energy, in halves
    pub finished-energy : (σ : Setting)
        → binary_energy σ (finished n d cs) ≡ pos (plain (complete (fixes d cs) σ) (rows d) + plain (complete (fixes d cs) σ) (rows d))
    finished-energy σ = after-fixing σ ∙ (model-energy n d num room) (complete (fixes d cs) σ)

    -- at a setting that has the fixed values, the finished model has the plain energy itself
    pub finished-plain : (σ : Setting) → Meets σ (fixes d cs) → binary_energy σ (finished n d cs) ≡ pos (plain σ (rows d) + plain σ (rows d))
    finished-plain σ h =
        finished-energy σ ∙ ap (λ (τ : Setting). pos (plain τ (rows d) + plain τ (rows d))) (fun_ext (complete-same (fixes d cs) σ h))

    -- Theorem: the Ising form has the same energy.
    pub finished-ising : (σ : Setting) → ising_energy σ (ising (finished n d cs)) ≡ binary_energy σ (finished n d cs)
    finished-ising σ = ising-energy σ n (finished n d cs) (sized-finished cs) (built-fours n (rows d) (fixes d cs))

    -- so the form does not matter
    pub either-form : (form : Form) (σ : Setting) → energy_in form σ (in_form form (finished n d cs)) ≡ binary_energy σ (finished n d cs)
    either-form Binary σ = refl
    either-form Ising σ = finished-ising σ

    hit-of : OneValue (fixes d cs) → (σ : Setting) → binary_energy σ (finished n d cs) ≡ pos 0 → Hit d cs
    hit-of clear σ z = (
      bits,
      forced-met τ (value d.nodes e) (name_in d) d.reached (gate-value d num e τ chosen o) cs known t.1,
      sym (top-value d num e τ chosen o) ∙ t.0,
    )
      where
        τ : Setting
        τ = complete (fixes d cs) σ

        t : Meets τ (fixes d cs)
        t = complete-meets (fixes d cs) σ clear

        o : Obey τ (rows d)
        o = plain-obey τ (rows d) (no-energy (plain τ (rows d)) (sym (finished-energy σ) ∙ z))

        bits : ℕ → Bool
        bits g = τ (d.base g)

        e : Choice
        e = proper bits

        consts : (τ 1 ≡ true) × (τ 0 ≡ false)
        consts = forced-consts τ (name_in d) cs t.1

        chosen : Chosen d e τ
        chosen = record { at_low = consts.1; at_high = consts.0; at-free = λ g i f. refl }

    reach_of : Hit d cs → (σ : Setting) × (binary_energy σ (finished n d cs) ≡ pos 0)
    reach_of (bits, met, bd) = (own, finished-plain own meets ∙ ap (λ (k : ℕ). pos (k + k)) one.is_zero)
      where
        one : ExactlyOne d (proper bits)
        one = exactly-one d num (proper bits)

        own : Setting
        own = one.own

        meets : Meets own (fixes d cs)
        meets = (
          one.is_some ∙ bd,
          met-forced own (value d.nodes (proper bits)) (name_in d) d.reached one.is-run cs known met one.makes.at_high one.makes.at_low,
        )

    -- Theorem, the hence of demand 3. That no qubit is fixed to two values is asked by one half alone.
    pub reaches-iff : OneValue (fixes d cs) → (form : Form) → Reaches form n d cs ↔ Hit d cs
    reaches-iff clear form =
        (λ (σ, z). hit-of clear σ (sym (either-form form σ) ∙ z), λ h. let (σ, z) = reach_of h in (σ, either-form form σ ∙ z))

-- ---- Demand 3, in one statement about the models

-- Theorem: the model before fixing has that.
pub own-run-only : (n : ℕ) (d : Named) → Numbering d → Room n d → (e : Choice) → OwnRunOnly n d e
own-run-only n d num room e =
    record {
      own = one.own;
      makes = one.makes;
      is-run = one.is-run;
      is_zero = model-energy n d num room one.own ∙ ap (λ (k : ℕ). pos (k + k)) one.is_zero;
      others = λ σ ch. go σ (one.others σ ch);
    }
  where
    one : ExactlyOne d e
    one = exactly-one d num e

    go : (σ : Setting) → ((q : ℕ) → q < d.count → σ q ≡ one.own q) ⊎ (2 ≤ plain σ (rows d))
        → ((q : ℕ) → q < d.count → σ q ≡ one.own q) ⊎ AtLeastTwo (binary_energy σ (model n d))
    go σ (inl h) = inl h
    go σ (inr h) = inr (plain σ (rows d) + plain σ (rows d), omega arith, model-energy n d num room σ)

-- Theorem: demand 3, of every numbered circuit whose constraints are reached and in which no qubit is fixed to two values.
pub demand-3 : (n : ℕ) (d : Named) → Numbering d → Room n d → (cs : List Constraint) → Known d.reached cs → OneValue (fixes d cs) → Demand3 n d cs
demand-3 n d num room cs known clear =
    record {
      before = own-run-only n d num room;
      after = after-fixing n d num room cs known;
      kept = kept;
      same-ising = finished-ising n d num room cs known;
      hence = reaches-iff n d num room cs known clear;
    }
  where
    table : (q : ℕ) → q < n → get_or (finished n d cs).fixed q 0 ≡ fixed_at (fixes d cs) q
    table q h = fixed-table n (fixes d cs) (model n d) (sized-model n d num room) q h clear (placed-fixed n (rows d) q)

    kept : (form : Form) (q : ℕ) → q < n → get_or (in_form form (finished n d cs)).fixed q 0 ≡ fixed_at (fixes d cs) q
    kept Binary q h = table q h
    kept Ising q h = ap (λ (l : List ℕ). get_or l q 0) (ising-fixed (finished n d cs)) ∙ table q h
