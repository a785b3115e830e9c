-- `model::make_model` meets its contract: placing, fixing and finishing in turn (`Modelled`).
use Rattle.std.proofs.Common.{◌≡◌}
use Rattle.laws.specs.Handed.{handed_on}
use Rattle.energy.specs.Clash.{none, clash}
use Rattle.energy.specs.Fixing.{fix_all}
use Rattle.model_rows.specs.declared.Numbered.{Numbered}
use Rattle.model_rows.specs.Lent.{circuit_in, state_in}
use Rattle.model_place.specs.Blank.{pairs_of}
use Rattle.model_fixes.specs.Order.{fixes_of}
use Rattle.model_fixes.specs.Fixing.{Holds}
use Rattle.model.specs.Steps.{placed_of}
use Rattle.model.specs.Modelled.{reading, to-fix, from-clash, from-done, clash-same, to-turn, rows_long, finishes, with-fixed}
use Rattle.model.proofs.model.make_model.Goals as goal
use Rattle.model.proofs.model.make_model.Goals.{In_ok-t}

-- the qubits are fixed, without a clash
module _ (c : In_ok-t) where
  abbrev numbered : Numbered
  numbered = c.args.numbered

  fixed : Holds (pairs_of (circuit_in numbered)) (fix_all (fixes_of (circuit_in numbered) (state_in numbered)) (placed_of (circuit_in numbered) (state_in numbered))) c.in_ok-t.t
      c.fix_all.new.linear
      c.fix_all.new.present
      c.fix_all.new.rows
      c.fix_all.new.fixed
      c.fix_all.new.keys
      c.fix_all.new.weights
  fixed =
      let p = c.place_model-t.new in
      let f = c.fix_all.new in
      from-done numbered.circuit.now numbered.bads numbered.constraints (state_in numbered) c.requires.0 {t = c.place_model-t.result} {l = p.linear}
      {h = p.present} {r = p.rows} {f = c.args.fixed.now} {ks = p.keys} {ws = p.weights}
      (with-fixed c.requires.2 c.place_model-t.ensures) {u = c.in_ok-t.t} {l' = f.linear} {h' = f.present} {r' = f.rows} {f' = f.fixed}
      {ks' = f.keys} {ws' = f.weights}
      c.in_ok-t.ensures.1

  clear : clash (fixes_of (circuit_in numbered) (state_in numbered)) ≡ none
  clear =
      clash-same numbered.circuit.now numbered.bads numbered.constraints (state_in numbered) c.requires.0 (with-fixed c.requires.2 c.place_model-t.ensures)
      c.in_ok-t.ensures.0

pub fix_all-requires : goal.fix_all-requires
fix_all-requires c =
    let n = c.args.numbered in
    let p = c.place_model-t.new in
    let two =
    to-fix n.circuit.now n.bads n.constraints (state_in n) c.requires.0 {t = c.place_model-t.result} {l = p.linear} {h = p.present} {r = p.rows}
    {f = c.args.fixed.now} {ks = p.keys} {ws = p.weights}
    (with-fixed c.requires.2 c.place_model-t.ensures) in
    (reading n.circuit.now n.bads n.constraints (state_in n) c.requires.0 c.requires.3 c.requires.4, two.0, two.1)

pub finish_model-requires : goal.finish_model-requires
finish_model-requires c =
    let n = c.args.numbered in
    let f = c.fix_all.new in
    let done = fixed (goal.at.finish_model-requires c).In_ok-t in (
      to-turn n.circuit.now n.bads n.constraints (state_in n) c.requires.0 {l = f.linear} {h = f.present} {r = f.rows} {f = f.fixed} {ks = f.keys}
          {ws = f.weights}
          done,
      rows_long n.circuit.now n.bads n.constraints (state_in n) c.requires.0 {l = f.linear} {h = f.present} {r = f.rows} {f = f.fixed} {ks = f.keys}
          {ws = f.weights}
          done,
    )

pub returns-in_err-t : goal.returns-in_err-t
returns-in_err-t c =
    let n = c.args.numbered in
    rw (handed_on _ c.from_residual.ensures.1)
    (from-clash n.circuit.now n.bads n.constraints (state_in n) c.requires.0 (with-fixed c.requires.2 c.place_model-t.ensures) c.in_err-t.ensures)

pub returns : goal.returns
returns c =
    let n = c.args.numbered in
    let p = (goal.at.returns c).In_ok-t in
    let f = c.fix_all.new in
    let last = c.finish_model in
    finishes n.circuit.now n.bads n.constraints (state_in n) c.requires.0 {l = f.linear} {h = f.present} {r = f.rows} {f = f.fixed} {ks = f.keys}
    {ws = f.weights}
    (fixed p) c.args.form last.result {l' = last.new.linear} {h' = last.new.present} {ws' = last.new.weights} last.auto.weights last.ensures.0
    last.ensures.1
    (clear p)
