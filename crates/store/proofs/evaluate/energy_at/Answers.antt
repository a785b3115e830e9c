-- `evaluate::energy_at` meets its contract: the two sums, with the offset, are the energy, and are at most the sum of all sizes (`Energies`).
use Rattle.std.proofs.Common.{◌≡◌, ap, ◌∙◌, ◌+ℤ◌, w64, SFits, to_z-of_z}
use Rattle.units.specs.Halves.{energy_of}
use Rattle.store.specs.Tables.{setting_of}
use Rattle.store.proofs.Energies.{sum-fits, all-fits, offset-fits, all-is}
use Rattle.store.proofs.evaluate.energy_at.Goals as goal

pub overflow_add-s : goal.overflow_add-s
overflow_add-s c =
    let a-fits : SFits w64 c.linear_energy-a.result = record { sfits = c.linear_energy-a.type_inv } in
    let b-fits : SFits w64 c.pair_energy-b.result = record { sfits = c.pair_energy-b.type_inv } in
    simp (to_z-of_z a-fits, to_z-of_z b-fits) (sum-fits c.args.form (setting_of c.args.values.now) c.requires c.linear_energy-a.ensures c.pair_energy-b.ensures)

pub overflow_add-e : goal.overflow_add-e
overflow_add-e c =
    let form = c.args.form in
    let σ = setting_of c.args.values.now in
    let a-fits : SFits w64 c.linear_energy-a.result = record { sfits = c.linear_energy-a.type_inv } in
    let b-fits : SFits w64 c.pair_energy-b.result = record { sfits = c.pair_energy-b.type_inv } in
    let s-fits = sum-fits form σ c.requires c.linear_energy-a.ensures c.pair_energy-b.ensures in
    simp (to_z-of_z (offset-fits c.requires), to_z-of_z a-fits, to_z-of_z b-fits, to_z-of_z s-fits) (all-fits form σ c.requires c.linear_energy-a.ensures c.pair_energy-b.ensures)

pub returns : goal.returns
returns c =
    let form = c.args.form in
    let σ = setting_of c.args.values.now in
    let a = c.linear_energy-a.result in
    let b = c.pair_energy-b.result in
    let a-fits : SFits w64 a = record { sfits = c.linear_energy-a.type_inv } in
    let b-fits : SFits w64 b = record { sfits = c.pair_energy-b.type_inv } in
    let s-fits = sum-fits form σ c.requires c.linear_energy-a.ensures c.pair_energy-b.ensures in
    let e-fits = all-fits form σ c.requires c.linear_energy-a.ensures c.pair_energy-b.ensures in
    let read : c.energy_of.result ≡ energy_of (c.args.t.offset +ℤ (a +ℤ b)) form =
    simp (to_z-of_z (offset-fits c.requires), to_z-of_z a-fits, to_z-of_z b-fits, to_z-of_z s-fits, to_z-of_z e-fits) at c.energy_of.ensures in
    λ h rs f. read ∙ ap (λ z. energy_of z form) (all-is form σ c.requires c.linear_energy-a.ensures c.pair_energy-b.ensures h rs f)
