-- `model_rows::row_at` meets its contract, by the laws of the tables of a numbered circuit (`Rowed`).
use Rattle.std.proofs.Common.{ap, ◌∙◌, arith}
use Rattle.model_rows.specs.Found.{found}
use Rattle.model_rows.specs.Rowed.{fin, ruling, gate-found, joining, join-found}
use Rattle.model_rows.proofs.row_at.Goals as goal

pub bounds-roles-q : goal.bounds-roles-q
bounds-roles-q c = omega (arith, c.requires.2, (fin _ _ _ _ c.requires.0).roles, (fin _ _ _ _ c.requires.0).at_most)

pub bounds-origins-q : goal.bounds-origins-q
bounds-origins-q c = omega (arith, c.requires.2, (fin _ _ _ _ c.requires.0).origins, (fin _ _ _ _ c.requires.0).at_most)

pub gate_row-requires : goal.gate_row-requires
gate_row-requires c = rw c.from-from.ensures (ruling _ _ _ _ c.requires.0 c.args.q c.requires.1 c.requires.2 c.in-1.is)

pub returns-in-1 : goal.returns-in-1
returns-in-1 c = (rw c.from-from.ensures at c.gate_row.ensures) ∙ ap found (gate-found _ _ _ _ c.requires.0 c.args.q c.requires.1 c.requires.2 c.in-1.is)

pub join_row-requires : goal.join_row-requires
join_row-requires c = rw c.from-from.ensures (joining _ _ _ _ c.requires.0 c.args.q c.requires.1 c.requires.2 c.in-4.is)

pub returns-in-4 : goal.returns-in-4
returns-in-4 c = (rw c.from-from.ensures at c.join_row.ensures) ∙ ap found (join-found _ _ _ _ c.requires.0 c.args.q c.requires.1 c.requires.2 c.in-4.is)
