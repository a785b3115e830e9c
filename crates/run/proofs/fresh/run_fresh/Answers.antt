-- `fresh::run_fresh` meets its contract, by what `run` ensures on tables that are all 0.
use Rattle.qubot_left.specs.Fresh.{fresh}
use Rattle.run.proofs.fresh.run_fresh.Goals as goal

pub returns : goal.returns
unfolding fresh
returns c = λ i. (c.run.ensures.left i).1
