-- `sift::sift_all` meets its contract: the pair tables are lent in one, and are the caller's again.
use Rattle.std.proofs.Common.{sym, ◌∙◌, arith}
use Rattle.store.proofs.Lent.{back}
use Rattle.store_sift.proofs.sift.sift_all.Goals as goal

pub returns : goal.returns
returns c =
    let same = c.sift_pairs.ensures.same in
    λ rs. back (grind (arith, sym same.keys)) (grind (arith, sym same.weights)) ∙ c.sift_pairs.ensures.tables rs
