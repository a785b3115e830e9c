-- `text_left::text_length` meets its contract: what is printed into nothing tells its length.
use Rattle.text.specs.Paste.{printed-length}
use Rattle.text_left.proofs.text_length.Goals as goal

pub returns : goal.returns
returns c = printed-length c.print_model.ensures
