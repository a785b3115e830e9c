-- `parts::input_nid` meets its contract: it reads the record where the input starts.
use Rattle.std.proofs.Common.{◌∙◌, arith}
use Rattle.circuit_lists.proofs.Reading.{input-inside, nid-read}
use Rattle.circuit_lists.proofs.parts.input_nid.Goals as goal

pub offset_bounds-starts-k : goal.offset_bounds-starts-k
offset_bounds-starts-k c = omega (arith, input-inside c.requires.0 c.requires.1 c.requires.2)

pub bounds-starts-k : goal.bounds-starts-k
bounds-starts-k c = omega (arith, input-inside c.requires.0 c.requires.1 c.requires.2)

pub nid_at-requires : goal.nid_at-requires
nid_at-requires c = omega (arith, input-inside c.requires.0 c.requires.1 c.requires.2)

pub returns : goal.returns
returns c = c.nid_at.ensures ∙ nid-read c.requires.0 c.requires.1 c.requires.2
