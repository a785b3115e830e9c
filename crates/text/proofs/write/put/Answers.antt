-- `write::put` meets its contract: a store past the end changes nothing.
use Rattle.std.proofs.Common.{sym, ◌∙◌, rules}
use lib.Seq.{set_out}
use Rattle.text.specs.Paste.{paste-one}
use Rattle.text.proofs.write.put.Goals as goal
use Rattle.text.proofs.write.put.Goals.{then-at-buf, else-at-buf}

pub returns : goal.returns
returns c = record {
  -- what stands in the buffer, whichever way it went
  bytes = elim c.if-at-buf.branch [
    | then-at-buf w ↦ w.buf-is ∙ sym (paste-one _ _ _)
    | else-at-buf w ↦ w.buf-is ∙ sym (set_out _ _ _ w.if-at-buf.false) ∙ sym (paste-one _ _ _)
  ];
  place = search rules;
}
