-- `text_entries::put_shown` meets its contract.
use Rattle.text.specs.Paste.{room_as, printed-as}
use Rattle.text.specs.Text.{shown}
use Rattle.text_entries.proofs.Words.{word_value, word-qubit}
use Rattle.text_entries.proofs.put_shown.Goals as goal

pub put-requires : goal.put-requires
put-requires c = room_as (word_value c.args.values (shown c.args.fixed.now c.args.q) _ c.if-values.true c.value_byte-b.ensures) c.requires.1

pub put_qubit-requires : goal.put_qubit-requires
put_qubit-requires c = room_as (word-qubit c.args.values (shown c.args.fixed.now c.args.q) c.if-values.false) c.requires.1

pub returns-then-values : goal.returns-then-values
returns-then-values c = printed-as (word_value c.args.values (shown c.args.fixed.now c.args.q) _ c.if-values.true c.value_byte-b.ensures) c.put.ensures

pub returns-else-values : goal.returns-else-values
returns-else-values c = printed-as (word-qubit c.args.values (shown c.args.fixed.now c.args.q) c.if-values.false) c.put_qubit.ensures
