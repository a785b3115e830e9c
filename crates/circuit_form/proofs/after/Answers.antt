-- `circuit_form::after` meets its contract, by what its calls ensure.
use Rattle.std.proofs.Common.{arith}
use Rattle.circuit.specs.Passing.{list-follows, input-follows, after_list, after-input, after-other}
use Rattle.circuit_form.proofs.after.Goals as goal

pub run_after-requires : goal.run_after-requires
run_after-requires c = list-follows _ _ _ c.requires.1 c.kind_byte_at.ensures c.in-20.is c.field_at-number.ensures

pub returns-in-20 : goal.returns-in-20
returns-in-20 c = after_list _ _ _ c.kind_byte_at.ensures c.in-20.is c.order_at-order.ensures c.field_at-number.ensures c.run_after.ensures

pub run_after-requires-in-23 : goal.run_after-requires-in-23
run_after-requires-in-23 c = input-follows _ _ _ c.requires.1 c.kind_byte_at.ensures c.in-23.is c.field_at-number.ensures

pub returns-in-23 : goal.returns-in-23
returns-in-23 c = after-input _ _ _ c.kind_byte_at.ensures c.in-23.is c.order_at-order.ensures c.field_at-number.ensures c.run_after-in-23.ensures c.nid_at.ensures

pub returns-in_default : goal.returns-in_default
returns-in_default c = after-other _ _ _ c.kind_byte_at.ensures (λ e. omega arith) (λ e. omega arith) c.order_at-order.ensures
