-- `order_of` meets its contract, and ends: fewer times are left after each. The invariant: what is left to look at decides. Assumes nothing.
use Rattle.columns.proofs.Orders.{order_turns}
use Rattle.columns.proofs.order.order_of.Goals as goal

pub loop-i-init : goal.loop-i-init
loop-i-init c = search order_turns

pub offset_bounds-times-i : goal.offset_bounds-times-i
offset_bounds-times-i c = search order_turns

pub bounds-times-i : goal.bounds-times-i
bounds-times-i c = search order_turns

pub overflow_sub-i : goal.overflow_sub-i
overflow_sub-i c = search order_turns

pub offset_bounds-times-i-in-loop-i : goal.offset_bounds-times-i-in-loop-i
offset_bounds-times-i-in-loop-i c = search order_turns

pub bounds-times-i-in-loop-i : goal.bounds-times-i-in-loop-i
bounds-times-i-in-loop-i c = search order_turns

pub returns-then-times-i : goal.returns-then-times-i
returns-then-times-i c = search order_turns

pub overflow_add-i : goal.overflow_add-i
overflow_add-i c = search order_turns

pub loop-i-smaller : goal.loop-i-smaller
loop-i-smaller c = search order_turns

pub loop-i-preserved : goal.loop-i-preserved
loop-i-preserved c = search order_turns

pub returns : goal.returns
returns c = search order_turns
