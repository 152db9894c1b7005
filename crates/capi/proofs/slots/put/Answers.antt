-- `put` meets its contract, and ends: fewer numbers are left after each. The invariant: i numbers are written. Assumes nothing.
use Rattle.capi.proofs.Puts.{put_turns}
use Rattle.capi.proofs.slots.put.Goals as goal

pub returns-then-slots-numbers : goal.returns-then-slots-numbers
returns-then-slots-numbers c = search put_turns

pub loop-i-init : goal.loop-i-init
loop-i-init c = search put_turns

pub offset_bounds-numbers-i : goal.offset_bounds-numbers-i
offset_bounds-numbers-i c = search put_turns

pub bounds-numbers-i : goal.bounds-numbers-i
bounds-numbers-i c = search put_turns

pub offset_bounds-slots-i : goal.offset_bounds-slots-i
offset_bounds-slots-i c = search put_turns

pub bounds-slots-i : goal.bounds-slots-i
bounds-slots-i c = search put_turns

pub overflow_add-i : goal.overflow_add-i
overflow_add-i c = search put_turns

pub loop-i-smaller : goal.loop-i-smaller
loop-i-smaller c = search put_turns

pub loop-i-preserved : goal.loop-i-preserved
loop-i-preserved c = search put_turns

pub shape_of-slots : goal.shape_of-slots
shape_of-slots c = search put_turns

pub returns : goal.returns
returns c = search put_turns
