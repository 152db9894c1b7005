-- `value_end` meets its contract. The invariant: the answer is i and the answer for what is left at i. Assumes nothing.
use Rattle.attributes.proofs.Bytes.{value_turns}
use Rattle.attributes.proofs.value.value_end.Goals as goal

pub loop-i-init : goal.loop-i-init
loop-i-init c = search value_turns

pub bounds-content-i : goal.bounds-content-i
bounds-content-i c = search value_turns

pub overflow_add-i : goal.overflow_add-i
overflow_add-i c = search value_turns

pub loop-i-smaller : goal.loop-i-smaller
loop-i-smaller c = search value_turns

pub loop-i-preserved : goal.loop-i-preserved
loop-i-preserved c = search value_turns

pub returns-after-loop-i : goal.returns-after-loop-i
returns-after-loop-i c = search value_turns

pub returns-then-b-quote : goal.returns-then-b-quote
returns-then-b-quote c = search value_turns
