-- `near` meets its contract: so far it has passed bytes that are not the quote. Assumes nothing.
use Rattle.parser.proofs.Passed.{near_turns}
use Rattle.parser.proofs.element.near.Goals as goal

pub limit-end-requires : goal.limit-end-requires
limit-end-requires c = search near_turns

pub loop-i-init : goal.loop-i-init
loop-i-init c = search near_turns

pub bounds-s-i : goal.bounds-s-i
bounds-s-i c = search near_turns

pub overflow_add-i : goal.overflow_add-i
overflow_add-i c = search near_turns

pub loop-i-smaller : goal.loop-i-smaller
loop-i-smaller c = search near_turns

pub loop-i-preserved : goal.loop-i-preserved
loop-i-preserved c = search near_turns

pub returns-after-loop-i : goal.returns-after-loop-i
returns-after-loop-i c = search near_turns

pub returns-then-s-i : goal.returns-then-s-i
returns-then-s-i c = search near_turns
