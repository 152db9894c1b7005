-- `quoted_end` meets its contract. The invariant: the scan from `from` on is the scan from i on in the state of the loop. Assumes nothing.
use Rattle.pieces.proofs.Turns.{quote_turns}
use Rattle.pieces.proofs.tag.quoted_end.Goals as goal

pub loop-i-init : goal.loop-i-init
loop-i-init c = search quote_turns

pub clear-i-requires : goal.clear-i-requires
clear-i-requires c = search quote_turns

pub overflow_add-i : goal.overflow_add-i
overflow_add-i c = search quote_turns

pub returns-then-piece-i : goal.returns-then-piece-i
returns-then-piece-i c = search quote_turns

pub bounds-piece-i : goal.bounds-piece-i
bounds-piece-i c = search quote_turns

pub overflow_add-i-in-loop-i : goal.overflow_add-i-in-loop-i
overflow_add-i-in-loop-i c = search quote_turns

pub element_end-requires : goal.element_end-requires
element_end-requires c = search quote_turns

pub returns-then-q-b : goal.returns-then-q-b
returns-then-q-b c = search quote_turns

pub loop-i-smaller : goal.loop-i-smaller
loop-i-smaller c = search quote_turns

pub loop-i-preserved : goal.loop-i-preserved
loop-i-preserved c = search quote_turns
