-- `seen_end` meets its contract. The invariant: the scan from `from` on is the scan from i on in the state of the loop. Assumes nothing.
use Rattle.pieces.proofs.Turns.{marks_turns}
use Rattle.pieces.proofs.marked.seen_end.Goals as goal

pub loop-i-init : goal.loop-i-init
loop-i-init c = search marks_turns

pub returns-then-piece-i : goal.returns-then-piece-i
returns-then-piece-i c = search marks_turns

pub bounds-piece-i : goal.bounds-piece-i
bounds-piece-i c = search marks_turns

pub overflow_add-i : goal.overflow_add-i
overflow_add-i c = search marks_turns

pub returns-then-need-seen : goal.returns-then-need-seen
returns-then-need-seen c = search marks_turns

pub marks_end-requires : goal.marks_end-requires
marks_end-requires c = search marks_turns

pub returns-then-b-eq62 : goal.returns-then-b-eq62
returns-then-b-eq62 c = search marks_turns

pub overflow_add-seen : goal.overflow_add-seen
overflow_add-seen c = search marks_turns

pub loop-i-smaller-then-seen-need : goal.loop-i-smaller-then-seen-need
loop-i-smaller-then-seen-need c = search marks_turns

pub loop-i-preserved-then-seen-need : goal.loop-i-preserved-then-seen-need
loop-i-preserved-then-seen-need c = search marks_turns

pub loop-i-smaller : goal.loop-i-smaller
loop-i-smaller c = search marks_turns

pub loop-i-preserved : goal.loop-i-preserved
loop-i-preserved c = search marks_turns

pub marks_end-requires-else-b-mark : goal.marks_end-requires-else-b-mark
marks_end-requires-else-b-mark c = search marks_turns

pub returns-else-b-mark : goal.returns-else-b-mark
returns-else-b-mark c = search marks_turns
