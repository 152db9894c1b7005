-- `marks_from` meets its contract. The invariant: the scan from `from` on is the scan from i on with `seen` marks just before. Assumes nothing.
use Rattle.parser.proofs.Passed.{mark_passes}
use Rattle.parser.proofs.marks.marks_from.Goals as goal

pub loop-i-init : goal.loop-i-init
loop-i-init c = search mark_passes

pub skip-i-requires : goal.skip-i-requires
skip-i-requires c = search mark_passes

pub overflow_add-i : goal.overflow_add-i
overflow_add-i c = search mark_passes

pub bounds-s-i : goal.bounds-s-i
bounds-s-i c = search mark_passes

pub overflow_add-i-in-loop-i : goal.overflow_add-i-in-loop-i
overflow_add-i-in-loop-i c = search mark_passes

pub loop-i-smaller-then-b-eq62 : goal.loop-i-smaller-then-b-eq62
loop-i-smaller-then-b-eq62 c = search mark_passes

pub loop-i-preserved-then-b-eq62 : goal.loop-i-preserved-then-b-eq62
loop-i-preserved-then-b-eq62 c = search mark_passes

pub overflow_add-seen : goal.overflow_add-seen
overflow_add-seen c = search mark_passes

pub loop-i-smaller-then-seen-need : goal.loop-i-smaller-then-seen-need
loop-i-smaller-then-seen-need c = search mark_passes

pub loop-i-preserved-then-seen-need : goal.loop-i-preserved-then-seen-need
loop-i-preserved-then-seen-need c = search mark_passes

pub loop-i-smaller-else-seen-need : goal.loop-i-smaller-else-seen-need
loop-i-smaller-else-seen-need c = search mark_passes

pub loop-i-preserved-else-seen-need : goal.loop-i-preserved-else-seen-need
loop-i-preserved-else-seen-need c = search mark_passes

pub loop-i-smaller : goal.loop-i-smaller
loop-i-smaller c = search mark_passes

pub loop-i-preserved : goal.loop-i-preserved
loop-i-preserved c = search mark_passes

pub returns-then-s-i : goal.returns-then-s-i
returns-then-s-i c = search mark_passes

pub returns-then-need-seen : goal.returns-then-need-seen
returns-then-need-seen c = search mark_passes
