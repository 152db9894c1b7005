-- `skip` meets its contract. Assumes nothing.
use Rattle.parser.proofs.Passed.{mark_passes}
use Rattle.parser.proofs.marks.skip.Goals as goal

pub clear-requires : goal.clear-requires
clear-requires c = search mark_passes

pub returns-then-seen-ne0 : goal.returns-then-seen-ne0
returns-then-seen-ne0 c = search mark_passes

pub returns-then-need-eq0 : goal.returns-then-need-eq0
returns-then-need-eq0 c = search mark_passes

pub returns-else-need-eq0 : goal.returns-else-need-eq0
returns-else-need-eq0 c = search mark_passes
