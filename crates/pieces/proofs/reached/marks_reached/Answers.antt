-- `marks_reached` meets its contract. Assumes nothing.
use Rattle.pieces.proofs.Tests.{reacheds}
use Rattle.pieces.proofs.reached.marks_reached.Goals as goal

pub opener-opener-requires : goal.opener-opener-requires
opener-opener-requires c = search reacheds

pub need-requires : goal.need-requires
need-requires c = search reacheds

pub overflow_add-result : goal.overflow_add-result
overflow_add-result c = search reacheds

pub returns-then-marks-need : goal.returns-then-marks-need
returns-then-marks-need c = search reacheds

pub returns-else-marks-need : goal.returns-else-marks-need
returns-else-marks-need c = search reacheds

pub returns-then-marks-opener : goal.returns-then-marks-opener
returns-then-marks-opener c = search reacheds

pub returns-else-marks-opener : goal.returns-else-marks-opener
returns-else-marks-opener c = search reacheds

pub returns-else-marks-eq0-2 : goal.returns-else-marks-eq0-2
returns-else-marks-eq0-2 c = search reacheds
