-- `scan_of` meets its contract. Assumes nothing.
use Rattle.ground.proofs.Choices.{choices}
use Rattle.capi_pieces.specs.Numbers.{scan_of}
use Rattle.capi_pieces.proofs.slots.scan_of.Goals as goal

pub still_open-requires : goal.still_open-requires
unfolding scan_of
still_open-requires c = search choices

pub still_open-requires-in-8 : goal.still_open-requires-in-8
unfolding scan_of
still_open-requires-in-8 c = search choices

pub still_open-requires-in-9 : goal.still_open-requires-in-9
unfolding scan_of
still_open-requires-in-9 c = search choices

pub plain-requires : goal.plain-requires
unfolding scan_of
plain-requires c = search choices

pub returns-in-7 : goal.returns-in-7
unfolding scan_of
returns-in-7 c = search choices

pub returns-in-8 : goal.returns-in-8
unfolding scan_of
returns-in-8 c = search choices

pub returns-in-9 : goal.returns-in-9
unfolding scan_of
returns-in-9 c = search choices

pub returns-then-marks-eq0-2 : goal.returns-then-marks-eq0-2
unfolding scan_of
returns-then-marks-eq0-2 c = search choices

pub returns-else-marks-eq0-2 : goal.returns-else-marks-eq0-2
unfolding scan_of
returns-else-marks-eq0-2 c = search choices

pub returns-else-marks-eq0 : goal.returns-else-marks-eq0
unfolding scan_of
returns-else-marks-eq0 c = search choices
