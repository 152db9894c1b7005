-- `load` meets its contract. Assumes nothing.
use Rattle.ground.proofs.Choices.{choices}
use Rattle.capi_pieces.specs.Numbers.{held_of}
use Rattle.capi_pieces.proofs.slots.load.Goals as goal

pub returns-then-slots-lt-SCAN_SLOTS : goal.returns-then-slots-lt-SCAN_SLOTS
unfolding held_of
returns-then-slots-lt-SCAN_SLOTS c = search choices

pub bounds-slots-2 : goal.bounds-slots-2
unfolding held_of
bounds-slots-2 c = search choices

pub bounds-slots-3 : goal.bounds-slots-3
unfolding held_of
bounds-slots-3 c = search choices

pub bounds-slots-0 : goal.bounds-slots-0
unfolding held_of
bounds-slots-0 c = search choices

pub bounds-slots-1 : goal.bounds-slots-1
unfolding held_of
bounds-slots-1 c = search choices

pub scan_of-requires : goal.scan_of-requires
unfolding held_of
scan_of-requires c = search choices

pub returns : goal.returns
unfolding held_of
returns c = search choices
