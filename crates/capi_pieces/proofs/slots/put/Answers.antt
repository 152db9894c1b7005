-- `put` meets its contract. Assumes nothing.
use Rattle.ground.proofs.Slots.{slot_in}
use Rattle.capi_pieces.specs.Numbers.{scan_slots}
use Rattle.capi_pieces.proofs.Answers.{puts}
use Rattle.capi_pieces.proofs.slots.put.Goals as goal

pub bounds-slots-0 : goal.bounds-slots-0
bounds-slots-0 c = search (puts, slot_in scan_slots)

pub bounds-slots-1 : goal.bounds-slots-1
bounds-slots-1 c = search (puts, slot_in scan_slots)

pub bounds-slots-2 : goal.bounds-slots-2
bounds-slots-2 c = search (puts, slot_in scan_slots)

pub bounds-slots-3 : goal.bounds-slots-3
bounds-slots-3 c = search (puts, slot_in scan_slots)

pub shape_of-slots : goal.shape_of-slots
shape_of-slots c = search (puts, slot_in scan_slots)

pub returns : goal.returns
returns c = search (puts, slot_in scan_slots)
