-- `move_on` meets its contract. Assumes nothing.
use Rattle.capi.proofs.Numbers.{numbers}
use Rattle.capi.proofs.slots.move_on.Goals as goal

pub note-requires : goal.note-requires
note-requires c = search numbers

pub phase_number-requires : goal.phase_number-requires
phase_number-requires c = search numbers

pub slice_bounds-put-end : goal.slice_bounds-put-end
slice_bounds-put-end c = search numbers

pub put-requires : goal.put-requires
put-requires c = search numbers

pub shape_of-state : goal.shape_of-state
shape_of-state c = search numbers

pub returns : goal.returns
returns c = search numbers
