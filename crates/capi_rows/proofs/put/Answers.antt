-- `put` meets its contract. Assumes nothing.
use Rattle.capi_rows.proofs.Slots.{puts}
use Rattle.capi_rows.proofs.put.Goals as goal

pub offset_bounds-slots-at : goal.offset_bounds-slots-at
offset_bounds-slots-at c = search puts

pub bounds-slots-at : goal.bounds-slots-at
bounds-slots-at c = search puts

pub overflow_add-slots : goal.overflow_add-slots
overflow_add-slots c = search puts

pub offset_bounds-slots-at-2 : goal.offset_bounds-slots-at-2
offset_bounds-slots-at-2 c = search puts

pub bounds-slots-at-2 : goal.bounds-slots-at-2
bounds-slots-at-2 c = search puts

pub overflow_add-slots-2 : goal.overflow_add-slots-2
overflow_add-slots-2 c = search puts

pub offset_bounds-slots-at-3 : goal.offset_bounds-slots-at-3
offset_bounds-slots-at-3 c = search puts

pub bounds-slots-at-3 : goal.bounds-slots-at-3
bounds-slots-at-3 c = search puts

pub shape_of-slots : goal.shape_of-slots
shape_of-slots c = search puts

pub returns : goal.returns
returns c = search puts
