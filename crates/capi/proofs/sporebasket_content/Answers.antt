-- `sporebasket_content` meets its contract. Assumes nothing.
use Rattle.capi.proofs.Calls.{calls}
use Rattle.capi.proofs.sporebasket_content.Goals as goal

pub bad_number-requires : goal.bad_number-requires
bad_number-requires c = search calls

pub returns-then-part-lt-PART_SLOTS : goal.returns-then-part-lt-PART_SLOTS
returns-then-part-lt-PART_SLOTS c = search calls

pub placed-span-requires : goal.placed-span-requires
placed-span-requires c = search calls

pub slice_bounds-put-end : goal.slice_bounds-put-end
slice_bounds-put-end c = search calls

pub put-requires : goal.put-requires
put-requires c = search calls

pub shape_of-part : goal.shape_of-part
shape_of-part c = search calls

pub returns : goal.returns
returns c = search calls
