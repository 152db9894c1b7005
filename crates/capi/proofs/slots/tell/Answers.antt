-- `tell` meets its contract. Assumes nothing.
use borrow.Author.Rules.{rules}
use Rattle.capi.specs.Numbers.{values_numbers}
use Rattle.capi.proofs.slots.tell.Goals as goal

pub slice_bounds-put-end : goal.slice_bounds-put-end
slice_bounds-put-end c = search rules

pub put-requires : goal.put-requires
put-requires c = search rules

pub shape_of-answer : goal.shape_of-answer
shape_of-answer c = search rules

pub returns : goal.returns
unfolding values_numbers
returns c = c.put.ensures
