-- `store` meets its contract. Assumes nothing.
use Rattle.capi.proofs.Numbers.{numbers}
use Rattle.capi.proofs.slots.store.Goals as goal

pub phase_number-requires : goal.phase_number-requires
phase_number-requires c = search numbers

pub settings_number-requires : goal.settings_number-requires
settings_number-requires c = search numbers

pub weigh-requires : goal.weigh-requires
weigh-requires c = search numbers

pub slice_bounds-put-end : goal.slice_bounds-put-end
slice_bounds-put-end c = search numbers

pub put-requires : goal.put-requires
put-requires c = search numbers

pub shape_of-state : goal.shape_of-state
shape_of-state c = search numbers

pub returns : goal.returns
returns c = search numbers
