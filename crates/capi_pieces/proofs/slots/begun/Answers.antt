-- `begun` meets its contract. Assumes nothing.
use Rattle.ground.proofs.Choices.{choices}
use Rattle.capi_pieces.specs.Numbers.{begun_of}
use Rattle.capi_pieces.proofs.slots.begun.Goals as goal

pub fresh-requires : goal.fresh-requires
unfolding begun_of
fresh-requires c = search choices depth 12

pub fresh-requires-in-4 : goal.fresh-requires-in-4
unfolding begun_of
fresh-requires-in-4 c = search choices depth 12

pub fresh-requires-in-7 : goal.fresh-requires-in-7
unfolding begun_of
fresh-requires-in-7 c = search choices depth 12

pub fresh-requires-in-8 : goal.fresh-requires-in-8
unfolding begun_of
fresh-requires-in-8 c = search choices depth 12

pub fresh-requires-in-9 : goal.fresh-requires-in-9
unfolding begun_of
fresh-requires-in-9 c = search choices depth 12

pub fresh-requires-in-11 : goal.fresh-requires-in-11
unfolding begun_of
fresh-requires-in-11 c = search choices depth 12

pub returns-in-1 : goal.returns-in-1
unfolding begun_of
returns-in-1 c = search choices depth 12

pub returns-in-4 : goal.returns-in-4
unfolding begun_of
returns-in-4 c = search choices depth 12

pub returns-in-7 : goal.returns-in-7
unfolding begun_of
returns-in-7 c = search choices depth 12

pub returns-in-8 : goal.returns-in-8
unfolding begun_of
returns-in-8 c = search choices depth 12

pub returns-in-9 : goal.returns-in-9
unfolding begun_of
returns-in-9 c = search choices depth 12

pub returns-in-11 : goal.returns-in-11
unfolding begun_of
returns-in-11 c = search choices depth 12

pub returns-in_default : goal.returns-in_default
unfolding begun_of
returns-in_default c = search choices depth 12
