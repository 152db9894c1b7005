-- `plain` meets its contract. Assumes nothing.
use Rattle.ground.proofs.Choices.{choices}
use Rattle.capi_pieces.specs.Numbers.{plain_of}
use Rattle.capi_pieces.proofs.slots.plain.Goals as goal

pub still_open-requires : goal.still_open-requires
unfolding plain_of
still_open-requires c = search choices depth 12

pub still_open-requires-in-2 : goal.still_open-requires-in-2
unfolding plain_of
still_open-requires-in-2 c = search choices depth 12

pub still_open-requires-in-3 : goal.still_open-requires-in-3
unfolding plain_of
still_open-requires-in-3 c = search choices depth 12

pub still_open-requires-in-4 : goal.still_open-requires-in-4
unfolding plain_of
still_open-requires-in-4 c = search choices depth 12

pub still_open-requires-in-5 : goal.still_open-requires-in-5
unfolding plain_of
still_open-requires-in-5 c = search choices depth 12

pub still_open-requires-in-6 : goal.still_open-requires-in-6
unfolding plain_of
still_open-requires-in-6 c = search choices depth 12

pub still_open-requires-in-10 : goal.still_open-requires-in-10
unfolding plain_of
still_open-requires-in-10 c = search choices depth 12

pub still_open-requires-in-11 : goal.still_open-requires-in-11
unfolding plain_of
still_open-requires-in-11 c = search choices depth 12

pub returns-in-0 : goal.returns-in-0
unfolding plain_of
returns-in-0 c = search choices depth 12

pub returns-in-1 : goal.returns-in-1
unfolding plain_of
returns-in-1 c = search choices depth 12

pub returns-in-2 : goal.returns-in-2
unfolding plain_of
returns-in-2 c = search choices depth 12

pub returns-in-3 : goal.returns-in-3
unfolding plain_of
returns-in-3 c = search choices depth 12

pub returns-in-4 : goal.returns-in-4
unfolding plain_of
returns-in-4 c = search choices depth 12

pub returns-in-5 : goal.returns-in-5
unfolding plain_of
returns-in-5 c = search choices depth 12

pub returns-in-6 : goal.returns-in-6
unfolding plain_of
returns-in-6 c = search choices depth 12

pub returns-in-10 : goal.returns-in-10
unfolding plain_of
returns-in-10 c = search choices depth 12

pub returns-in-11 : goal.returns-in-11
unfolding plain_of
returns-in-11 c = search choices depth 12

pub returns-in_default : goal.returns-in_default
unfolding plain_of
returns-in_default c = search choices depth 12
