-- `sound` meets its contract. Assumes nothing.
use Rattle.state.proofs.Room.{told_slots}
use Rattle.reader.proofs.States.{states}
use Rattle.reader.proofs.sound.sound.Goals as goal

pub returns-then-reader-length : goal.returns-then-reader-length
returns-then-reader-length c = search states

pub returns-then-length-gt-LONGEST : goal.returns-then-length-gt-LONGEST
returns-then-length-gt-LONGEST c = search states

pub returns-then-length-at : goal.returns-then-length-at
returns-then-length-at c = search states

pub capacity-most-requires : goal.capacity-most-requires
capacity-most-requires c = search states

pub returns-then-most-depth : goal.returns-then-most-depth
returns-then-most-depth c = search states

pub latest-last-requires : goal.latest-last-requires
latest-last-requires c = told_slots _ _ _ c.capacity-most.ensures c.if-most-depth.false

pub returns-then-last : goal.returns-then-last
returns-then-last c = search states

pub returns-then-at-last : goal.returns-then-at-last
returns-then-at-last c = search states

pub in_place-requires : goal.in_place-requires
in_place-requires c = search states

pub returns : goal.returns
returns c = search states
