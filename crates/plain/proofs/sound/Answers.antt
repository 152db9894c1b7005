-- `sound` meets its contract. Assumes nothing.
use borrow.Author.Rules.{rules}
use Rattle.plain.proofs.States.{states}
use Rattle.plain.proofs.sound.Goals as goal

pub capacity-most-requires : goal.capacity-most-requires
capacity-most-requires c = search rules

pub latest-last-requires : goal.latest-last-requires
latest-last-requires c = search states

pub in_place-requires : goal.in_place-requires
in_place-requires c = search rules

pub returns-then-reader-length : goal.returns-then-reader-length
returns-then-reader-length c = search states

pub returns-else-reader-length : goal.returns-else-reader-length
returns-else-reader-length c = search states
