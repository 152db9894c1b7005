-- `tell` meets its contract. Assumes nothing.
use borrow.Author.Rules.{rules}
use Rattle.plain.specs.Told.{tell}
use Rattle.plain.proofs.told.tell.Goals as goal

pub event-requires : goal.event-requires
event-requires c = search rules

pub returns : goal.returns
unfolding tell
returns c = c.event.ensures
