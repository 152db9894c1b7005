-- `end` meets its contract. Assumes nothing.
use borrow.Author.Rules.{rules}
use Rattle.emit.specs.End.{end_event}
use Rattle.emit.proofs.end.end.Goals as goal

pub size-size-requires : goal.size-size-requires
size-size-requires c = search rules

pub event-requires : goal.event-requires
event-requires c = search rules

pub returns : goal.returns
unfolding end_event
returns c = simp (← c.size-size.ensures) c.event.ensures
