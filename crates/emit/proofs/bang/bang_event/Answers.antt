-- `bang_event` meets its contract. Assumes nothing.
use borrow.Author.Rules.{rules}
use Rattle.emit.specs.Bang.{bang_event}
use Rattle.emit.proofs.bang.bang_event.Goals as goal

pub event-requires : goal.event-requires
event-requires c = search rules

pub returns : goal.returns
unfolding bang_event
returns c = c.event.ensures
