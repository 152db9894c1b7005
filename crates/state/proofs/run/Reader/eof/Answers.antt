-- `eof` meets its contract. Assumes nothing.
use borrow.Author.Rules.{rules}
use Rattle.state.specs.Make.{ended}
use Rattle.state.proofs.run.Reader.eof.Goals as goal

pub marked-ended-requires : goal.marked-ended-requires
marked-ended-requires c = search rules

pub event-requires : goal.event-requires
event-requires c = search rules

pub returns : goal.returns
unfolding ended
returns c = simp (← c.marked-ended.ensures) c.event.ensures
