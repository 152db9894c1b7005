-- `opening` meets its contract. Assumes nothing.
use borrow.Author.Tests.{le-ltb, lt-ltb}
use borrow.Author.Rules.{rules}
use Rattle.emit.specs.Start.{opening}
use Rattle.emit.proofs.start.opening.Goals as goal

pub overflow_add-depth : goal.overflow_add-depth
overflow_add-depth c = search rules

pub with_depth-more-requires : goal.with_depth-more-requires
with_depth-more-requires c = search rules

pub event-requires : goal.event-requires
event-requires c = search rules

pub stop-requires : goal.stop-requires
stop-requires c = search rules

pub returns-then-depth-capacity : goal.returns-then-depth-capacity
unfolding opening
returns-then-depth-capacity c = simp (← c.with_depth-more.ensures, lt-ltb _ _ c.if-depth-capacity.true) c.event.ensures

pub returns-else-depth-capacity : goal.returns-else-depth-capacity
unfolding opening
returns-else-depth-capacity c = simp (le-ltb _ _ c.if-depth-capacity.false) c.stop.ensures
