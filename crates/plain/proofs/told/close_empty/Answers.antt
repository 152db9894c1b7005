-- `close_empty` meets its contract. Assumes nothing.
use borrow.Author.Rules.{rules}
use Rattle.emit.specs.End.{close_expanded_empty, end_event}
use Rattle.plain.specs.Told.{tell}
use Rattle.plain.proofs.told.close_empty.Goals as goal

pub fewer-requires : goal.fewer-requires
fewer-requires c = search rules

pub with_depth-fewer-requires : goal.with_depth-fewer-requires
with_depth-fewer-requires c = search rules

pub size-requires : goal.size-requires
size-requires c = search rules

pub tell-requires : goal.tell-requires
tell-requires c = search rules

pub returns : goal.returns
unfolding close_expanded_empty end_event tell
returns c = simp (← c.fewer.ensures, ← c.with_depth-fewer.ensures, ← c.size.ensures) c.tell.ensures
