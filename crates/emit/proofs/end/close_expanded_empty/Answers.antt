-- `close_expanded_empty` meets its contract. Assumes nothing.
use borrow.Author.Rules.{rules}
use Rattle.emit.specs.End.{close_expanded_empty}
use Rattle.emit.proofs.end.close_expanded_empty.Goals as goal

pub fewer-requires : goal.fewer-requires
fewer-requires c = search rules

pub with_depth-fewer-requires : goal.with_depth-fewer-requires
with_depth-fewer-requires c = search rules

pub end-requires : goal.end-requires
end-requires c = search rules

pub returns : goal.returns
unfolding close_expanded_empty
returns c = simp (← c.with_depth-fewer.ensures, ← c.fewer.ensures) c.end.ensures
