-- `tag` meets its contract. Assumes nothing.
use borrow.Author.Rules.{rules}
use Rattle.emit.specs.Start.{tag}
use Rattle.emit.proofs.start.tag.Goals as goal

pub name_len-name-requires : goal.name_len-name-requires
name_len-name-requires c = search rules

pub returns : goal.returns
unfolding tag
returns c = simp (← c.name_len-name.ensures)
