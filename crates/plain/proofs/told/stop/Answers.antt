-- `stop` meets its contract. Assumes nothing.
use borrow.Author.Rules.{rules}
use Rattle.plain.specs.Told.{stop}
use Rattle.plain.proofs.told.stop.Goals as goal

pub stop-requires : goal.stop-requires
stop-requires c = search rules

pub returns : goal.returns
unfolding stop
returns c = c.stop.ensures
