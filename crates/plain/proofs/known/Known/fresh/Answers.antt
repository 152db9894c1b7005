-- `fresh` meets its contract. Assumes nothing.
use borrow.Author.Rules.{rules}
use Rattle.plain.specs.Known.{fresh}
use Rattle.plain.proofs.known.Known.fresh.Goals as goal

pub owing-requires : goal.owing-requires
owing-requires c = search rules

pub returns : goal.returns
unfolding fresh
returns c = simp c.owing.ensures
