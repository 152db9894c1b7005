-- `goes` meets its contract. Assumes nothing.
use borrow.Author.Rules.{rules}
use Rattle.plain.specs.Known.{goes}
use Rattle.plain.specs.Known.{goes}
use Rattle.plain.proofs.known.goes.Goals as goal

pub byte_at-requires : goal.byte_at-requires
byte_at-requires c = search rules

pub returns : goal.returns
unfolding goes
returns c = simp c.byte_at.ensures
