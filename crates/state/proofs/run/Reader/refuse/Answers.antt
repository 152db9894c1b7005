-- `refuse` meets its contract. Assumes nothing.
use borrow.Author.Rules.{rules}
use Rattle.state.specs.Make.{refused}
use Rattle.state.proofs.run.Reader.refuse.Goals as goal

pub moved-reader-requires : goal.moved-reader-requires
moved-reader-requires c = search rules

pub returns : goal.returns
unfolding refused
returns c = rw c.moved-reader.ensures
