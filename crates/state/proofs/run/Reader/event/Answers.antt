-- `event` meets its contract. Assumes nothing.
use borrow.Author.Rules.{rules}
use Rattle.state.specs.Make.{told}
use Rattle.state.proofs.run.Reader.event.Goals as goal

pub moved-reader-requires : goal.moved-reader-requires
moved-reader-requires c = search rules

pub returns : goal.returns
unfolding told
returns c = rw c.moved-reader.ensures
