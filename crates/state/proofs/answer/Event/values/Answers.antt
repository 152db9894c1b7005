-- `Event::values` meets its contract. Assumes nothing.
use borrow.Author.Rules.{rules}
use Rattle.state.proofs.answer.Event.values.Goals as goal

pub number-kind-requires : goal.number-kind-requires
number-kind-requires c = search rules

pub returns : goal.returns
returns c = rw c.number-kind.ensures
