-- `Refusal::values` meets its contract. Assumes nothing.
use borrow.Author.Rules.{rules}
use Rattle.escape.proofs.answer.Refusal.values.Goals as goal

pub number-requires : goal.number-requires
number-requires c = search rules

pub returns : goal.returns
returns c = rw c.number.ensures
