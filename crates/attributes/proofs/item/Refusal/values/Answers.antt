-- `Refusal::values` meets its contract. Assumes nothing.
use borrow.Author.Rules.{rules}
use Rattle.attributes.proofs.item.Refusal.values.Goals as goal

pub number-requires : goal.number-requires
number-requires c = search rules

pub quote-requires : goal.quote-requires
quote-requires c = search rules

pub first-requires : goal.first-requires
first-requires c = search rules

pub returns : goal.returns
returns c = rw (c.number.ensures, c.quote.ensures, c.first.ensures)
