-- `Refusal::values` meets its contract. Assumes nothing.
use borrow.Author.Rules.{rules}
use Rattle.state.proofs.answer.Refusal.values.Goals as goal

pub numbered-said-requires : goal.numbered-said-requires
numbered-said-requires c = search rules

pub returns : goal.returns
returns c = rw c.numbered-said.ensures
