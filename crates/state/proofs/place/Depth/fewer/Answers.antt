-- `Depth::fewer` meets its contract. Assumes nothing.
use Rattle.state.proofs.Spans.{fewer_none}
use borrow.Author.Rules.{rules}
use Rattle.state.proofs.place.Depth.fewer.Goals as goal

pub overflow_sub-result : goal.overflow_sub-result
overflow_sub-result c = search (rules, fewer_none)

pub returns-then-self-eq0 : goal.returns-then-self-eq0
returns-then-self-eq0 c = search (rules, fewer_none)

pub returns-else-self-eq0 : goal.returns-else-self-eq0
returns-else-self-eq0 c = search (rules, fewer_none)
