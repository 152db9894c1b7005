-- `reach` meets its contract. Assumes nothing.
use borrow.Author.Rules.{rules}
use Rattle.plain.specs.Known.{reach}
use Rattle.plain.proofs.Flags.{flags}
use Rattle.plain.proofs.known.reach.Goals as goal

pub overflow_add-result : goal.overflow_add-result
overflow_add-result c = search rules

pub returns-then-first-at : goal.returns-then-first-at
unfolding reach
returns-then-first-at c = search flags

pub returns-else-first-at : goal.returns-else-first-at
unfolding reach
returns-else-first-at c = search flags
