-- `tick` meets its contract. Assumes nothing.
use borrow.Author.Rules.{rules}
use Rattle.plain.specs.Letters.{letter}
use Rattle.plain.proofs.Flags.{flags}
use Rattle.plain.proofs.known.Letters.tick.Goals as goal

pub lead-requires : goal.lead-requires
lead-requires c = search rules

pub overflow_sub-self : goal.overflow_sub-self
overflow_sub-self c = search rules

pub owing-requires : goal.owing-requires
owing-requires c = search rules

pub owing-requires-else-self-b : goal.owing-requires-else-self-b
owing-requires-else-self-b c = search rules

pub returns-then-self-eq0 : goal.returns-then-self-eq0
unfolding letter
returns-then-self-eq0 c = search flags

pub returns-then-self-b : goal.returns-then-self-b
unfolding letter
returns-then-self-b c = search flags

pub returns-else-self-b : goal.returns-else-self-b
unfolding letter
returns-else-self-b c = search flags
