-- `slashed` meets its contract. Assumes nothing.
use borrow.Author.Tests.{le-ltb, lt-ltb}
use borrow.Author.Rules.{rules}
use Rattle.emit.specs.Start.{slashed}
use Rattle.emit.proofs.start.slashed.Goals as goal

pub inner-content-requires : goal.inner-content-requires
inner-content-requires c = search rules

pub overflow_sub-content : goal.overflow_sub-content
overflow_sub-content c = search rules

pub byte_at-requires : goal.byte_at-requires
byte_at-requires c = search rules

pub returns-then-content : goal.returns-then-content
unfolding slashed
returns-then-content c = simp (← c.byte_at.ensures, lt-ltb _ _ c.if-content.true, ← c.inner-content.ensures)

pub returns-else-content : goal.returns-else-content
unfolding slashed
returns-else-content c = simp (le-ltb _ _ c.if-content.false, ← c.inner-content.ensures)
