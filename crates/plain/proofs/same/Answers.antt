-- `same` meets its contract. Assumes nothing.
use borrow.Author.Tests.{le-ltb, lt-ltb}
use borrow.Author.Rules.{rules}
use Rattle.plain.specs.Known.{same_of}
use Rattle.plain.proofs.same.Goals as goal

pub size-size-requires : goal.size-size-requires
size-size-requires c = search rules

pub returns-then-size-lt2 : goal.returns-then-size-lt2
unfolding same_of
returns-then-size-lt2 c = simp (← c.size-size.ensures, lt-ltb _ _ c.if-size-lt2.true)

pub overflow_add-at : goal.overflow_add-at
overflow_add-at c = search rules

pub byte_at-requires : goal.byte_at-requires
byte_at-requires c = search rules

pub returns : goal.returns
unfolding same_of
returns c = simp (c.byte_at.ensures, ← c.size-size.ensures, le-ltb _ _ c.if-size-lt2.false)
