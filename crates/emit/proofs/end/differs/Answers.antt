-- `differs` meets its contract. Assumes nothing.
use borrow.Author.Rules.{rules}
use Rattle.emit.specs.End.{differs}
use Rattle.emit.proofs.end.differs.Goals as goal

pub part-requires : goal.part-requires
part-requires c = search rules

pub part-requires-then-settings : goal.part-requires-then-settings
part-requires-then-settings c = search rules

pub same-requires : goal.same-requires
same-requires c = search rules

pub returns-then-settings : goal.returns-then-settings
unfolding differs
returns-then-settings c = simp (← c.same.ensures, ← c.part-then-settings.ensures.bytes, ← c.part.ensures.bytes, c.if-settings.true)

pub returns-else-settings : goal.returns-else-settings
unfolding differs
returns-else-settings c = simp c.if-settings.false
