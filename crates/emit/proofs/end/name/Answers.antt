-- `name` meets its contract. Assumes nothing.
use borrow.Author.Tests.{eq-eqb, ne_eqb}
use borrow.Author.Rules.{rules}
use Rattle.emit.specs.End.{closing_name}
use Rattle.emit.proofs.end.name.Goals as goal

pub trim_end-to-requires : goal.trim_end-to-requires
trim_end-to-requires c = search rules

pub returns-then-to-content : goal.returns-then-to-content
unfolding closing_name
returns-then-to-content c = simp (eq-eqb _ _ c.if-to-content.true, ← c.trim_end-to.ensures, c.if-settings.true)

pub returns-else-to-content : goal.returns-else-to-content
unfolding closing_name
returns-else-to-content c = simp (ne_eqb _ _ c.if-to-content.false, ← c.trim_end-to.ensures, c.if-settings.true)

pub returns-else-settings : goal.returns-else-settings
unfolding closing_name
returns-else-settings c = simp c.if-settings.false
