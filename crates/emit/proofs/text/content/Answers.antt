-- `content` meets its contract. Assumes nothing.
use borrow.Author.Rules.{rules}
use Rattle.emit.specs.Text.{text_content}
use Rattle.emit.proofs.text.content.Goals as goal

pub trim_end-requires : goal.trim_end-requires
trim_end-requires c = search rules

pub returns-then-settings : goal.returns-then-settings
unfolding text_content
returns-then-settings c = simp (← c.trim_end.ensures, c.if-settings.true)

pub returns-else-settings : goal.returns-else-settings
unfolding text_content
returns-else-settings c = simp c.if-settings.false
