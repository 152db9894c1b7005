-- `emit_text` meets its contract. Assumes nothing.
use borrow.Author.Rules.{rules}
use Rattle.emit.specs.Text.{emit_text}
use Rattle.emit.proofs.text.emit_text.Goals as goal

pub content-content-requires : goal.content-content-requires
content-content-requires c = search rules

pub event-requires : goal.event-requires
event-requires c = search rules

pub returns : goal.returns
unfolding emit_text
returns c = simp (← c.content-content.ensures) c.event.ensures
