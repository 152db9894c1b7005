-- `emit_last_text` meets its contract. Assumes nothing.
use borrow.Author.Tests.{eq-eqb, ne_eqb}
use borrow.Author.Rules.{rules}
use Rattle.emit.specs.Text.{emit_last_text}
use Rattle.emit.proofs.text.emit_last_text.Goals as goal

pub content-content-requires : goal.content-content-requires
content-content-requires c = search rules

pub size-requires : goal.size-requires
size-requires c = search rules

pub end-requires : goal.end-requires
end-requires c = search rules

pub emit_text-requires : goal.emit_text-requires
emit_text-requires c = search rules

pub returns-then-size-eq0 : goal.returns-then-size-eq0
unfolding emit_last_text
returns-then-size-eq0 c = simp (eq-eqb _ _ c.if-size-eq0.true, ← c.size.ensures, ← c.content-content.ensures) c.end.ensures

pub returns-else-size-eq0 : goal.returns-else-size-eq0
unfolding emit_last_text
returns-else-size-eq0 c = simp (ne_eqb _ _ c.if-size-eq0.false, ← c.size.ensures, ← c.content-content.ensures) c.emit_text.ensures
