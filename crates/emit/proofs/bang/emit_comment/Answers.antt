-- `emit_comment` meets its contract. Assumes nothing.
use borrow.Author.Rules.{rules}
use Rattle.emit.specs.Bang.{emit_comment}
use Rattle.emit.proofs.bang.emit_comment.Goals as goal

pub starts_with-requires : goal.starts_with-requires
starts_with-requires c = search rules

pub inner-content-requires : goal.inner-content-requires
inner-content-requires c = search rules

pub checked_comment-requires : goal.checked_comment-requires
checked_comment-requires c = search rules

pub bang_event-requires : goal.bang_event-requires
bang_event-requires c = search rules

pub stop-requires : goal.stop-requires
stop-requires c = search rules

pub returns-then-reader : goal.returns-then-reader
unfolding emit_comment
returns-then-reader c = simp (c.if-reader.true, ← c.inner-content.ensures, c.if-starts_with.true, ← c.starts_with.ensures) c.checked_comment.ensures

pub returns-else-reader : goal.returns-else-reader
unfolding emit_comment
returns-else-reader c = simp (c.if-reader.false, ← c.inner-content.ensures, c.if-starts_with.true, ← c.starts_with.ensures) c.bang_event.ensures

pub returns-else-starts_with : goal.returns-else-starts_with
unfolding emit_comment
returns-else-starts_with c = simp (c.if-starts_with.false, ← c.starts_with.ensures) c.stop.ensures
