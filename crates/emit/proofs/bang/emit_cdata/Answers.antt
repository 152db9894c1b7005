-- `emit_cdata` meets its contract. Assumes nothing.
use borrow.Author.Rules.{rules}
use Rattle.emit.specs.Bang.{emit_cdata}
use Rattle.emit.proofs.bang.emit_cdata.Goals as goal

pub starts_with-requires : goal.starts_with-requires
starts_with-requires c = search rules

pub inner-content-requires : goal.inner-content-requires
inner-content-requires c = search rules

pub bang_event-requires : goal.bang_event-requires
bang_event-requires c = search rules

pub stop-requires : goal.stop-requires
stop-requires c = search rules

pub returns-then-starts_with : goal.returns-then-starts_with
unfolding emit_cdata
returns-then-starts_with c = simp (← c.inner-content.ensures, c.if-starts_with.true, ← c.starts_with.ensures) c.bang_event.ensures

pub returns-else-starts_with : goal.returns-else-starts_with
unfolding emit_cdata
returns-else-starts_with c = simp (c.if-starts_with.false, ← c.starts_with.ensures) c.stop.ensures
