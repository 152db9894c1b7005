-- `emit_start` meets its contract. Assumes nothing.
use borrow.Author.Rules.{rules}
use Rattle.emit.specs.Start.{emit_start}
use Rattle.emit.proofs.start.emit_start.Goals as goal

pub slashed-requires : goal.slashed-requires
slashed-requires c = search rules

pub inner-content-requires : goal.inner-content-requires
inner-content-requires c = search rules

pub tag-event-requires : goal.tag-event-requires
tag-event-requires c = search rules

pub opening-requires : goal.opening-requires
opening-requires c = search rules

pub tag-event-requires-else-reader : goal.tag-event-requires-else-reader
tag-event-requires-else-reader c = search rules

pub event-requires : goal.event-requires
event-requires c = search rules

pub inner-content-requires-else-slashed : goal.inner-content-requires-else-slashed
inner-content-requires-else-slashed c = search rules

pub tag-event-requires-else-slashed : goal.tag-event-requires-else-slashed
tag-event-requires-else-slashed c = search rules

pub opening-requires-else-slashed : goal.opening-requires-else-slashed
opening-requires-else-slashed c = search rules

pub returns-then-reader : goal.returns-then-reader
unfolding emit_start
returns-then-reader c = simp (← c.tag-event.ensures, c.if-reader.true, ← c.inner-content.ensures, c.if-slashed.true, ← c.slashed.ensures) c.opening.ensures

pub returns-else-reader : goal.returns-else-reader
unfolding emit_start
returns-else-reader c = simp (← c.tag-event-else-reader.ensures, c.if-reader.false, ← c.inner-content.ensures, c.if-slashed.true, ← c.slashed.ensures) c.event.ensures

pub returns-else-slashed : goal.returns-else-slashed
unfolding emit_start
returns-else-slashed c = simp (← c.tag-event-else-slashed.ensures, ← c.inner-content-else-slashed.ensures, c.if-slashed.false, ← c.slashed.ensures) c.opening-else-slashed.ensures
