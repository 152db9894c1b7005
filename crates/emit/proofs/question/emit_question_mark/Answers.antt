-- `emit_question_mark` meets its contract. Assumes nothing.
use borrow.Author.Tests.{le-ltb, lt-ltb}
use borrow.Author.Rules.{rules}
use Rattle.emit.specs.Question.{emit_question_mark}
use Rattle.emit.proofs.question.emit_question_mark.Goals as goal

pub size-requires : goal.size-requires
size-requires c = search rules

pub stop-requires : goal.stop-requires
stop-requires c = search rules

pub inner-content-requires : goal.inner-content-requires
inner-content-requires c = search rules

pub question_event-event-requires : goal.question_event-event-requires
question_event-event-requires c = search rules

pub event-requires : goal.event-requires
event-requires c = search rules

pub returns-then-size-lt4 : goal.returns-then-size-lt4
unfolding emit_question_mark
returns-then-size-lt4 c = simp (lt-ltb _ _ c.if-size-lt4.true, ← c.size.ensures) c.stop.ensures

pub returns-else-size-lt4 : goal.returns-else-size-lt4
unfolding emit_question_mark
returns-else-size-lt4 c = simp (← c.question_event-event.ensures, ← c.inner-content.ensures, le-ltb _ _ c.if-size-lt4.false, ← c.size.ensures) c.event.ensures
