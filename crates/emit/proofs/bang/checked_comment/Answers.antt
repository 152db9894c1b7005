-- `checked_comment` meets its contract. Assumes nothing.
use borrow.Author.Tests.{le-ltb, lt-ltb}
use Rattle.emit.specs.Bang.{checked_comment}
use Rattle.emit.proofs.Hyphens.{pairs}
use Rattle.emit.proofs.bang.checked_comment.Goals as goal

pub pair_end-requires : goal.pair_end-requires
pair_end-requires c = search pairs

pub enum_known-second : goal.enum_known-second
enum_known-second c = search pairs

pub enum_told-1 : goal.enum_told-1
enum_told-1 c = search pairs

pub bang_event-requires : goal.bang_event-requires
bang_event-requires c = search pairs

pub returns-in_default : goal.returns-in_default
unfolding checked_comment
returns-in_default c = simp (c.in_default.is, ← c.pair_end.ensures) c.bang_event.ensures

pub bang_event-requires-then-content-second : goal.bang_event-requires-then-content-second
bang_event-requires-then-content-second c = search pairs

pub overflow_sub-first : goal.overflow_sub-first
overflow_sub-first c = search pairs

pub refuse-requires : goal.refuse-requires
refuse-requires c = search pairs

pub returns-then-content-second : goal.returns-then-content-second
unfolding checked_comment
returns-then-content-second c = simp (lt-ltb _ _ c.if-content-second.true, c.in-At.is, ← c.pair_end.ensures) c.bang_event-then-content-second.ensures

pub returns-else-content-second : goal.returns-else-content-second
unfolding checked_comment
returns-else-content-second c = simp (le-ltb _ _ c.if-content-second.false, c.in-At.is, ← c.pair_end.ensures) c.refuse.ensures
