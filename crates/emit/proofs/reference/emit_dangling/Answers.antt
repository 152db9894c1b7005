-- `emit_dangling` meets its contract. Assumes nothing.
use borrow.Author.Rules.{rules}
use Rattle.emit.specs.Reference.{emit_dangling}
use Rattle.emit.proofs.reference.emit_dangling.Goals as goal

pub event-requires : goal.event-requires
event-requires c = search rules

pub refuse-requires : goal.refuse-requires
refuse-requires c = search rules

pub returns-then-reader : goal.returns-then-reader
unfolding emit_dangling
returns-then-reader c = simp c.if-reader.true c.event.ensures

pub returns-else-reader : goal.returns-else-reader
unfolding emit_dangling
returns-else-reader c = simp c.if-reader.false c.refuse.ensures
