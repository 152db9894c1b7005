-- `emit_ref` meets its contract. Assumes nothing.
use borrow.Author.Rules.{rules}
use Rattle.emit.specs.Reference.{emit_ref}
use Rattle.emit.proofs.reference.emit_ref.Goals as goal

pub inner-content-requires : goal.inner-content-requires
inner-content-requires c = search rules

pub event-requires : goal.event-requires
event-requires c = search rules

pub returns : goal.returns
unfolding emit_ref
returns c = simp (← c.inner-content.ensures) c.event.ensures
