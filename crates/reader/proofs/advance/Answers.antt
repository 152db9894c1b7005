-- `advance` meets its contract. Assumes nothing.
use borrow.Author.Rules.{rules}
use Rattle.reader.proofs.Rooms.{step_room}
use Rattle.reader.proofs.advance.Goals as goal

pub decide-step-requires : goal.decide-step-requires
decide-step-requires c = search rules

pub note-requires : goal.note-requires
note-requires c = rw c.decide-step.ensures (step_room _ _ _)

pub shape_of-stack : goal.shape_of-stack
shape_of-stack c = search rules

pub returns : goal.returns
returns c =
    record { outcome = c.decide-step.ensures; slots = rw (← c.decide-step.ensures) c.note.ensures }
