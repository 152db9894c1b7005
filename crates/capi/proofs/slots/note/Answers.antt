-- `note` meets its contract. Assumes nothing.
use Rattle.capi.proofs.Marks.{notes}
use Rattle.capi.proofs.slots.note.Goals as goal

pub bounds-state-5 : goal.bounds-state-5
bounds-state-5 c = search notes

pub bounds-state-5-then-state-eq0 : goal.bounds-state-5-then-state-eq0
bounds-state-5-then-state-eq0 c = search notes

pub shape_of-state : goal.shape_of-state
shape_of-state c = search notes

pub returns-then-state-eq0 : goal.returns-then-state-eq0
returns-then-state-eq0 c = search notes

pub returns-else-state-eq0 : goal.returns-else-state-eq0
returns-else-state-eq0 c = search notes

pub returns-else-state-gt-MARK : goal.returns-else-state-gt-MARK
returns-else-state-gt-MARK c = search notes

pub returns-else-mark : goal.returns-else-mark
returns-else-mark c = search notes
