-- `bang` meets its contract. Assumes nothing.
use Rattle.pieces.proofs.Turns.{starts}
use Rattle.pieces.proofs.ahead.bang.Goals as goal

pub returns-then-piece-from : goal.returns-then-piece-from
returns-then-piece-from c = search starts

pub bounds-piece-from : goal.bounds-piece-from
bounds-piece-from c = search starts

pub overflow_add-from : goal.overflow_add-from
overflow_add-from c = search starts

pub marks_end-requires : goal.marks_end-requires
marks_end-requires c = search starts

pub in_marked-requires : goal.in_marked-requires
in_marked-requires c = search starts

pub overflow_add-from-in-45 : goal.overflow_add-from-in-45
overflow_add-from-in-45 c = search starts

pub marks_end-requires-in-45 : goal.marks_end-requires-in-45
marks_end-requires-in-45 c = search starts

pub in_marked-requires-in-45 : goal.in_marked-requires-in-45
in_marked-requires-in-45 c = search starts

pub returns-in-91 : goal.returns-in-91
returns-in-91 c = search starts

pub returns-in-45 : goal.returns-in-45
returns-in-45 c = search starts

pub returns-in_default : goal.returns-in_default
returns-in_default c = search starts
