-- `start` meets its contract. Assumes nothing.
use Rattle.pieces.proofs.Turns.{starts}
use Rattle.pieces.proofs.ahead.start.Goals as goal

pub returns-then-piece-from : goal.returns-then-piece-from
returns-then-piece-from c = search starts

pub bounds-piece-from : goal.bounds-piece-from
bounds-piece-from c = search starts

pub overflow_add-from : goal.overflow_add-from
overflow_add-from c = search starts

pub opened-requires : goal.opened-requires
opened-requires c = search starts

pub overflow_add-from-in-38 : goal.overflow_add-from-in-38
overflow_add-from-in-38 c = search starts

pub reference-requires : goal.reference-requires
reference-requires c = search starts

pub overflow_add-from-in_default : goal.overflow_add-from-in_default
overflow_add-from-in_default c = search starts

pub text_on-requires : goal.text_on-requires
text_on-requires c = search starts

pub in_first-requires : goal.in_first-requires
in_first-requires c = search starts

pub returns-in-60 : goal.returns-in-60
returns-in-60 c = search starts

pub returns-in-38 : goal.returns-in-38
returns-in-38 c = search starts

pub returns-in_default : goal.returns-in_default
returns-in_default c = search starts
