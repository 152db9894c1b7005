-- `opened` meets its contract. Assumes nothing.
use Rattle.pieces.proofs.Turns.{starts}
use Rattle.pieces.proofs.ahead.opened.Goals as goal

pub returns-then-piece-from : goal.returns-then-piece-from
returns-then-piece-from c = search starts

pub bounds-piece-from : goal.bounds-piece-from
bounds-piece-from c = search starts

pub overflow_add-from : goal.overflow_add-from
overflow_add-from c = search starts

pub bang-requires : goal.bang-requires
bang-requires c = search starts

pub overflow_add-from-in-63 : goal.overflow_add-from-in-63
overflow_add-from-in-63 c = search starts

pub seen_end-requires : goal.seen_end-requires
seen_end-requires c = search starts

pub in_marked-requires : goal.in_marked-requires
in_marked-requires c = search starts

pub element_end-requires : goal.element_end-requires
element_end-requires c = search starts

pub in_tag-requires : goal.in_tag-requires
in_tag-requires c = search starts

pub returns-in-33 : goal.returns-in-33
returns-in-33 c = search starts

pub returns-in-63 : goal.returns-in-63
returns-in-63 c = search starts

pub returns-in_default : goal.returns-in_default
returns-in_default c = search starts
