-- `reference` meets its contract. Assumes nothing.
use Rattle.pieces.proofs.Turns.{starts}
use Rattle.pieces.proofs.ahead.reference.Goals as goal

pub returns-then-piece-from : goal.returns-then-piece-from
returns-then-piece-from c = search starts

pub bounds-piece-from : goal.bounds-piece-from
bounds-piece-from c = search starts

pub reference_end-requires : goal.reference_end-requires
reference_end-requires c = search starts

pub in_first-requires : goal.in_first-requires
in_first-requires c = search starts

pub returns-in-59 : goal.returns-in-59
returns-in-59 c = search starts

pub returns-in-38 : goal.returns-in-38
returns-in-38 c = search starts

pub returns-in-60 : goal.returns-in-60
returns-in-60 c = search starts

pub returns-in_default : goal.returns-in_default
returns-in_default c = search starts
