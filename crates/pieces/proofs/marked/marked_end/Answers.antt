-- `marked_end` meets its contract. Assumes nothing.
use Rattle.pieces.proofs.Turns.{marks_starts}
use Rattle.pieces.proofs.marked.marked_end.Goals as goal

pub returns-then-piece-from : goal.returns-then-piece-from
returns-then-piece-from c = search marks_starts

pub seen_end-requires : goal.seen_end-requires
seen_end-requires c = search marks_starts

pub marks_end-requires : goal.marks_end-requires
marks_end-requires c = search marks_starts

pub returns-then-left-eq0 : goal.returns-then-left-eq0
returns-then-left-eq0 c = search marks_starts

pub returns-else-left-eq0 : goal.returns-else-left-eq0
returns-else-left-eq0 c = search marks_starts
