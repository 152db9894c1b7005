-- `marks_end` meets its contract. Assumes nothing.
use Rattle.parser.proofs.Turns.{opener_turns}
use Rattle.parser.proofs.marks.marks_end.Goals as goal

pub returns-then-s-from : goal.returns-then-s-from
returns-then-s-from c = search opener_turns

pub overflow_sub-room : goal.overflow_sub-room
overflow_sub-room c = search opener_turns

pub overflow_sub-result : goal.overflow_sub-result
overflow_sub-result c = search opener_turns

pub returns-then-room-opener : goal.returns-then-room-opener
returns-then-room-opener c = search opener_turns

pub overflow_add-from : goal.overflow_add-from
overflow_add-from c = search opener_turns

pub marks_from-requires : goal.marks_from-requires
marks_from-requires c = search opener_turns

pub returns : goal.returns
returns c = search opener_turns
