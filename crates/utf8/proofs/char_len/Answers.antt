-- `char_len` meets its contract: each arm, by the row of its range. Assumes nothing.
use Rattle.utf8.proofs.Turns.{char_turns}
use Rattle.utf8.proofs.char_len.Goals as goal

pub returns-then-s-at : goal.returns-then-s-at
returns-then-s-at c = search char_turns

pub bounds-s-at : goal.bounds-s-at
bounds-s-at c = search char_turns

pub overflow_add-at : goal.overflow_add-at
overflow_add-at c = search char_turns

pub tail_len-requires : goal.tail_len-requires
tail_len-requires c = search char_turns

pub long_len-requires : goal.long_len-requires
long_len-requires c = search char_turns

pub returns-in-0-to-127 : goal.returns-in-0-to-127
returns-in-0-to-127 c = search char_turns

pub returns-in-128-to-193 : goal.returns-in-128-to-193
returns-in-128-to-193 c = search char_turns

pub returns-in-194-to-223 : goal.returns-in-194-to-223
returns-in-194-to-223 c = search char_turns

pub returns-in_default : goal.returns-in_default
returns-in_default c = search char_turns
