-- `long_len` meets its contract: each arm, by the row of its range. Assumes nothing.
use Rattle.utf8.proofs.Turns.{char_turns}
use Rattle.utf8.proofs.long_len.Goals as goal

pub overflow_add-next : goal.overflow_add-next
overflow_add-next c = search char_turns

pub bounds-s-at : goal.bounds-s-at
bounds-s-at c = search char_turns

pub tail_len-requires : goal.tail_len-requires
tail_len-requires c = search char_turns

pub tail_len-requires-in-237 : goal.tail_len-requires-in-237
tail_len-requires-in-237 c = search char_turns

pub tail_len-requires-in-240 : goal.tail_len-requires-in-240
tail_len-requires-in-240 c = search char_turns

pub tail_len-requires-in-244 : goal.tail_len-requires-in-244
tail_len-requires-in-244 c = search char_turns

pub tail_len-requires-in-225-to-236 : goal.tail_len-requires-in-225-to-236
tail_len-requires-in-225-to-236 c = search char_turns

pub tail_len-requires-in-238-to-239 : goal.tail_len-requires-in-238-to-239
tail_len-requires-in-238-to-239 c = search char_turns

pub tail_len-requires-in-241-to-243 : goal.tail_len-requires-in-241-to-243
tail_len-requires-in-241-to-243 c = search char_turns

pub returns-in-224 : goal.returns-in-224
returns-in-224 c = search char_turns

pub returns-in-237 : goal.returns-in-237
returns-in-237 c = search char_turns

pub returns-in-240 : goal.returns-in-240
returns-in-240 c = search char_turns

pub returns-in-244 : goal.returns-in-244
returns-in-244 c = search char_turns

pub returns-in-225-to-236 : goal.returns-in-225-to-236
returns-in-225-to-236 c = search char_turns

pub returns-in-238-to-239 : goal.returns-in-238-to-239
returns-in-238-to-239 c = search char_turns

pub returns-in-241-to-243 : goal.returns-in-241-to-243
returns-in-241-to-243 c = search char_turns

pub returns-in_default : goal.returns-in_default
returns-in_default c = search char_turns

pub returns-in_default-2 : goal.returns-in_default-2
returns-in_default-2 c = search char_turns
