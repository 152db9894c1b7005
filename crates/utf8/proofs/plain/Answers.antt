-- `plain` meets its contract. Assumes nothing.
use Rattle.utf8.proofs.Ascii.{ascii_turns}
use Rattle.utf8.proofs.plain.Goals as goal

pub overflow_add-from : goal.overflow_add-from
overflow_add-from c = search ascii_turns

pub byte_at-requires : goal.byte_at-requires
byte_at-requires c = search ascii_turns

pub overflow_sub-to : goal.overflow_sub-to
overflow_sub-to c = search ascii_turns

pub below-requires : goal.below-requires
below-requires c = search ascii_turns

pub overflow_sub-to-else-to-from-le16 : goal.overflow_sub-to-else-to-from-le16
overflow_sub-to-else-to-from-le16 c = search ascii_turns

pub below-requires-then-to-from-le128 : goal.below-requires-then-to-from-le128
below-requires-then-to-from-le128 c = search ascii_turns

pub long_plain-requires : goal.long_plain-requires
long_plain-requires c = search ascii_turns

pub returns-then-to-from : goal.returns-then-to-from
returns-then-to-from c = search ascii_turns

pub returns-then-byte_at-ge128 : goal.returns-then-byte_at-ge128
returns-then-byte_at-ge128 c = search ascii_turns

pub returns-then-to-from-le16 : goal.returns-then-to-from-le16
returns-then-to-from-le16 c = search ascii_turns

pub returns-then-to-from-le128 : goal.returns-then-to-from-le128
returns-then-to-from-le128 c = search ascii_turns

pub returns-else-to-from-le128 : goal.returns-else-to-from-le128
returns-else-to-from-le128 c = search ascii_turns
