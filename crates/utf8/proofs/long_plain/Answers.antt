-- `long_plain` meets its contract: so far the bytes are ASCII. Assumes nothing.
use Rattle.utf8.proofs.Ascii.{ascii_turns}
use Rattle.utf8.proofs.long_plain.Goals as goal

pub loop-i-init : goal.loop-i-init
loop-i-init c = search ascii_turns

pub overflow_sub-to : goal.overflow_sub-to
overflow_sub-to c = search ascii_turns

pub below-requires : goal.below-requires
below-requires c = search ascii_turns

pub overflow_add-i : goal.overflow_add-i
overflow_add-i c = search ascii_turns

pub loop-i-smaller : goal.loop-i-smaller
loop-i-smaller c = search ascii_turns

pub loop-i-preserved : goal.loop-i-preserved
loop-i-preserved c = search ascii_turns

pub returns-else-below : goal.returns-else-below
returns-else-below c = search ascii_turns

pub overflow_sub-to-2 : goal.overflow_sub-to-2
overflow_sub-to-2 c = search ascii_turns

pub below-requires-2 : goal.below-requires-2
below-requires-2 c = search ascii_turns

pub returns : goal.returns
returns c = search ascii_turns
