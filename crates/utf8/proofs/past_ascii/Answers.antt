-- `past_ascii` meets its contract: so far the bytes are ASCII. Assumes nothing.
use Rattle.utf8.proofs.Ascii.{ascii_turns}
use Rattle.utf8.proofs.past_ascii.Goals as goal

pub loop-i-init : goal.loop-i-init
loop-i-init c = search ascii_turns

pub below-requires : goal.below-requires
below-requires c = search ascii_turns

pub overflow_add-i : goal.overflow_add-i
overflow_add-i c = search ascii_turns

pub loop-i-smaller : goal.loop-i-smaller
loop-i-smaller c = search ascii_turns

pub loop-i-preserved : goal.loop-i-preserved
loop-i-preserved c = search ascii_turns

pub returns : goal.returns
returns c = search ascii_turns
