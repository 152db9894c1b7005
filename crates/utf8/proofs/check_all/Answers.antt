-- `check_all` meets its contract. The invariant: the answer is that of the check from i on. Assumes nothing.
use Rattle.utf8.proofs.Ascii.{ascii_turns}
use Rattle.utf8.proofs.check_all.Goals as goal

pub loop-i-init : goal.loop-i-init
loop-i-init c = search ascii_turns

pub stretch-end-requires : goal.stretch-end-requires
stretch-end-requires c = search ascii_turns

pub by_chars-i-requires : goal.by_chars-i-requires
by_chars-i-requires c = search ascii_turns

pub returns-then-s-i : goal.returns-then-s-i
returns-then-s-i c = search ascii_turns

pub returns-then-i-end : goal.returns-then-i-end
returns-then-i-end c = search ascii_turns

pub past_ascii-i-requires : goal.past_ascii-i-requires
past_ascii-i-requires c = search ascii_turns

pub loop-i-smaller : goal.loop-i-smaller
loop-i-smaller c = search ascii_turns

pub loop-i-preserved : goal.loop-i-preserved
loop-i-preserved c = search ascii_turns
