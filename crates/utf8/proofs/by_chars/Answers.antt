-- `by_chars` meets its contract. The invariant: the answer is that of the check from i on. Assumes nothing.
use Rattle.utf8.proofs.Ascii.{ascii_turns}
use Rattle.utf8.proofs.by_chars.Goals as goal

pub loop-i-init : goal.loop-i-init
loop-i-init c = search ascii_turns

pub bounds-s-i : goal.bounds-s-i
bounds-s-i c = search ascii_turns

pub overflow_add-i : goal.overflow_add-i
overflow_add-i c = search ascii_turns

pub loop-i-smaller-then-s-i-lt128 : goal.loop-i-smaller-then-s-i-lt128
loop-i-smaller-then-s-i-lt128 c = search ascii_turns

pub loop-i-preserved-then-s-i-lt128 : goal.loop-i-preserved-then-s-i-lt128
loop-i-preserved-then-s-i-lt128 c = search ascii_turns

pub char_len-n-requires : goal.char_len-n-requires
char_len-n-requires c = search ascii_turns

pub returns-then-n-eq0 : goal.returns-then-n-eq0
returns-then-n-eq0 c = search ascii_turns

pub overflow_add-i-else-s-i-lt128 : goal.overflow_add-i-else-s-i-lt128
overflow_add-i-else-s-i-lt128 c = search ascii_turns

pub loop-i-smaller : goal.loop-i-smaller
loop-i-smaller c = search ascii_turns

pub loop-i-preserved : goal.loop-i-preserved
loop-i-preserved c = search ascii_turns

pub returns : goal.returns
returns c = search ascii_turns
