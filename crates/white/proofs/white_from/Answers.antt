-- `white_from` meets its contract. The invariant: the flag tells whether the first k bytes are white space. Assumes nothing.
use Rattle.white.proofs.Runs.{flag_turns}
use Rattle.white.proofs.white_from.Goals as goal

pub overflow_sub-s : goal.overflow_sub-s
overflow_sub-s c = search flag_turns

pub returns-then-s-at : goal.returns-then-s-at
returns-then-s-at c = search flag_turns

pub loop-k-init : goal.loop-k-init
loop-k-init c = (search flag_turns, search flag_turns, search flag_turns)

pub overflow_add-at : goal.overflow_add-at
overflow_add-at c = search flag_turns

pub bounds-s-at : goal.bounds-s-at
bounds-s-at c = search flag_turns

pub is_whitespace-all-requires : goal.is_whitespace-all-requires
is_whitespace-all-requires c = search flag_turns

pub overflow_step-k : goal.overflow_step-k
overflow_step-k c = search flag_turns

pub loop-k-smaller : goal.loop-k-smaller
loop-k-smaller c = search flag_turns

pub loop-k-preserved : goal.loop-k-preserved
loop-k-preserved c = (search flag_turns, search flag_turns, search flag_turns)

pub returns : goal.returns
returns c = search flag_turns
