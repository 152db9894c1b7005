-- `name_len` meets its contract. The invariant: the answer is i and the answer for what is left at i. Assumes nothing.
use Rattle.white.specs.White.{is_white}
use Rattle.white.proofs.Runs.{run_past, run_here, run_turn, until_turns}
use Rattle.white.proofs.name_len.Goals as goal

pub part-content-requires : goal.part-content-requires
part-content-requires c = search until_turns

pub loop-i-init : goal.loop-i-init
loop-i-init c = search (until_turns, run_past is_white, run_here is_white)

pub bounds-content-i : goal.bounds-content-i
bounds-content-i c = search (until_turns, run_past is_white, run_here is_white, run_turn is_white)

pub is_whitespace-requires : goal.is_whitespace-requires
is_whitespace-requires c = search until_turns

pub overflow_add-i : goal.overflow_add-i
overflow_add-i c = search (until_turns, run_past is_white, run_here is_white, run_turn is_white)

pub loop-i-smaller : goal.loop-i-smaller
loop-i-smaller c = search (until_turns, run_past is_white, run_here is_white, run_turn is_white)

pub loop-i-preserved : goal.loop-i-preserved
loop-i-preserved c = search (until_turns, run_past is_white, run_here is_white, run_turn is_white)

pub returns-after-loop-i : goal.returns-after-loop-i
returns-after-loop-i c = search (until_turns, run_past is_white, run_here is_white)

pub returns-then-is_whitespace : goal.returns-then-is_whitespace
returns-then-is_whitespace c = search (until_turns, run_past is_white, run_here is_white)
