-- `tail_len` meets its contract. The invariant: what is asked at `at` is what is now asked at i. Assumes nothing.
use Rattle.utf8.proofs.Turns.{tail_turns}
use Rattle.utf8.proofs.tail_len.Goals as goal

pub loop-i-init : goal.loop-i-init
loop-i-init c = search tail_turns

pub returns-then-s-i : goal.returns-then-s-i
returns-then-s-i c = search tail_turns

pub bounds-s-i : goal.bounds-s-i
bounds-s-i c = search tail_turns

pub returns-then-b-low : goal.returns-then-b-low
returns-then-b-low c = search tail_turns

pub returns-then-high-b : goal.returns-then-high-b
returns-then-high-b c = search tail_turns

pub overflow_add-result : goal.overflow_add-result
overflow_add-result c = search tail_turns

pub returns-then-left-eq0 : goal.returns-then-left-eq0
returns-then-left-eq0 c = search tail_turns

pub overflow_sub-left : goal.overflow_sub-left
overflow_sub-left c = search tail_turns

pub overflow_add-i : goal.overflow_add-i
overflow_add-i c = search tail_turns

pub loop-i-smaller : goal.loop-i-smaller
loop-i-smaller c = search tail_turns

pub loop-i-preserved : goal.loop-i-preserved
loop-i-preserved c = search tail_turns
