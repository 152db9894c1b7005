-- `pair_end` meets its contract. The invariant: the scan from `from` on is the scan from i on in the state `before`. Assumes nothing.
use Rattle.parser.proofs.Turns.{pair_turns}
use Rattle.parser.proofs.hyphens.pair_end.Goals as goal

pub loop-i-init : goal.loop-i-init
loop-i-init c = search pair_turns

pub bounds-s-i : goal.bounds-s-i
bounds-s-i c = search pair_turns

pub overflow_add-i : goal.overflow_add-i
overflow_add-i c = search pair_turns

pub loop-i-smaller-then-b-eq45 : goal.loop-i-smaller-then-b-eq45
loop-i-smaller-then-b-eq45 c = search pair_turns

pub loop-i-preserved-then-b-eq45 : goal.loop-i-preserved-then-b-eq45
loop-i-preserved-then-b-eq45 c = search pair_turns

pub loop-i-smaller : goal.loop-i-smaller
loop-i-smaller c = search pair_turns

pub loop-i-preserved : goal.loop-i-preserved
loop-i-preserved c = search pair_turns

pub returns-then-s-i : goal.returns-then-s-i
returns-then-s-i c = search pair_turns

pub returns-then-before : goal.returns-then-before
returns-then-before c = search pair_turns
