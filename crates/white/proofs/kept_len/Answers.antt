-- `kept_len` meets its contract. The invariant of both loops: the answer is that of cutting back from e. Assumes nothing.
use borrow.Author.Rules.{rules}
use Rattle.white.proofs.Runs.{cut_start, cut_fits, cut_less, cut_turn, cut_here}
use Rattle.white.proofs.kept_len.Goals as goal

pub white_before-requires : goal.white_before-requires
white_before-requires c = search rules

pub loop-end-init : goal.loop-end-init
loop-end-init c = cut_start _

pub white_before-requires-in-loop-end : goal.white_before-requires-in-loop-end
white_before-requires-in-loop-end c = search rules

pub overflow_sub-end : goal.overflow_sub-end
overflow_sub-end c = cut_fits _ _ _ _ c.white_before-in-loop-end.ensures c.loop-end-test.true

pub loop-end-smaller : goal.loop-end-smaller
loop-end-smaller c = search (rules, cut_less, c.white_before-in-loop-end.ensures, c.loop-end-test.true)

pub loop-end-preserved : goal.loop-end-preserved
loop-end-preserved c = cut_turn _ _ _ _ c.white_before-in-loop-end.ensures c.loop-end-test.true c.loop-end.invariant

pub loop-end-then-white_before-init : goal.loop-end-then-white_before-init
loop-end-then-white_before-init c = c.loop-end.invariant

pub white_before-requires-in-loop-end-then-white_before : goal.white_before-requires-in-loop-end-then-white_before
white_before-requires-in-loop-end-then-white_before c = search rules

pub overflow_sub-end-in-loop-end-then-white_before : goal.overflow_sub-end-in-loop-end-then-white_before
overflow_sub-end-in-loop-end-then-white_before c = cut_fits _ _ _ _ c.white_before-in-loop-end-then-white_before.ensures c.loop-end-then-white_before-test.true

pub loop-end-then-white_before-smaller : goal.loop-end-then-white_before-smaller
loop-end-then-white_before-smaller c = search (rules, cut_less, c.white_before-in-loop-end-then-white_before.ensures, c.loop-end-then-white_before-test.true)

pub loop-end-then-white_before-preserved : goal.loop-end-then-white_before-preserved
loop-end-then-white_before-preserved c = cut_turn _ _ _ _ c.white_before-in-loop-end-then-white_before.ensures c.loop-end-then-white_before-test.true c.loop-end-then-white_before.invariant

pub returns-after-loop-end-then-white_before : goal.returns-after-loop-end-then-white_before
returns-after-loop-end-then-white_before c = cut_here _ _ _ c.white_before-in-loop-end-then-white_before.ensures c.loop-end-then-white_before-test.false c.loop-end-then-white_before.invariant

pub returns-else-white_before : goal.returns-else-white_before
returns-else-white_before c = cut_here _ _ _ c.white_before.ensures c.if-white_before.false (cut_start _)
