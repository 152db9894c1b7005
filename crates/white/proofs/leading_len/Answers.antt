-- `leading_len` meets its contract. The invariant of both loops: the answer is i and the answer for what is left at i. Assumes nothing.
use borrow.Author.Rules.{rules}
use Rattle.white.proofs.Runs.{lead_start, lead_fits, lead_less, lead_turn, lead_here}
use Rattle.white.proofs.leading_len.Goals as goal

pub white_from-requires : goal.white_from-requires
white_from-requires c = search rules

pub loop-i-init : goal.loop-i-init
loop-i-init c = lead_start _

pub white_from-requires-in-loop-i : goal.white_from-requires-in-loop-i
white_from-requires-in-loop-i c = search rules

pub overflow_add-i : goal.overflow_add-i
overflow_add-i c = lead_fits _ _ _ _ c.white_from-in-loop-i.ensures c.loop-i-test.true (search rules) c.loop-i.invariant

pub loop-i-smaller : goal.loop-i-smaller
loop-i-smaller c = search (rules, lead_less, c.white_from-in-loop-i.ensures, c.loop-i-test.true)

pub loop-i-preserved : goal.loop-i-preserved
loop-i-preserved c = lead_turn _ _ _ _ c.white_from-in-loop-i.ensures c.loop-i-test.true c.loop-i.invariant

pub loop-i-then-white_from-init : goal.loop-i-then-white_from-init
loop-i-then-white_from-init c = c.loop-i.invariant

pub white_from-requires-in-loop-i-then-white_from : goal.white_from-requires-in-loop-i-then-white_from
white_from-requires-in-loop-i-then-white_from c = search rules

pub overflow_add-i-in-loop-i-then-white_from : goal.overflow_add-i-in-loop-i-then-white_from
overflow_add-i-in-loop-i-then-white_from c = lead_fits _ _ _ _ c.white_from-in-loop-i-then-white_from.ensures c.loop-i-then-white_from-test.true (search rules) c.loop-i-then-white_from.invariant

pub loop-i-then-white_from-smaller : goal.loop-i-then-white_from-smaller
loop-i-then-white_from-smaller c = search (rules, lead_less, c.white_from-in-loop-i-then-white_from.ensures, c.loop-i-then-white_from-test.true)

pub loop-i-then-white_from-preserved : goal.loop-i-then-white_from-preserved
loop-i-then-white_from-preserved c = lead_turn _ _ _ _ c.white_from-in-loop-i-then-white_from.ensures c.loop-i-then-white_from-test.true c.loop-i-then-white_from.invariant

pub returns-after-loop-i-then-white_from : goal.returns-after-loop-i-then-white_from
returns-after-loop-i-then-white_from c = lead_here _ _ _ c.white_from-in-loop-i-then-white_from.ensures c.loop-i-then-white_from-test.false c.loop-i-then-white_from.invariant

pub returns-else-white_from : goal.returns-else-white_from
returns-else-white_from c = lead_here _ _ _ c.white_from.ensures c.if-white_from.false (lead_start _)
