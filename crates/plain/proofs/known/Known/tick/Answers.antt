-- `tick` meets its contract. Assumes nothing.
use mathlib.Core.Logic.{inl, inr}
use borrow.Author.Rules.{rules}
use Rattle.plain.specs.Known.{tick_of}
use Rattle.plain.proofs.Flags.{chosen}
use Rattle.plain.proofs.Ticks.{tick_made}
use Rattle.plain.proofs.known.Known.tick.Goals as goal
use Rattle.plain.proofs.known.Known.tick.Goals.{then-white, else-white}

pub size-size-requires : goal.size-size-requires
size-size-requires c = search rules

pub is_whitespace-white-requires : goal.is_whitespace-white-requires
is_whitespace-white-requires c = search rules

pub byte_at-requires : goal.byte_at-requires
byte_at-requires c = search rules

pub overflow_add-at : goal.overflow_add-at
overflow_add-at c = search rules

pub fresh-requires : goal.fresh-requires
fresh-requires c = search rules

pub returns-then-mark-at : goal.returns-then-mark-at
unfolding tick_of
returns-then-mark-at c = simp (← c.byte_at.ensures, ← c.size-size.ensures, ← c.is_whitespace-white.ensures, c.if-mark-at.true) c.fresh.ensures

pub next-requires : goal.next-requires
next-requires c = search rules

pub overflow_add-result : goal.overflow_add-result
overflow_add-result c = search rules

pub tick-requires : goal.tick-requires
tick-requires c = search rules

pub overflow_add-result-else-white : goal.overflow_add-result-else-white
overflow_add-result-else-white c = search rules

pub reach-requires : goal.reach-requires
reach-requires c = search rules

pub next_quote-requires : goal.next_quote-requires
next_quote-requires c = search rules

pub opens-requires : goal.opens-requires
opens-requires c = search rules

pub reach-requires-2 : goal.reach-requires-2
reach-requires-2 c = search rules

pub reach-requires-3 : goal.reach-requires-3
reach-requires-3 c = search rules

pub returns : goal.returns
returns c = tick_made _ _ _ _ _ _ _ _ _ _ _ _ _ _ _ c.byte_at.ensures c.size-size.ensures c.is_whitespace-white.ensures c.next.ensures c.tick.ensures (chosen _ _ _ _ (elim c.if-white.branch [ then-white w ↦ inl (w.if-white.true, w.result-is) | else-white w ↦ inr (w.if-white.false, w.result-is) ])) c.reach.ensures c.next_quote.ensures c.opens.ensures c.reach-2.ensures c.reach-3.ensures c.if-mark-at.false
