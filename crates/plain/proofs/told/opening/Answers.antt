-- `opening` meets its contract. Assumes nothing.
use mathlib.Core.Logic.{inl, inr}
use borrow.Author.Tests.{le-leb, lt-leb}
use borrow.Author.Tests.{eq-eqb, ne_eqb}
use borrow.Author.Rules.{rules}
use Rattle.plain.specs.Told.{opening_of}
use Rattle.plain.proofs.Flags.{chosen}
use Rattle.plain.proofs.told.opening.Goals as goal
use Rattle.plain.proofs.told.opening.Goals.{then-slashed, else-slashed, then-slashed-2, else-slashed-2}

pub inner-content-requires : goal.inner-content-requires
inner-content-requires c = search rules

pub name_len-name-requires : goal.name_len-name-requires
name_len-name-requires c = search rules

pub tell-requires : goal.tell-requires
tell-requires c = search rules

pub stop-requires : goal.stop-requires
stop-requires c = search rules

pub overflow_add-names : goal.overflow_add-names
overflow_add-names c = search rules

pub with_depth-more-requires : goal.with_depth-more-requires
with_depth-more-requires c = search rules

pub tell-requires-2 : goal.tell-requires-2
tell-requires-2 c = search rules

pub returns-then-slashed-reader : goal.returns-then-slashed-reader
unfolding opening_of
returns-then-slashed-reader c = simp (← (chosen _ _ _ _ (elim c.if-slashed.branch [ then-slashed w ↦ inl (eq-eqb _ _ w.if-slashed.true, w.back-is) | else-slashed w ↦ inr (ne_eqb _ _ w.if-slashed.false, w.back-is) ])), ← c.inner-content.ensures, ← c.name_len-name.ensures, c.if-slashed-reader.true) c.tell.ensures

pub returns-then-room-names : goal.returns-then-room-names
unfolding opening_of
returns-then-room-names c = simp (← (chosen _ _ _ _ (elim c.if-slashed.branch [ then-slashed w ↦ inl (eq-eqb _ _ w.if-slashed.true, w.back-is) | else-slashed w ↦ inr (ne_eqb _ _ w.if-slashed.false, w.back-is) ])), ← c.inner-content.ensures, ← c.name_len-name.ensures, c.if-slashed-reader.false, le-leb _ _ c.if-room-names.true) c.stop.ensures

pub returns : goal.returns
unfolding opening_of
returns c = simp (← (chosen _ _ _ _ (elim c.if-slashed.branch [ then-slashed w ↦ inl (eq-eqb _ _ w.if-slashed.true, w.back-is) | else-slashed w ↦ inr (ne_eqb _ _ w.if-slashed.false, w.back-is) ])), ← c.inner-content.ensures, ← c.name_len-name.ensures, c.if-slashed-reader.false, lt-leb _ _ c.if-room-names.false, ← (chosen _ _ _ _ (elim c.if-slashed-2.branch [ then-slashed-2 w ↦ inl (eq-eqb _ _ w.if-slashed-2.true, w.next-is) | else-slashed-2 w ↦ inr (ne_eqb _ _ w.if-slashed-2.false, w.next-is) ])), ← c.with_depth-more.ensures) c.tell-2.ensures
