-- `closing` meets its contract. Assumes nothing.
use mathlib.Core.Logic.{inl, inr}
use borrow.Author.Rules.{rules}
use Rattle.plain.specs.Told.{closing_of}
use Rattle.plain.proofs.Flags.{chosen}
use Rattle.plain.proofs.told.closing.Goals as goal
use Rattle.plain.proofs.told.closing.Goals.{then-trims, else-trims}

pub inner-content-requires : goal.inner-content-requires
inner-content-requires c = search rules

pub refuse-requires : goal.refuse-requires
refuse-requires c = search rules

pub fewer-requires : goal.fewer-requires
fewer-requires c = search rules

pub with_depth-fewer-requires : goal.with_depth-fewer-requires
with_depth-fewer-requires c = search rules

pub size-size-requires : goal.size-size-requires
size-size-requires c = search rules

pub size-requires : goal.size-requires
size-requires c = search rules

pub refuse-requires-then-depth-settings-2 : goal.refuse-requires-then-depth-settings-2
refuse-requires-then-depth-settings-2 c = search rules

pub tell-requires : goal.tell-requires
tell-requires c = search rules

pub returns-then-depth-settings : goal.returns-then-depth-settings
unfolding closing_of
returns-then-depth-settings c = simp (← c.inner-content.ensures, ← (chosen _ _ _ _ (elim c.if-trims.branch [ then-trims w ↦ inl (w.if-trims.true, w.to-is) | else-trims w ↦ inr (w.if-trims.false, w.to-is) ])), c.if-depth-settings.true) c.refuse.ensures

pub returns-then-depth-settings-2 : goal.returns-then-depth-settings-2
unfolding closing_of
returns-then-depth-settings-2 c = simp (← c.inner-content.ensures, ← (chosen _ _ _ _ (elim c.if-trims.branch [ then-trims w ↦ inl (w.if-trims.true, w.to-is) | else-trims w ↦ inr (w.if-trims.false, w.to-is) ])), c.if-depth-settings.false, ← c.fewer.ensures, ← c.with_depth-fewer.ensures, ← c.size-size.ensures, ← c.size.ensures, c.if-depth-settings-2.true) c.refuse-then-depth-settings-2.ensures

pub returns : goal.returns
unfolding closing_of
returns c = simp (← c.inner-content.ensures, ← (chosen _ _ _ _ (elim c.if-trims.branch [ then-trims w ↦ inl (w.if-trims.true, w.to-is) | else-trims w ↦ inr (w.if-trims.false, w.to-is) ])), c.if-depth-settings.false, ← c.fewer.ensures, ← c.with_depth-fewer.ensures, ← c.size-size.ensures, ← c.size.ensures, c.if-depth-settings-2.false) c.tell.ensures
