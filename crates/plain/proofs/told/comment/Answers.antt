-- `comment` meets its contract. Assumes nothing.
use mathlib.Core.Logic.{inl, inr}
use borrow.Author.Rules.{rules}
use Rattle.plain.specs.Told.{comment_of}
use Rattle.plain.proofs.Flags.{one_less}
use Rattle.plain.proofs.told.comment.Goals as goal
use Rattle.plain.proofs.told.comment.Goals.{then-second-gt0, else-second-gt0}

pub inner-content-requires : goal.inner-content-requires
inner-content-requires c = search rules

pub overflow_sub-first : goal.overflow_sub-first
overflow_sub-first c = search rules

pub stop-requires : goal.stop-requires
stop-requires c = search rules

pub returns-then-not-known : goal.returns-then-not-known
unfolding comment_of
returns-then-not-known c = simp c.if-not-known.true c.stop.ensures

pub refuse-requires : goal.refuse-requires
refuse-requires c = search rules

pub tell-requires : goal.tell-requires
tell-requires c = search rules

pub returns : goal.returns
unfolding comment_of
returns c = simp (c.if-not-known.false, ← c.inner-content.ensures, c.if-reader-second.false) c.tell.ensures

pub returns-then-reader-second : goal.returns-then-reader-second
unfolding comment_of
returns-then-reader-second c = simp (c.if-not-known.false, ← c.inner-content.ensures, ← (one_less _ _ (elim c.if-second-gt0.branch [ then-second-gt0 w ↦ inl (w.if-second-gt0.true, w.first-is) | else-second-gt0 w ↦ inr (w.if-second-gt0.false, w.first-is) ])), c.if-reader-second.true) c.refuse.ensures
