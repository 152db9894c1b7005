-- `emit_end` meets its contract. Assumes nothing.
use borrow.Author.Tests.{eq-eqb, ne_eqb}
use borrow.Author.Rules.{rules}
use Rattle.emit.specs.End.{emit_end}
use Rattle.emit.proofs.end.emit_end.Goals as goal

pub inner-requires : goal.inner-requires
inner-requires c = search rules

pub name-name-requires : goal.name-name-requires
name-name-requires c = search rules

pub unmatched-requires : goal.unmatched-requires
unmatched-requires c = search rules

pub fewer-requires : goal.fewer-requires
fewer-requires c = search rules

pub with_depth-fewer-requires : goal.with_depth-fewer-requires
with_depth-fewer-requires c = search rules

pub matched-requires : goal.matched-requires
matched-requires c = search rules

pub returns-then-reader-eq0 : goal.returns-then-reader-eq0
unfolding emit_end
returns-then-reader-eq0 c = simp (eq-eqb _ _ c.if-reader-eq0.true, ← c.name-name.ensures, ← c.inner.ensures) c.unmatched.ensures

pub returns-else-reader-eq0 : goal.returns-else-reader-eq0
unfolding emit_end
returns-else-reader-eq0 c = simp (← c.with_depth-fewer.ensures, ← c.fewer.ensures, ne_eqb _ _ c.if-reader-eq0.false, ← c.name-name.ensures, ← c.inner.ensures) c.matched.ensures
