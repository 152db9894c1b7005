-- `cdata` meets its contract. Assumes nothing.
use borrow.Author.Rules.{rules}
use Rattle.plain.specs.Told.{cdata_of}
use Rattle.plain.proofs.told.cdata.Goals as goal

pub stop-requires : goal.stop-requires
stop-requires c = search rules

pub returns-then-not-known : goal.returns-then-not-known
unfolding cdata_of
returns-then-not-known c = simp c.if-not-known.true c.stop.ensures

pub inner-requires : goal.inner-requires
inner-requires c = search rules

pub tell-requires : goal.tell-requires
tell-requires c = search rules

pub returns : goal.returns
unfolding cdata_of
returns c = simp (c.if-not-known.false, ← c.inner.ensures) c.tell.ensures
