-- `instruction` meets its contract. Assumes nothing.
use borrow.Author.Tests.{le-ltb, lt-ltb}
use borrow.Author.Rules.{rules}
use Rattle.plain.specs.Told.{instruction_of}
use Rattle.plain.proofs.told.instruction.Goals as goal

pub inner-content-requires : goal.inner-content-requires
inner-content-requires c = search rules

pub name_len-name-requires : goal.name_len-name-requires
name_len-name-requires c = search rules

pub size-requires : goal.size-requires
size-requires c = search rules

pub stop-requires : goal.stop-requires
stop-requires c = search rules

pub returns-then-size-lt4 : goal.returns-then-size-lt4
unfolding instruction_of
returns-then-size-lt4 c = simp (← c.size.ensures, lt-ltb _ _ c.if-size-lt4.true) c.stop.ensures

pub tell-requires : goal.tell-requires
tell-requires c = search rules

pub returns-then-known-name : goal.returns-then-known-name
unfolding instruction_of
returns-then-known-name c = simp (← c.inner-content.ensures, ← c.name_len-name.ensures, ← c.size.ensures, le-ltb _ _ c.if-size-lt4.false, c.if-known-name.true) c.tell.ensures

pub tell-requires-2 : goal.tell-requires-2
tell-requires-2 c = search rules

pub returns : goal.returns
unfolding instruction_of
returns c = simp (← c.inner-content.ensures, ← c.name_len-name.ensures, ← c.size.ensures, le-ltb _ _ c.if-size-lt4.false, c.if-known-name.false) c.tell-2.ensures
