-- `Reader::end` meets its contract. Assumes nothing.
use borrow.Author.Rules.{rules}
use Rattle.state.specs.Make.{ending}
use Rattle.state.proofs.run.Reader.end.Goals as goal

pub refuses_end-requires : goal.refuses_end-requires
refuses_end-requires c = search rules

pub stop-requires : goal.stop-requires
stop-requires c = search rules

pub eof-requires : goal.eof-requires
eof-requires c = search rules

pub returns-then-refuses_end : goal.returns-then-refuses_end
unfolding ending
returns-then-refuses_end c = simp (c.if-refuses_end.true, ← c.refuses_end.ensures) c.stop.ensures

pub returns-else-refuses_end : goal.returns-else-refuses_end
unfolding ending
returns-else-refuses_end c = simp (c.if-refuses_end.false, ← c.refuses_end.ensures) c.eof.ensures
