-- `begin` meets its contract. Assumes nothing.
use borrow.Author.Rules.{rules}
use Rattle.reader.specs.Step.{begin}
use Rattle.reader.proofs.turn.begin.Goals as goal

pub starts_with-requires : goal.starts_with-requires
starts_with-requires c = search rules

pub returns-then-starts_with : goal.returns-then-starts_with
unfolding begin
returns-then-starts_with c = simp (c.if-starts_with.true, ← c.starts_with.ensures)

pub returns-else-starts_with : goal.returns-else-starts_with
unfolding begin
returns-else-starts_with c = simp (c.if-starts_with.false, ← c.starts_with.ensures)
