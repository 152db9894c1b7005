-- `phase_at` meets its contract. Assumes nothing.
use borrow.Author.Tests.{eq-eqb, ne_eqb}
use borrow.Author.Rules.{rules}
use Rattle.reader.specs.Cut.{phase_at}
use Rattle.reader.proofs.cut.phase_at.Goals as goal

pub byte_at-requires : goal.byte_at-requires
byte_at-requires c = search rules

pub returns-then-byte_at-eq60 : goal.returns-then-byte_at-eq60
unfolding phase_at
returns-then-byte_at-eq60 c = simp (eq-eqb _ _ c.if-byte_at-eq60.true, ← c.byte_at.ensures)

pub returns-else-byte_at-eq60 : goal.returns-else-byte_at-eq60
unfolding phase_at
returns-else-byte_at-eq60 c = simp (ne_eqb _ _ c.if-byte_at-eq60.false, ← c.byte_at.ensures)
