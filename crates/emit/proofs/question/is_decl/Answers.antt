-- `is_decl` meets its contract. Assumes nothing.
use borrow.Author.Tests.{eq-eqb, ne_eqb}
use borrow.Author.Rules.{rules}
use Rattle.emit.specs.Question.{is_decl}
use Rattle.emit.proofs.question.is_decl.Goals as goal

pub part-bytes-requires : goal.part-bytes-requires
part-bytes-requires c = search rules

pub starts_with-requires : goal.starts_with-requires
starts_with-requires c = search rules

pub byte_at-requires : goal.byte_at-requires
byte_at-requires c = search rules

pub is_whitespace-requires : goal.is_whitespace-requires
is_whitespace-requires c = search rules

pub returns-then-bytes-eq3 : goal.returns-then-bytes-eq3
unfolding is_decl
returns-then-bytes-eq3 c = simp (eq-eqb _ _ c.if-bytes-eq3.true, c.if-starts_with.true, ← c.starts_with.ensures, ← c.part-bytes.ensures.bytes)

pub returns-else-bytes-eq3 : goal.returns-else-bytes-eq3
unfolding is_decl
returns-else-bytes-eq3 c = simp (← c.byte_at.ensures, ne_eqb _ _ c.if-bytes-eq3.false, c.if-starts_with.true, ← c.starts_with.ensures, ← c.part-bytes.ensures.bytes) c.is_whitespace.ensures

pub returns-else-starts_with : goal.returns-else-starts_with
unfolding is_decl
returns-else-starts_with c = simp (c.if-starts_with.false, ← c.starts_with.ensures, ← c.part-bytes.ensures.bytes)
