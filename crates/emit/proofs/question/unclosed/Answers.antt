-- `unclosed` meets its contract. Assumes nothing.
use borrow.Author.Tests.{eq-eqb, le-leb, lt-leb, ne_eqb}
use mathlib.Core.Path.{sym, ◌∙◌}
use native.Mathlib.Omega.{arith}
use mathlib.Core.List.{◌∷◌}
use Rattle.ground.specs.Bytes.{lt, question}
use Rattle.ground.proofs.Equal.{begins_within}
use borrow.Author.Rules.{rules}
use Rattle.emit.specs.Question.{xml, unclosed_question}
use Rattle.emit.proofs.question.unclosed.Goals as goal

pub starts_with-requires : goal.starts_with-requires
starts_with-requires c = search rules

-- the prefix stands there, and so the byte after it is at the document's end at the latest
pub overflow_add-next : goal.overflow_add-next
overflow_add-next c =
    let a = c.args in
    let h = sym c.starts_with.ensures ∙ c.if-starts_with.true in
    omega (arith, begins_within a.document.now (lt ∷ question ∷ xml) a.at.0 (omega arith) h)

pub byte_at-b-requires : goal.byte_at-b-requires
byte_at-b-requires c = search rules

pub is_whitespace-requires : goal.is_whitespace-requires
is_whitespace-requires c = search rules

pub returns-then-document-next : goal.returns-then-document-next
unfolding unclosed_question
returns-then-document-next c = simp (le-leb _ _ c.if-document-next.true, c.if-starts_with.true, ← c.starts_with.ensures)

pub returns-then-b-eq63 : goal.returns-then-b-eq63
unfolding unclosed_question
returns-then-b-eq63 c = simp (eq-eqb _ _ c.if-b-eq63.true, ← c.byte_at-b.ensures, lt-leb _ _ c.if-document-next.false, c.if-starts_with.true, ← c.starts_with.ensures)

pub returns-then-is_whitespace : goal.returns-then-is_whitespace
unfolding unclosed_question
returns-then-is_whitespace c = simp (c.if-is_whitespace.true, ← c.is_whitespace.ensures, ne_eqb _ _ c.if-b-eq63.false, ← c.byte_at-b.ensures, lt-leb _ _ c.if-document-next.false, c.if-starts_with.true, ← c.starts_with.ensures)

pub returns-else-is_whitespace : goal.returns-else-is_whitespace
unfolding unclosed_question
returns-else-is_whitespace c = simp (c.if-is_whitespace.false, ← c.is_whitespace.ensures, ne_eqb _ _ c.if-b-eq63.false, ← c.byte_at-b.ensures, lt-leb _ _ c.if-document-next.false, c.if-starts_with.true, ← c.starts_with.ensures)

pub returns-else-starts_with : goal.returns-else-starts_with
unfolding unclosed_question
returns-else-starts_with c = simp (c.if-starts_with.false, ← c.starts_with.ensures)
