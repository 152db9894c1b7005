-- `question_event` meets its contract. Assumes nothing.
use borrow.Author.Rules.{rules}
use Rattle.emit.specs.Question.{question_event}
use Rattle.emit.proofs.question.question_event.Goals as goal

pub is_decl-requires : goal.is_decl-requires
is_decl-requires c = search rules

pub name_len-name-requires : goal.name_len-name-requires
name_len-name-requires c = search rules

pub returns-then-is_decl : goal.returns-then-is_decl
unfolding question_event
returns-then-is_decl c = simp (c.if-is_decl.true, ← c.is_decl.ensures)

pub returns-else-is_decl : goal.returns-else-is_decl
unfolding question_event
returns-else-is_decl c = simp (← c.name_len-name.ensures, c.if-is_decl.false, ← c.is_decl.ensures)
