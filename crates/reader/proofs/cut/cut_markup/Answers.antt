-- `cut_markup` meets its contract. Assumes nothing.
use borrow.Author.Rules.{rules}
use Rattle.reader.specs.Cut.{cut_markup}
use Rattle.reader.proofs.Once.{tags}
use Rattle.reader.proofs.cut.cut_markup.Goals as goal

pub overflow_add-next : goal.overflow_add-next
overflow_add-next c = search rules

pub stop-requires : goal.stop-requires
stop-requires c = search rules

pub returns-then-document-next : goal.returns-then-document-next
unfolding cut_markup
returns-then-document-next c = search tags

pub bounds-document-next : goal.bounds-document-next
bounds-document-next c = search rules

pub overflow_add-at : goal.overflow_add-at
overflow_add-at c = search rules

pub byte_at-requires : goal.byte_at-requires
byte_at-requires c = search rules

pub cut_bang-requires : goal.cut_bang-requires
cut_bang-requires c = search rules

pub cut_question-requires : goal.cut_question-requires
cut_question-requires c = search rules

pub tag_shape-requires : goal.tag_shape-requires
tag_shape-requires c = search rules

pub cut_tag-requires : goal.cut_tag-requires
cut_tag-requires c = search rules

pub returns-in-33 : goal.returns-in-33
unfolding cut_markup
returns-in-33 c = rw (← c.byte_at.ensures) (search tags)

pub returns-in-63 : goal.returns-in-63
unfolding cut_markup
returns-in-63 c = search tags

pub returns-in_default : goal.returns-in_default
unfolding cut_markup
returns-in_default c = search tags
