-- `cut_bang` meets its contract. Assumes nothing.
use borrow.Author.Rules.{rules}
use Rattle.ground.proofs.Choices.{choices}
use Rattle.reader.specs.Cut.{cut_bang}
use Rattle.ground.proofs.First.{found_has}
use Rattle.parser.specs.declared.marks.Found.{Found}
use Rattle.parser.proofs.Words.{comment_gives, cdata_gives}
use Rattle.reader.proofs.cut.cut_bang.Goals as goal

pub cdata_end-found-requires : goal.cdata_end-found-requires
cdata_end-found-requires c = search rules

pub cut_marked-requires : goal.cut_marked-requires
cut_marked-requires c = λ p f. (found_has Found.At _ _ (cdata_gives _ _) _ p c.cdata_end-found.ensures f).within

pub comment_end-found-requires : goal.comment_end-found-requires
comment_end-found-requires c = search rules

pub cut_marked-requires-in-45 : goal.cut_marked-requires-in-45
cut_marked-requires-in-45 c = λ p f. (found_has Found.At _ _ (comment_gives _ _) _ p c.comment_end-found.ensures f).within

pub stop-requires : goal.stop-requires
stop-requires c = search rules

pub stop-requires-in-100 : goal.stop-requires-in-100
stop-requires-in-100 c = search rules

pub stop-requires-in_default : goal.stop-requires-in_default
stop-requires-in_default c = search rules

pub returns-in-91 : goal.returns-in-91
unfolding cut_bang
returns-in-91 c = rw (← c.cdata_end-found.ensures) (search choices)

pub returns-in-45 : goal.returns-in-45
unfolding cut_bang
returns-in-45 c = rw (← c.comment_end-found.ensures) (search choices)

pub returns-in-68 : goal.returns-in-68
unfolding cut_bang
returns-in-68 c = search choices

pub returns-in-100 : goal.returns-in-100
unfolding cut_bang
returns-in-100 c = search choices

pub returns-in_default : goal.returns-in_default
unfolding cut_bang
returns-in_default c = search choices
