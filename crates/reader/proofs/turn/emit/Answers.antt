-- `emit` meets its contract. Assumes nothing.
use borrow.Author.Rules.{rules}
use Rattle.reader.specs.Step.{emitted}
use Rattle.reader.proofs.turn.emit.Goals as goal

pub enum_told-1 : goal.enum_told-1
enum_told-1 c = search rules

pub emit_text-requires : goal.emit_text-requires
emit_text-requires c = search rules

pub enum_told-in-LastText : goal.enum_told-in-LastText
enum_told-in-LastText c = search rules

pub emit_last_text-requires : goal.emit_last_text-requires
emit_last_text-requires c = search rules

pub enum_told-in-GeneralRef : goal.enum_told-in-GeneralRef
enum_told-in-GeneralRef c = search rules

pub emit_ref-requires : goal.emit_ref-requires
emit_ref-requires c = search rules

pub enum_told-in-Dangling : goal.enum_told-in-Dangling
enum_told-in-Dangling c = search rules

pub emit_dangling-requires : goal.emit_dangling-requires
emit_dangling-requires c = search rules

pub enum_told-in-Comment : goal.enum_told-in-Comment
enum_told-in-Comment c = search rules

pub emit_comment-requires : goal.emit_comment-requires
emit_comment-requires c = search rules

pub enum_told-in-CData : goal.enum_told-in-CData
enum_told-in-CData c = search rules

pub emit_cdata-requires : goal.emit_cdata-requires
emit_cdata-requires c = search rules

pub enum_told-in-QuestionMark : goal.enum_told-in-QuestionMark
enum_told-in-QuestionMark c = search rules

pub emit_question_mark-requires : goal.emit_question_mark-requires
emit_question_mark-requires c = search rules

pub enum_told-in-End : goal.enum_told-in-End
enum_told-in-End c = search rules

pub emit_end-requires : goal.emit_end-requires
emit_end-requires c = search rules

pub enum_told-in-Start : goal.enum_told-in-Start
enum_told-in-Start c = search rules

pub emit_start-requires : goal.emit_start-requires
emit_start-requires c = search rules

pub returns-in-Text : goal.returns-in-Text
unfolding emitted
returns-in-Text c = simp c.in-Text.is c.emit_text.ensures

pub returns-in-LastText : goal.returns-in-LastText
unfolding emitted
returns-in-LastText c = simp c.in-LastText.is c.emit_last_text.ensures

pub returns-in-GeneralRef : goal.returns-in-GeneralRef
unfolding emitted
returns-in-GeneralRef c = simp c.in-GeneralRef.is c.emit_ref.ensures

pub returns-in-Dangling : goal.returns-in-Dangling
unfolding emitted
returns-in-Dangling c = simp c.in-Dangling.is c.emit_dangling.ensures

pub returns-in-Comment : goal.returns-in-Comment
unfolding emitted
returns-in-Comment c = simp c.in-Comment.is c.emit_comment.ensures

pub returns-in-CData : goal.returns-in-CData
unfolding emitted
returns-in-CData c = simp c.in-CData.is c.emit_cdata.ensures

pub returns-in-QuestionMark : goal.returns-in-QuestionMark
unfolding emitted
returns-in-QuestionMark c = simp c.in-QuestionMark.is c.emit_question_mark.ensures

pub returns-in-End : goal.returns-in-End
unfolding emitted
returns-in-End c = simp c.in-End.is c.emit_end.ensures

pub returns-in-Start : goal.returns-in-Start
unfolding emitted
returns-in-Start c = simp c.in-Start.is c.emit_start.ensures
