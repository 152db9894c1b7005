-- `whole` meets its contract. Assumes nothing.
use borrow.Author.Tests.{eq-eqb, ne_eqb}
use borrow.Author.Rules.{rules}
use Rattle.plain.specs.Told.{whole_of}
use Rattle.plain.proofs.Parts.{becomes_tag}
use Rattle.plain.proofs.told.whole.Goals as goal

pub stop-requires : goal.stop-requires
stop-requires c = search rules

pub returns-then-letters-ne0 : goal.returns-then-letters-ne0
unfolding whole_of
returns-then-letters-ne0 c = simp (ne_eqb _ _ c.if-letters-ne0.true) c.stop.ensures

pub enum_told-1 : goal.enum_told-1
enum_told-1 c = search rules

pub text-requires : goal.text-requires
text-requires c = search rules

pub enum_told-in-Text : goal.enum_told-in-Text
enum_told-in-Text c = search rules

pub text-requires-in-Text : goal.text-requires-in-Text
text-requires-in-Text c = search rules

pub enum_told-in-Reference : goal.enum_told-in-Reference
enum_told-in-Reference c = search rules

pub reference-requires : goal.reference-requires
reference-requires c = search rules

pub enum_told-in-Comment : goal.enum_told-in-Comment
enum_told-in-Comment c = search rules

pub comment-requires : goal.comment-requires
comment-requires c = search rules

pub enum_told-in-CData : goal.enum_told-in-CData
enum_told-in-CData c = search rules

pub cdata-requires : goal.cdata-requires
cdata-requires c = search rules

pub enum_told-in-Instruction : goal.enum_told-in-Instruction
enum_told-in-Instruction c = search rules

pub instruction-requires : goal.instruction-requires
instruction-requires c = search rules

pub enum_told-in-Closing : goal.enum_told-in-Closing
enum_told-in-Closing c = search rules

pub closing-requires : goal.closing-requires
closing-requires c = search rules

pub opening-requires : goal.opening-requires
opening-requires c = search rules

pub returns-in-Nothing : goal.returns-in-Nothing
unfolding whole_of
returns-in-Nothing c = simp (eq-eqb _ _ c.if-letters-ne0.false, c.in-Nothing.is) c.text.ensures

pub returns-in-Text : goal.returns-in-Text
unfolding whole_of
returns-in-Text c = simp (eq-eqb _ _ c.if-letters-ne0.false, c.in-Text.is) c.text-in-Text.ensures

pub returns-in-Reference : goal.returns-in-Reference
unfolding whole_of
returns-in-Reference c = simp (eq-eqb _ _ c.if-letters-ne0.false, c.in-Reference.is) c.reference.ensures

pub returns-in-Comment : goal.returns-in-Comment
unfolding whole_of
returns-in-Comment c = simp (eq-eqb _ _ c.if-letters-ne0.false, c.in-Comment.is) c.comment.ensures

pub returns-in-CData : goal.returns-in-CData
unfolding whole_of
returns-in-CData c = simp (eq-eqb _ _ c.if-letters-ne0.false, c.in-CData.is) c.cdata.ensures

pub returns-in-Instruction : goal.returns-in-Instruction
unfolding whole_of
returns-in-Instruction c = simp (eq-eqb _ _ c.if-letters-ne0.false, c.in-Instruction.is) c.instruction.ensures

pub returns-in-Closing : goal.returns-in-Closing
unfolding whole_of
returns-in-Closing c = simp (eq-eqb _ _ c.if-letters-ne0.false, c.in-Closing.is) c.closing.ensures

pub returns-in_default : goal.returns-in_default
unfolding whole_of
returns-in_default c =
    let d = c.in_default in
    simp (eq-eqb _ _ c.if-letters-ne0.false, becomes_tag c.args.reader c.args.known c.args.last c.args.room c.args.piece c.args.next c.args.known.part d.not-Nothing d.not-Text d.not-Reference d.not-Comment d.not-CData d.not-Instruction d.not-Closing) c.opening.ensures
