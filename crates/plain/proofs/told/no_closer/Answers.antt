-- `no_closer` meets its contract. Assumes nothing.
use borrow.Author.Tests.{ne_eqb}
use borrow.Author.Rules.{rules}
use Rattle.plain.specs.Told.{in_tag, no_closer}
use Rattle.plain.proofs.Parts.{in_tag_lem}
use Rattle.plain.proofs.told.no_closer.Goals as goal

pub size-requires : goal.size-requires
size-requires c = search rules

pub enum_told-1 : goal.enum_told-1
enum_told-1 c = search rules

pub enum_told-in-CData : goal.enum_told-in-CData
enum_told-in-CData c = search rules

pub enum_told-in-Instruction : goal.enum_told-in-Instruction
enum_told-in-Instruction c = search rules

pub returns-in-Comment : goal.returns-in-Comment
unfolding no_closer in_tag
returns-in-Comment c = simp c.in-Comment.is

pub returns-in-CData : goal.returns-in-CData
unfolding no_closer in_tag
returns-in-CData c = simp c.in-CData.is

pub returns-then-xml : goal.returns-then-xml
unfolding no_closer in_tag
returns-then-xml c = simp (c.in-Instruction.is, c.if-xml.true, ← c.size.ensures)

pub returns-else-xml : goal.returns-else-xml
unfolding no_closer in_tag
returns-else-xml c = simp (c.in-Instruction.is, c.if-xml.false, ← c.size.ensures)

pub returns-in-39 : goal.returns-in-39
unfolding no_closer in_tag
returns-in-39 c = simp (in_tag_lem c.args.known c.args.known.part c.in_default.not-Comment c.in_default.not-CData c.in_default.not-Instruction, c.in-39.is)

pub returns-in-34 : goal.returns-in-34
unfolding no_closer in_tag
returns-in-34 c = simp (in_tag_lem c.args.known c.args.known.part c.in_default.not-Comment c.in_default.not-CData c.in_default.not-Instruction, c.in-34.is)

pub returns-in_default-quote : goal.returns-in_default-quote
unfolding no_closer in_tag
returns-in_default-quote c = simp (in_tag_lem c.args.known c.args.known.part c.in_default.not-Comment c.in_default.not-CData c.in_default.not-Instruction, ne_eqb _ _ c.in_default-quote.in_default-quote-own.rest.0.1, ne_eqb _ _ c.in_default-quote.in_default-quote-own.rest.1)
