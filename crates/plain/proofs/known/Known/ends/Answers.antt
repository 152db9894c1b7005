-- `ends` meets its contract. Assumes nothing.
use borrow.Author.Rules.{rules}
use Rattle.plain.specs.Known.{ends_of}
use Rattle.plain.proofs.known.Known.ends.Goals as goal

pub enum_told-1 : goal.enum_told-1
enum_told-1 c = search rules

pub enum_told-in-Text : goal.enum_told-in-Text
enum_told-in-Text c = search rules

pub enum_told-in-Reference : goal.enum_told-in-Reference
enum_told-in-Reference c = search rules

pub enum_told-in-Opened : goal.enum_told-in-Opened
enum_told-in-Opened c = search rules

pub enum_told-in-Bang : goal.enum_told-in-Bang
enum_told-in-Bang c = search rules

pub enum_told-in-Comment : goal.enum_told-in-Comment
enum_told-in-Comment c = search rules

pub size-requires : goal.size-requires
size-requires c = search rules

pub enum_told-in-CData : goal.enum_told-in-CData
enum_told-in-CData c = search rules

pub enum_told-in-Instruction : goal.enum_told-in-Instruction
enum_told-in-Instruction c = search rules

pub enum_told-in-Closing : goal.enum_told-in-Closing
enum_told-in-Closing c = search rules

pub enum_told-in-Opening : goal.enum_told-in-Opening
enum_told-in-Opening c = search rules

pub returns-in-Nothing : goal.returns-in-Nothing
unfolding ends_of
returns-in-Nothing c = simp c.in-Nothing.is

pub returns-in-Text : goal.returns-in-Text
unfolding ends_of
returns-in-Text c = simp c.in-Text.is

pub returns-in-Reference : goal.returns-in-Reference
unfolding ends_of
returns-in-Reference c = simp c.in-Reference.is

pub returns-in-Opened : goal.returns-in-Opened
unfolding ends_of
returns-in-Opened c = simp c.in-Opened.is

pub returns-in-Bang : goal.returns-in-Bang
unfolding ends_of
returns-in-Bang c = simp c.in-Bang.is

pub returns-in-Comment : goal.returns-in-Comment
unfolding ends_of
returns-in-Comment c = simp (c.in-Comment.is, c.size.ensures)

pub returns-in-CData : goal.returns-in-CData
unfolding ends_of
returns-in-CData c = simp c.in-CData.is

pub returns-in-Instruction : goal.returns-in-Instruction
unfolding ends_of
returns-in-Instruction c = simp c.in-Instruction.is

pub returns-in-Closing : goal.returns-in-Closing
unfolding ends_of
returns-in-Closing c = simp c.in-Closing.is

pub returns-in-Opening : goal.returns-in-Opening
unfolding ends_of
returns-in-Opening c = simp c.in-Opening.is
