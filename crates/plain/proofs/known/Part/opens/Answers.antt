-- `opens` meets its contract. Assumes nothing.
use borrow.Author.Rules.{rules}
use Rattle.plain.proofs.Parts.{no_opener}
use Rattle.plain.proofs.known.Part.opens.Goals as goal

pub enum_told-1 : goal.enum_told-1
enum_told-1 c = search rules

pub goes-requires : goal.goes-requires
goes-requires c = search rules

pub enum_told-in-CData : goal.enum_told-in-CData
enum_told-in-CData c = search rules

pub goes-requires-in-CData : goal.goes-requires-in-CData
goes-requires-in-CData c = search rules

pub enum_told-in-Instruction : goal.enum_told-in-Instruction
enum_told-in-Instruction c = search rules

pub goes-requires-in-Instruction : goal.goes-requires-in-Instruction
goes-requires-in-Instruction c = search rules

pub is_whitespace-requires : goal.is_whitespace-requires
is_whitespace-requires c = search rules

pub returns-in-Comment : goal.returns-in-Comment
returns-in-Comment c = simp c.in-Comment.is c.goes.ensures

pub returns-in-CData : goal.returns-in-CData
returns-in-CData c = simp c.in-CData.is c.goes-in-CData.ensures

pub returns-in-Instruction : goal.returns-in-Instruction
returns-in-Instruction c = simp (c.in-Instruction.is, ← c.goes-in-Instruction.ensures, ← c.is_whitespace.ensures)

pub returns-in_default : goal.returns-in_default
returns-in_default c = no_opener c.args.self _ _ c.in_default.not-Comment c.in_default.not-CData c.in_default.not-Instruction
