-- `by_phase` meets its contract. Assumes nothing.
use mathlib.Core.Path.{◌∙◌}
use borrow.Author.Rules.{rules}
use Rattle.reader.specs.Step.{step_phase}
use Rattle.plain.proofs.Phases.{first_readable, later_readable, reads_later, reads_first}
use Rattle.plain.proofs.by_phase.Goals as goal

pub enum_told-1 : goal.enum_told-1
enum_told-1 c = search rules

pub read-requires : goal.read-requires
read-requires c = first_readable _ _ _ c.requires c.in-Init.is

pub enum_told-in-InsideEmpty : goal.enum_told-in-InsideEmpty
enum_told-in-InsideEmpty c = search rules

pub close_empty-requires : goal.close_empty-requires
close_empty-requires c = search rules

pub enum_told-in-Done : goal.enum_told-in-Done
enum_told-in-Done c = search rules

pub end-requires : goal.end-requires
end-requires c = search rules

pub read-requires-in_default : goal.read-requires-in_default
read-requires-in_default c = later_readable _ _ _ c.requires

pub returns-in-Init : goal.returns-in-Init
returns-in-Init c = c.read.ensures ∙ reads_first _ _ _ _ c.in-Init.is

pub returns-in-InsideEmpty : goal.returns-in-InsideEmpty
unfolding step_phase
returns-in-InsideEmpty c = simp c.in-InsideEmpty.is c.close_empty.ensures

pub returns-in-Done : goal.returns-in-Done
unfolding step_phase
returns-in-Done c = simp c.in-Done.is c.end.ensures

pub returns-in_default : goal.returns-in_default
returns-in_default c = c.read-in_default.ensures ∙ reads_later _ _ _ _ c.requires c.in_default.in_default-own.keys4
