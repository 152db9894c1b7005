-- `what_is_due` meets its contract. Assumes nothing.
use borrow.Author.Rules.{rules}
use Rattle.reader.specs.Asked.{due_of}
use Rattle.reader.proofs.turn.what_is_due.Goals as goal

pub enum_told-1 : goal.enum_told-1
enum_told-1 c = search rules

pub begin-requires : goal.begin-requires
begin-requires c = search rules

pub skip-requires : goal.skip-requires
skip-requires c = search rules

pub enum_told-in-InsideText : goal.enum_told-in-InsideText
enum_told-in-InsideText c = search rules

pub skip-requires-in-InsideText : goal.skip-requires-in-InsideText
skip-requires-in-InsideText c = search rules

pub enum_told-in-InsideMarkup : goal.enum_told-in-InsideMarkup
enum_told-in-InsideMarkup c = search rules

pub enum_told-in-InsideRef : goal.enum_told-in-InsideRef
enum_told-in-InsideRef c = search rules

pub enum_told-in-InsideEmpty : goal.enum_told-in-InsideEmpty
enum_told-in-InsideEmpty c = search rules

pub enum_told-in-Done : goal.enum_told-in-Done
enum_told-in-Done c = search rules

pub returns-in-Init : goal.returns-in-Init
unfolding due_of
returns-in-Init c = simp (← c.skip.ensures, ← c.begin.ensures, c.in-Init.is)

pub returns-in-InsideText : goal.returns-in-InsideText
unfolding due_of
returns-in-InsideText c = simp (← c.skip-in-InsideText.ensures, c.in-InsideText.is)

pub returns-in-InsideMarkup : goal.returns-in-InsideMarkup
unfolding due_of
returns-in-InsideMarkup c = simp c.in-InsideMarkup.is

pub returns-in-InsideRef : goal.returns-in-InsideRef
unfolding due_of
returns-in-InsideRef c = simp c.in-InsideRef.is

pub returns-in-InsideEmpty : goal.returns-in-InsideEmpty
unfolding due_of
returns-in-InsideEmpty c = simp c.in-InsideEmpty.is

pub returns-in-Done : goal.returns-in-Done
unfolding due_of
returns-in-Done c = simp c.in-Done.is
