-- `in_place` meets its contract. Assumes nothing.
use borrow.Author.Rules.{rules}
use Rattle.reader.specs.Sound.{is_in_place}
use Rattle.plain.proofs.Flags.{and_pick}
use Rattle.plain.proofs.in_place.Goals as goal

pub enum_told-1 : goal.enum_told-1
enum_told-1 c = search rules

pub enum_told-in-InsideText : goal.enum_told-in-InsideText
enum_told-in-InsideText c = search rules

pub enum_told-in-InsideMarkup : goal.enum_told-in-InsideMarkup
enum_told-in-InsideMarkup c = search rules

pub byte_at-requires : goal.byte_at-requires
byte_at-requires c = search rules

pub enum_told-in-InsideRef : goal.enum_told-in-InsideRef
enum_told-in-InsideRef c = search rules

pub byte_at-requires-in-InsideRef : goal.byte_at-requires-in-InsideRef
byte_at-requires-in-InsideRef c = search rules

pub enum_told-in-InsideEmpty : goal.enum_told-in-InsideEmpty
enum_told-in-InsideEmpty c = search rules

pub enum_told-in-Done : goal.enum_told-in-Done
enum_told-in-Done c = search rules

pub returns-in-Init : goal.returns-in-Init
unfolding is_in_place
returns-in-Init c = simp (c.in-Init.is, and_pick)

pub returns-in-InsideText : goal.returns-in-InsideText
unfolding is_in_place
returns-in-InsideText c = simp c.in-InsideText.is

pub returns-in-InsideMarkup : goal.returns-in-InsideMarkup
unfolding is_in_place
returns-in-InsideMarkup c = simp (← c.byte_at.ensures, c.in-InsideMarkup.is)

pub returns-in-InsideRef : goal.returns-in-InsideRef
unfolding is_in_place
returns-in-InsideRef c = simp (← c.byte_at-in-InsideRef.ensures, c.in-InsideRef.is)

pub returns-in-InsideEmpty : goal.returns-in-InsideEmpty
unfolding is_in_place
returns-in-InsideEmpty c = simp c.in-InsideEmpty.is

pub returns-in-Done : goal.returns-in-Done
unfolding is_in_place
returns-in-Done c = simp c.in-Done.is
