-- `by_phase` meets its contract. Assumes nothing.
use Rattle.reader.proofs.Once.{pieces}
use Rattle.reader.proofs.turn.by_phase.Goals as goal

pub what_is_due-requires : goal.what_is_due-requires
what_is_due-requires c = search pieces

pub enum_known-from : goal.enum_known-from
enum_known-from c = search pieces

pub cut_next-requires : goal.cut_next-requires
cut_next-requires c = search pieces

pub take-requires : goal.take-requires
take-requires c = search pieces

pub enum_told-1 : goal.enum_told-1
enum_told-1 c = search pieces

pub close_expanded_empty-requires : goal.close_expanded_empty-requires
close_expanded_empty-requires c = search pieces

pub enum_told-in-Nothing : goal.enum_told-in-Nothing
enum_told-in-Nothing c = search pieces

pub end-requires : goal.end-requires
end-requires c = search pieces

pub returns-in-Piece : goal.returns-in-Piece
returns-in-Piece c = search pieces

pub returns-in-EmptyEnd : goal.returns-in-EmptyEnd
returns-in-EmptyEnd c = search pieces

pub returns-in-Nothing : goal.returns-in-Nothing
returns-in-Nothing c = search pieces
