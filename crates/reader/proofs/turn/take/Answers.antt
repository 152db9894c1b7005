-- `take` meets its contract. Assumes nothing.
use borrow.Author.Rules.{rules}
use Rattle.reader.specs.Step.{taken}
use Rattle.reader.proofs.turn.take.Goals as goal

pub enum_known-cut : goal.enum_known-cut
enum_known-cut c = search rules

pub checked-requires : goal.checked-requires
checked-requires c = search rules

pub enum_known-cut-in-Stop-1 : goal.enum_known-cut-in-Stop-1
enum_known-cut-in-Stop-1 c = search rules

pub stop-requires : goal.stop-requires
stop-requires c = search rules

pub returns-in-Piece : goal.returns-in-Piece
unfolding taken
returns-in-Piece c = simp c.in-Piece.is c.checked.ensures

pub returns-in-Stop : goal.returns-in-Stop
unfolding taken
returns-in-Stop c = simp c.in-Stop.is c.stop.ensures
