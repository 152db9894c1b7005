-- `text_on` meets its contract. Assumes nothing.
use Rattle.pieces.proofs.Texts.{texts}
use Rattle.pieces.proofs.text.text_on.Goals as goal

pub returns-then-piece-from : goal.returns-then-piece-from
returns-then-piece-from c = search texts

pub overflow_sub-piece : goal.overflow_sub-piece
overflow_sub-piece c = search texts

pub behind-requires : goal.behind-requires
behind-requires c = search texts

pub overflow_sub-cut : goal.overflow_sub-cut
overflow_sub-cut c = search texts

pub part-requires : goal.part-requires
part-requires c = search texts

pub text_end-requires : goal.text_end-requires
text_end-requires c = search texts

pub enum_known-place : goal.enum_known-place
enum_known-place c = search texts

pub enum_told-1 : goal.enum_told-1
enum_told-1 c = search texts

pub last_end-requires : goal.last_end-requires
last_end-requires c = search texts

pub returns-in-At : goal.returns-in-At
returns-in-At c = search texts

pub returns-in-End : goal.returns-in-End
returns-in-End c = search texts
