-- `last_end` meets its contract. Assumes nothing.
use Rattle.pieces.proofs.Texts.{texts}
use Rattle.pieces.proofs.text.last_end.Goals as goal

pub returns-then-piece-from : goal.returns-then-piece-from
returns-then-piece-from c = search texts

pub overflow_sub-piece : goal.overflow_sub-piece
overflow_sub-piece c = search texts

pub neither-requires : goal.neither-requires
neither-requires c = search texts

pub text_end-requires : goal.text_end-requires
text_end-requires c = search texts

pub returns-then-neither : goal.returns-then-neither
returns-then-neither c = search texts

pub returns-else-neither : goal.returns-else-neither
returns-else-neither c = search texts
