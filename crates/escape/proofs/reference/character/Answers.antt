-- `character` meets its contract. Assumes nothing.
use Rattle.escape.proofs.Numbers.{chars}
use Rattle.escape.proofs.reference.character.Goals as goal

pub is_char-requires : goal.is_char-requires
is_char-requires c = search chars

pub returns-then-is_char : goal.returns-then-is_char
returns-then-is_char c = search chars

pub returns : goal.returns
returns c = search chars
