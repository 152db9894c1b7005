-- `name_len` meets its contract. Assumes nothing.
use borrow.Author.Rules.{rules}
use Rattle.plain.proofs.known.Known.name_len.Goals as goal

pub size-requires : goal.size-requires
size-requires c = search rules
