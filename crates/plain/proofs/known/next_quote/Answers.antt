-- `next_quote` meets its contract. Assumes nothing.
use Rattle.plain.specs.Known.{next_quote}
use Rattle.plain.proofs.Flags.{flags}
use Rattle.plain.proofs.known.next_quote.Goals as goal

pub returns-then-b : goal.returns-then-b
unfolding next_quote
returns-then-b c = search flags

pub returns-else-b : goal.returns-else-b
unfolding next_quote
returns-else-b c = search flags

pub returns-then-b-quote : goal.returns-then-b-quote
unfolding next_quote
returns-then-b-quote c = search flags

pub returns-else-b-quote : goal.returns-else-b-quote
unfolding next_quote
returns-else-b-quote c = search flags
