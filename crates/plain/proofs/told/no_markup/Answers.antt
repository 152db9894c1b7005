-- `no_markup` meets its contract. Assumes nothing.
use Rattle.plain.specs.Told.{no_markup}
use Rattle.plain.proofs.Flags.{flags}
use Rattle.plain.proofs.told.no_markup.Goals as goal

pub returns-then-b : goal.returns-then-b
unfolding no_markup
returns-then-b c = search flags

pub returns-else-b : goal.returns-else-b
unfolding no_markup
returns-else-b c = search flags
