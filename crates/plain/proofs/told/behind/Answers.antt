-- `behind` meets its contract. Assumes nothing.
use Rattle.plain.specs.Told.{behind}
use Rattle.plain.proofs.Flags.{flags}
use Rattle.plain.proofs.told.behind.Goals as goal

pub returns-in-60 : goal.returns-in-60
unfolding behind
returns-in-60 c = search flags

pub returns-in-38 : goal.returns-in-38
unfolding behind
returns-in-38 c = search flags

pub returns-in_default : goal.returns-in_default
unfolding behind
returns-in_default c = search flags
