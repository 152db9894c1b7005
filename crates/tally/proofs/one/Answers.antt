-- `one` meets its contract. Assumes nothing.
use Rattle.ground.proofs.Choices.{choices}
use Rattle.tally.proofs.one.Goals as goal

pub returns-then-a-b : goal.returns-then-a-b
returns-then-a-b c = search choices

pub returns-else-a-b : goal.returns-else-a-b
returns-else-a-b c = search choices
